-- The two places split the shifts by their beginnings.
use Rattle.std.proofs.Common.{arith, rules, nat_lt}
use Rattle.std.proofs.lemmas.List.Sorted.{IsPartitionPoint-from_clause, IsPartitionedBy-ltb}
use Rattle.rota_clashes.specs.declared.shifts.Shift.{Shift}
use Rattle.rota_clashes.specs.Shifts.{start_of}
use Rattle.rota_clashes.proofs.ShiftLemmas.{SplitAt, none_between, those_between}
use Rattle.rota_clashes.proofs.shifts.begun_between.Goals as goal

pub returns-then-to-from : goal.returns-then-to-from
returns-then-to-from c =
    let xs = c.args.shifts.now in
    let from = c.partition_point-from.result in
    let to = c.partition_point-to.result in
    let pf : SplitAt xs c.args.low from = IsPartitionPoint-from_clause (λ (s : Shift). nat_lt s.start c.args.low) xs from
    c.partition_point-from.ensures.partitioned (IsPartitionedBy-ltb start_of xs c.args.low c.requires) (λ a r q k. search rules) in
    let pt : SplitAt xs c.args.high to = IsPartitionPoint-from_clause (λ (s : Shift). nat_lt s.start c.args.high) xs to
    c.partition_point-to.ensures.partitioned (IsPartitionedBy-ltb start_of xs c.args.high c.requires) (λ a r q k. search rules) in
    none_between xs c.args.low c.args.high from to pf pt c.if-to-from.true

pub returns : goal.returns
returns c =
    let xs = c.args.shifts.now in
    let from = c.partition_point-from.result in
    let to = c.partition_point-to.result in
    let pf : SplitAt xs c.args.low from = IsPartitionPoint-from_clause (λ (s : Shift). nat_lt s.start c.args.low) xs from
    c.partition_point-from.ensures.partitioned (IsPartitionedBy-ltb start_of xs c.args.low c.requires) (λ a r q k. search rules) in
    let pt : SplitAt xs c.args.high to = IsPartitionPoint-from_clause (λ (s : Shift). nat_lt s.start c.args.high) xs to
    c.partition_point-to.ensures.partitioned (IsPartitionedBy-ltb start_of xs c.args.high c.requires) (λ a r q k. search rules) in
    those_between xs c.args.low c.args.high from to pf pt (omega (arith, c.if-to-from.false)) c.partition_point-to.ensures.bound
