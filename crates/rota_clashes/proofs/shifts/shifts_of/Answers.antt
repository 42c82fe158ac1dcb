-- A place more; at the end all shifts are there, and the sort keeps them; and the sort's order is that of the beginnings.
use Rattle.std.proofs.Common.{rules, arith}
use Rattle.std.proofs.lemmas.List.Sorted.{IsNonDecreasingBy-from_sort_by_key, All-permutation, Contains-permutation}
use Rattle.rota_clashes.specs.Shifts.{start_of, IsShift}
use Rattle.rota_clashes.proofs.ShiftLemmas.{shifts_more, shifts_all}
use Rattle.rota_clashes.proofs.shifts.shifts_of.Goals as goal

pub loop-place-preserved : goal.loop-place-preserved
loop-place-preserved c =
    shifts_more c.args.moments.now c.loop-place.place c.loop-place.shifts.items c.push_shift.new.shifts.items c.loop-place.invariant
    c.in_ok-push_shift.ensures

pub returns-clause-shifts : goal.returns-clause-shifts
returns-clause-shifts c =
    let gathered = c.loop-place.shifts.items in
    let sorted = c.sort_unstable_by_key.new.self.items in
    let same = c.sort_unstable_by_key.ensures.permutation in
    let all = shifts_all c.args.moments.now c.loop-place.place gathered
    (omega (arith, c.loop-place-test.false, c.saturating_sub-place-end.ensures)) c.loop-place.invariant in
    record {
      each = All-permutation (IsShift c.args.moments.now) gathered sorted same all.each;
      all = λ s h. Contains-permutation gathered sorted s same (all.all s h);
    }

pub returns-clause-in_order : goal.returns-clause-in_order
returns-clause-in_order c =
    IsNonDecreasingBy-from_sort_by_key start_of c.sort_unstable_by_key.new.self.items c.sort_unstable_by_key.ensures.sorted
    (λ a r q k. search rules)
