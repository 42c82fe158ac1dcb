use Rattle.std.proofs.Common.{◌≡◌, Some, None, IsSomeAnd, subst, sym}
use Rattle.std.proofs.lemmas.Bool.{false≢true}
use Rattle.std.specs.Ordering.{int_cmp}
use Rattle.std.specs.BTreeMap.{get}
use Rattle.pg_cancel.specs.declared.holders.Holder.{Holder}
use Rattle.pg_cancel.proofs.Noting.{held_by, held_none, read_at}
use Rattle.pg_cancel.proofs.holders.Holders.is_connected.Goals as goal

pub returns-in-Some : goal.returns-in-Some
returns-in-Some c =
    let m = c.args.self.now.by_pid in
    let pid = c.args.pid in
    let key = c.args.key.now in
    let holder = c.in-Some.holder.now in
    let at = read_at m pid (Some holder) c.ranges.pid c.in-Some.ensures.value in (
      λ yes. subst (λ o. IsSomeAnd o (λ (x : Holder). x.key ≡ key)) (sym at) (c.is_same.ensures.0 yes),
      λ held. c.is_same.ensures.1 (held_by (get int_cmp m pid) holder key at held),
    )

pub returns-in-None : goal.returns-in-None
returns-in-None c =
    let m = c.args.self.now.by_pid in
    let pid = c.args.pid in
    let at = read_at m pid None c.ranges.pid c.in-None.ensures.value in
    (λ yes. absurd (false≢true yes), λ held. held_none (get int_cmp m pid) c.args.key.now at held)
