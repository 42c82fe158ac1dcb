use Rattle.std.proofs.Common.{◌≡◌, Some, None, w32, rules, ap, subst, sym, ◌∙◌}
use mir.Val.{to_z, of_z}
use Rattle.std.proofs.lemmas.Bool.{false≢true}
use Rattle.std.specs.Ordering.{int_cmp}
use Rattle.std.specs.BTreeMap.{get}
use Rattle.pg_cancel.specs.declared.holders.Holder.{Holder}
use Rattle.pg_cancel.specs.declared.holders.Query.{Query}
use Rattle.pg_cancel.specs.Index.{IsHeldBy, canceled}
use Rattle.pg_cancel.proofs.Noting.{notes_canceled, notes_unmet, not_connected, held_by, held_none, Changes, read_at, written_at}
use Rattle.pg_cancel.proofs.holders.Holders.cancel.Goals as goal

pub returns-then-not-is_connected : goal.returns-then-not-is_connected
returns-then-not-is_connected c =
    let m = c.args.self.now.by_pid in
    let pid = c.args.pid in
    let key = c.args.key.now in
    let is : to_z w32 (of_z w32 pid) ≡ pid = search rules in
    let other : IsHeldBy c.args.self.now pid key → ⊥ = λ held. false≢true (sym c.if-not-is_connected.true
    ∙ c.is_connected.ensures.1 (subst (λ p. IsHeldBy c.args.self.now p key) (sym is) held)) in
    λ place caller h number legal index _ may. notes_unmet h m pid key index (not_connected h c.args.self.now pid key legal index other)
    number

pub unreachable-requires : goal.unreachable-requires
unreachable-requires c =
    let m = c.args.self.now.by_pid in
    let pid = c.args.pid in
    let key = c.args.key.now in
    let is : to_z w32 (of_z w32 pid) ≡ pid = search rules in
    let held = subst (λ p. IsHeldBy c.args.self.now p key) is (c.is_connected.ensures.0 c.if-not-is_connected.false) in
    held_none (get int_cmp m pid) key (read_at m pid None c.ranges.pid c.in_default.ensures.value) held

pub returns : goal.returns
returns c =
    let m = c.args.self.now.by_pid in
    let pid = c.args.pid in
    let key = c.args.key.now in
    let is : to_z w32 (of_z w32 pid) ≡ pid = search rules in
    let holder = c.in-Some.holder.now in
    let w : Holder = record { number = holder.number; key = holder.key; query = c.canceled-holder.result } in
    let n = c.get_mut.follows.lender w in
    let at = read_at m pid (Some holder) c.ranges.pid c.in-Some.ensures.value in
    let changes = written_at m n pid w holder c.ranges.pid at (c.get_mut.follows.holds w) in
    let held = subst (λ p. IsHeldBy c.args.self.now p key) is (c.is_connected.ensures.0 c.if-not-is_connected.false) in
    let same : holder.key ≡ key = held_by (get int_cmp m pid) holder key at held in
    let canceled_is : w ≡ record { number = holder.number; key = holder.key; query = canceled holder.query } =
    ap (λ (q : Query). record { number = holder.number; key = holder.key; query = q }) c.canceled-holder.ensures in
    λ place caller h number legal index _ may. notes_canceled h m n pid key holder index at same
    (subst (λ (x : Holder). Changes m n pid (Some x)) canceled_is changes) number
