use Rattle.std.proofs.Common.{rules, ◌≡◌, ℤ, ◌∷◌, [], w32, refl, ap, sym, ◌∙◌}
use mir.Val.{to_z, of_z}
use Rattle.pg_cancel.proofs.Turning.{passes}
use Rattle.pg_cancel.proofs.Events.{free_exactly, refused_exactly, registers_as}
use Rattle.pg_cancel.specs.declared.entries.RegistryCall.TheVariants.{Register}
use Rattle.pg_cancel.specs.declared.entries.RegistryAnswer.TheVariants.{Registered}
use Rattle.pg_cancel.specs.Connections.{Witness, entry}
use Rattle.pg_cancel.proofs.Handles.{Sat, passed_door, passed_handle, passed_own, passed_seen, refused_taken, refused_none, registers_for, ok_is_no_err, no_pid}
use Rattle.pg_cancel.proofs.manager.ConnectionManager.register.Goals as goal

pub split_seat-seat-requires : goal.split_seat-seat-requires
split_seat-seat-requires g c = (search rules, search rules, passes _ _ c.in-Ok-enter.ensures.ok.0.0.1)

pub returns-in-Ok-enter-clause-exactly : goal.returns-in-Ok-enter-clause-exactly
returns-in-Ok-enter-clause-exactly g c =
    let pid : to_z w32 (of_z w32 c.args.pid) ≡ c.args.pid = search rules in
    let seen : c.enter.new.seat.me.0.seen ≡ c.split_seat-seat.new.seat.me.0.seen = sym (ap (λ m. m.0.seen) c.split_seat-seat.ensures.2) in
    λ _ m. free_exactly _ _ c.args.pid _ _ _ (registers_as _ _ _ _ _ _ _ _ pid seen c.in-Ok-enter.ensures.ok.1) m

pub returns-in-Err-enter-clause-exactly : goal.returns-in-Err-enter-clause-exactly
returns-in-Err-enter-clause-exactly g c =
    let pid : to_z w32 (of_z w32 c.args.pid) ≡ c.args.pid = search rules in
    λ some. refused_exactly c.in-Err-enter.refusal c.enter.result c.args.pid c.args.key _ _ c.in-Err-enter.is
    (λ m is. let t = (c.enter.ensures.taken m is).1 in (t.0, registers_as _ _ _ _ _ _ _ _ pid refl t.1))
    some

pub enter-requires : goal.enter-requires
enter-requires g c =
    record { issued = ap (λ (v : Witness). v.issuer) c.door.view_is ∙ c.requires.issued; door = c.door.invariant; call = refl }

pub invariant_of-door : goal.invariant_of-door
invariant_of-door g c =
    passed_door c.enter.new.seat.me c.split_seat-seat.new.seat.me _ _ c.split_seat-seat.ensures.2 c.in-Ok-enter.ensures.ok.0

pub invariant_of-result : goal.invariant_of-result
invariant_of-result g c =
    passed_handle c.enter.new.seat.me c.split_seat-seat.result.me c.in-Ok-enter.number _ _ c.in-Ok.own c.split_seat-seat.ensures.4
    c.in-Ok.ensures c.in-Ok-enter.ensures.ok.0

pub returns-in-Ok-enter-clause-registered : goal.returns-in-Ok-enter-clause-registered
returns-in-Ok-enter-clause-registered g c =
    let pid : to_z w32 (of_z w32 c.args.pid) ≡ c.args.pid = search rules in
    let seen : c.enter.new.seat.me.0.seen ≡ c.split_seat-seat.new.seat.me.0.seen = sym (ap (λ m. m.0.seen) c.split_seat-seat.ensures.2) in
    registers_for _ _ c.args.pid _ _ c.args.door.now _ _ _ c.door.view_is pid seen c.in-Ok-enter.ensures.ok.1

pub returns-in-Ok-enter-clause-issued : goal.returns-in-Ok-enter-clause-issued
returns-in-Ok-enter-clause-issued g c =
    c.split_seat-seat.ensures.0 ∙ (c.enter.ensures.same.0 ∙ ap (λ (v : Witness). v.issuer) c.door.view_is)

pub returns-in-Ok-enter-clause-handle : goal.returns-in-Ok-enter-clause-handle
returns-in-Ok-enter-clause-handle g c =
    let pid : to_z w32 (of_z w32 c.args.pid) ≡ c.args.pid = search rules in
    let issued = c.enter.ensures.same.0 ∙ (ap (λ (v : Witness). v.issuer) c.door.view_is ∙ c.requires.issued) in
    (c.split_seat-seat.ensures.3 ∙ issued, pid, c.in-Ok.ensures)

pub returns-in-Ok-enter-clause-seen : goal.returns-in-Ok-enter-clause-seen
returns-in-Ok-enter-clause-seen g c =
    let split = c.split_seat-seat in
    passed_seen c.enter.new.seat.me split.new.seat.me split.result.me split.ensures.2 split.ensures.4

pub returns-in-Ok-enter-clause-mine : goal.returns-in-Ok-enter-clause-mine
returns-in-Ok-enter-clause-mine g c =
    let pid : to_z w32 (of_z w32 c.args.pid) ≡ c.args.pid = search rules in
    ap (λ (z : Sat). z.0.mine) c.split_seat-seat.ensures.4
    ∙ (c.in-Ok-enter.ensures.ok.0.4
    ∙ ap (λ (p : ℤ). entry c.in-Ok-enter.number (Register p c.args.key) Registered ∷ []) pid)

pub returns-in-Ok-enter-clause-own : goal.returns-in-Ok-enter-clause-own
returns-in-Ok-enter-clause-own g c =
    let split = c.split_seat-seat in
    passed_own c.enter.new.seat.me split.result.me c.in-Ok-enter.number _ split.ensures.4 c.in-Ok-enter.ensures.ok.0

pub returns-in-Ok-enter-clause-taken : goal.returns-in-Ok-enter-clause-taken
returns-in-Ok-enter-clause-taken g c = λ m same. absurd (ok_is_no_err _ _ same)

pub returns-in-Ok-enter-clause-no_memory : goal.returns-in-Ok-enter-clause-no_memory
returns-in-Ok-enter-clause-no_memory g c = λ same. absurd (ok_is_no_err _ _ same)

pub returns-in-Err-enter-clause-issued : goal.returns-in-Err-enter-clause-issued
returns-in-Err-enter-clause-issued g c = c.enter.ensures.same.0 ∙ ap (λ (v : Witness). v.issuer) c.door.view_is

pub returns-in-Err-enter-clause-taken : goal.returns-in-Err-enter-clause-taken
returns-in-Err-enter-clause-taken g c =
    let pid : to_z w32 (of_z w32 c.args.pid) ≡ c.args.pid = search rules in
    λ m same. refused_taken c.in-Err-enter.refusal c.enter.result _ c.args.pid c.args.key _ c.args.door.now
    c.enter.new.seat.me.0.seen c.in-Err-enter.is c.door.view_is pid (λ k is. (c.enter.ensures.taken k is).1) m same

pub returns-in-Err-enter-clause-no_memory : goal.returns-in-Err-enter-clause-no_memory
returns-in-Err-enter-clause-no_memory g c =
    λ same. refused_none c.in-Err-enter.refusal c.enter.result _ _ c.door.inside.seat.me c.enter.new.seat.me _
    c.in-Err-enter.is c.enter.ensures.no_memory c.enter.ensures.same.0 c.door.view_is same

pub returns-in-Err : goal.returns-in-Err
returns-in-Err g c = record {
  issued = refl;
  registered = tt;
  handle = tt;
  seen = tt;
  mine = tt;
  own = tt;
  taken = λ m same. absurd (no_pid m same);
  exactly = λ some. absurd (some refl);
  no_memory = λ same. refl;
}
