use Rattle.std.proofs.Common.{rules, ◌≡◌, [], ◌∷◌, ◌++◌, w32, sym, subst}
use mir.Val.{to_z, of_z}
use Rattle.pg_cancel.specs.declared.entries.RegistryCall.TheVariants.{Unregister}
use Rattle.pg_cancel.specs.declared.entries.RegistryAnswer.TheVariants.{Done}
use Rattle.pg_cancel.specs.Connections.{Connection, Begins, Made, entry}
use Rattle.pg_cancel.proofs.Events.{ended}
use Rattle.pg_cancel.proofs.manager.ConnectionManager.unregister.Goals as goal

pub returns-in-Ok-clause-ok : goal.returns-in-Ok-clause-ok
returns-in-Ok-clause-ok g c =
    let seen = c.make_call.new.seat.me.0.seen in
    subst (λ (h : Connection). Made h.number Unregister h.seen h.mine seen
    (h.mine ++ entry h.number Unregister Done ∷ []) Done) c.handle.view_is
    (ended _ _ _ _ _ _ c.in-Ok.ensures.told c.in-Ok.ensures.ok.1)

pub make_call-requires-clause-begins : goal.make_call-requires-clause-begins
make_call-requires-clause-begins g c =
    let h = c.handle.inside in
    let pid : to_z w32 (of_z w32 h.pid) ≡ h.pid = search rules in
    let x = c.handle.invariant.1 in
    (x.0, subst (λ p. Begins h.seat.me.0.mine h.number p x.0) (sym pid) x.1)
