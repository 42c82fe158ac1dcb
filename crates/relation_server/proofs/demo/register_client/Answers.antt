use Rattle.std.proofs.Common.{◌≡◌, ◌∙◌, ℕ, pos, [], ◌∷◌, Err, ap, sym, subst}
use Rattle.pg_cancel.specs.declared.entries.RegistryCall.TheVariants.{Register}
use Rattle.pg_cancel.specs.declared.entries.RegistryAnswer.TheVariants.{Registered, Taken}
use Rattle.pg_cancel.specs.Connections.{Registers, entry}
use Rattle.pg_cancel.specs.declared.manager.RegisterError.TheVariants as refusal
use Rattle.relation_server.specs.Program.{demo_registration}
use Rattle.relation_server.proofs.Completing.{is_newcomer}
use Rattle.relation_server.proofs.demo.register_client.Goals as goal

pub returns-in-Err-PidTaken-clause-refused : goal.returns-in-Err-PidTaken-clause-refused
returns-in-Err-PidTaken-clause-refused g c =
    let m = c.in-Err-PidTaken.field-0-0 in
    let is : c.register.result ≡ Err (refusal.PidTaken m) = c.in-Err-PidTaken.is ∙ ap Err c.in-Err-PidTaken.field-0-is in
    let key_is : c.in-Ok.key ≡ demo_registration.1 = c.in-Ok.ensures.ok in
    let taken = subst (λ k. (n : ℕ) × Registers n (Register (pos 1) k) c.args.door.now.seen c.register.new.door.seen (Taken m)) key_is
    (c.register.ensures.taken m is) in
    (taken.0, m, taken.1, (c.register.ensures.exactly (λ other. cc (sym is ∙ other)) m).0 is)

pub returns-in-Ok-register-clause-handle : goal.returns-in-Ok-register-clause-handle
returns-in-Ok-register-clause-handle g c =
    let h = c.in-Ok-register.handle in
    let told = c.in-Ok-register.ensures in
    let key_is : c.in-Ok.key ≡ demo_registration.1 = c.in-Ok.ensures.ok in
    let mine = told.mine ∙ ap (λ k. entry h.number (Register (pos 1) k) Registered ∷ []) key_is in
    is_newcomer h c.args.manager.now demo_registration.0 demo_registration.1 c.register.new.door.seen told.handle.0 told.handle.1
    (told.handle.2 ∙ key_is) told.seen mine

pub returns-in-Ok-register-clause-registered : goal.returns-in-Ok-register-clause-registered
returns-in-Ok-register-clause-registered g c =
    let key_is : c.in-Ok.key ≡ demo_registration.1 = c.in-Ok.ensures.ok in
    subst (λ k. Registers c.in-Ok-register.handle.number (Register (pos 1) k) c.args.door.now.seen c.register.new.door.seen Registered) key_is
    c.in-Ok-register.ensures.registered
