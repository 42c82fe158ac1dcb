use Rattle.std.proofs.Common.{◌≡◌, ◌<◌, ◌^◌, ◌∙◌, ℕ, ℤ, List, [], ◌∷◌, ◌++◌, Err, ap, arith, refl, subst, sym, w32}
use Rattle.std.proofs.lemmas.Int.{to_z_pos}
use Rattle.std.proofs.lemmas.List.{append_assoc}
use Rattle.std.proofs.lemmas.Result.{err_from_is_err_and}
use mathlib.Core.List.{IsPrefix}
use Rattle.pg_cancel.specs.declared.entries.Entry.{Entry}
use Rattle.pg_cancel.specs.declared.entries.RegistryAnswer.{RegistryAnswer}
use Rattle.pg_cancel.specs.declared.entries.RegistryCall.{RegistryCall}
use Rattle.pg_cancel.specs.declared.entries.RegistryCall.TheVariants.{Register}
use Rattle.pg_cancel.specs.declared.entries.RegistryAnswer.TheVariants.{Registered, Taken}
use Rattle.pg_cancel.specs.declared.manager.RegisterError.TheVariants as refusal
use Rattle.pg_cancel.specs.Connections.{Connection, Registers, Witness, entry}
use Rattle.pg_cancel.proofs.Prefixes.{prefix_self}
use Rattle.many_clients.specs.Registrations.{IsFresh}
use Rattle.many_clients.proofs.Taking.{admits, refuses}
use Rattle.many_clients.proofs.accept_loop.register_next.Goals as goal

-- what was seen goes on with the Register
goes_on : (n : ℕ) (call : RegistryCall) (seen seen' : List Entry) (answer : RegistryAnswer) → Registers n call seen seen' answer
    → IsPrefix seen seen'
goes_on n call seen seen' answer r =
    (r.between ++ entry n call answer ∷ [], sym (append_assoc seen r.between (entry n call answer ∷ [])) ∙ sym r.ends)

-- a connection that has made no call but its Register
fresh : (h : Connection) (pid : ℤ) (key : List ℕ) → h.pid ≡ pid → h.key ≡ key
    → h.mine ≡ entry h.number (Register pid key) Registered ∷ [] → IsFresh 0 h
fresh h pid key p k mine = (refl, rw (p, k) mine)

pub returns-in_err-key : goal.returns-in_err-key
returns-in_err-key g c =
    let p = err_from_is_err_and c.from_residual.result c.from_residual.ensures.1 in
    rw (p.1, p.2) (record {
      handle = tt;
      fresh = tt;
      admitted = tt;
      refused = refl;
      door = (prefix_self c.args.door.now.seen, refl);
    })

pub returns-in-Ok-clause-handle : goal.returns-in-Ok-clause-handle
returns-in-Ok-clause-handle g c =
    let fits : c.args.pid < 2 ^ 31 = omega (arith, c.requires.pid) in
    (c.in-Ok.ensures.handle.0, c.in-Ok.ensures.handle.1 ∙ to_z_pos w32 c.args.pid fits)

pub returns-in-Ok-clause-fresh : goal.returns-in-Ok-clause-fresh
returns-in-Ok-clause-fresh g c =
    fresh c.in-Ok.handle _ _ c.in-Ok.ensures.handle.1 c.in-Ok.ensures.handle.2 c.in-Ok.ensures.mine

pub returns-in-Ok-clause-admitted : goal.returns-in-Ok-clause-admitted
returns-in-Ok-clause-admitted g c =
    let number = c.in-Ok.handle.number in
    let key = c.in_ok-key.key in
    let seen = c.args.door.now.seen in
    let seen' = c.register.new.door.seen in
    let fits : c.args.pid < 2 ^ 31 = omega (arith, c.requires.pid) in
    let registered = subst (λ pid. Registers number (Register pid key) seen seen' Registered) (to_z_pos w32 c.args.pid fits)
    c.in-Ok.ensures.registered in
    admits number c.args.pid key seen seen' registered

pub returns-in-Ok-clause-door : goal.returns-in-Ok-clause-door
returns-in-Ok-clause-door g c = (goes_on _ _ _ _ _ c.in-Ok.ensures.registered, c.register.ensures.issued)

pub returns-in-Err-PidTaken-clause-refused : goal.returns-in-Err-PidTaken-clause-refused
returns-in-Err-PidTaken-clause-refused g c =
    let m = c.in-Err-PidTaken.holder in
    let is : c.register.result ≡ Err (refusal.PidTaken m) = c.in-Err-PidTaken.is ∙ ap Err c.in-Err-PidTaken.field-0-is in
    let taken = c.register.ensures.taken m is in
    let key = c.in_ok-key.key in
    let seen = c.args.door.now.seen in
    let seen' = c.register.new.door.seen in
    let fits : c.args.pid < 2 ^ 31 = omega (arith, c.requires.pid) in
    let registered = subst (λ pid. Registers taken.0 (Register pid key) seen seen' (Taken m)) (to_z_pos w32 c.args.pid fits) taken.1 in
    refuses m taken.0 c.args.pid key seen seen' registered

pub returns-in-Err-PidTaken-clause-door : goal.returns-in-Err-PidTaken-clause-door
returns-in-Err-PidTaken-clause-door g c =
    let m = c.in-Err-PidTaken.holder in
    let is : c.register.result ≡ Err (refusal.PidTaken m) = c.in-Err-PidTaken.is ∙ ap Err c.in-Err-PidTaken.field-0-is in
    (goes_on _ _ _ _ _ (c.register.ensures.taken m is).1, c.register.ensures.issued)

pub returns-in-Err-NoMemory : goal.returns-in-Err-NoMemory
returns-in-Err-NoMemory g c =
    let is : c.register.result ≡ Err refusal.NoMemory = c.in-Err-NoMemory.is ∙ ap Err c.in-Err-NoMemory.field-0-is in
    let same = ap (λ (door : Witness). door.seen) (c.register.ensures.no_memory is) in
    record {
      handle = tt;
      fresh = tt;
      admitted = tt;
      refused = same;
      door = (
        subst (λ l. IsPrefix c.args.door.now.seen l) (sym same) (prefix_self c.args.door.now.seen),
        c.register.ensures.issued,
      );
    }
