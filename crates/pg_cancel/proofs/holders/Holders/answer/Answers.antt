use Rattle.std.proofs.Common.{◌≡◌, w32, rules, subst, sym}
use mir.Val.{to_z, of_z}
use Rattle.pg_cancel.specs.declared.entries.RegistryCall.TheVariants.{Start, Ask, Narrow, Unregister}
use Rattle.pg_cancel.specs.Index.{IsHeld}
use Rattle.pg_cancel.proofs.Noting.{notes_as, register_as, cancel_as, held_of}
use Rattle.pg_cancel.proofs.holders.Holders.answer.Goals as goal

pub start-requires : goal.start-requires
start-requires c =
    let pid : to_z w32 (of_z w32 c.args.pid) ≡ c.args.pid = search rules in
    subst (λ p. IsHeld c.args.self.now p) (sym pid) (held_of c.args.self.now c.args.pid c.args.call.now Start c.in-Start.is c.requires)

pub ask-requires : goal.ask-requires
ask-requires c =
    let pid : to_z w32 (of_z w32 c.args.pid) ≡ c.args.pid = search rules in
    subst (λ p. IsHeld c.args.self.now p) (sym pid) (held_of c.args.self.now c.args.pid c.args.call.now Ask c.in-Ask.is c.requires)

pub narrow-requires : goal.narrow-requires
narrow-requires c =
    let pid : to_z w32 (of_z w32 c.args.pid) ≡ c.args.pid = search rules in
    subst (λ p. IsHeld c.args.self.now p) (sym pid) (held_of c.args.self.now c.args.pid c.args.call.now Narrow c.in-Narrow.is c.requires)

pub unregister-requires : goal.unregister-requires
unregister-requires c =
    let pid : to_z w32 (of_z w32 c.args.pid) ≡ c.args.pid = search rules in
    subst (λ p. IsHeld c.args.self.now p) (sym pid)
    (held_of c.args.self.now c.args.pid c.args.call.now Unregister c.in-Unregister.is c.requires)

pub returns-in-Register-clause-ok : goal.returns-in-Register-clause-ok
returns-in-Register-clause-ok c =
    let pid : to_z w32 (of_z w32 c.in-Register.pid) ≡ c.in-Register.pid = search rules in
    register_as c.args.self.now c.register.new.self c.args.place _ c.in-Register.pid c.args.pid c.in-Register.key c.args.call.now
    c.register.result pid c.in-Register.is c.register.ensures.ok

pub returns-in-Start-clause-ok : goal.returns-in-Start-clause-ok
returns-in-Start-clause-ok c =
    let pid : to_z w32 (of_z w32 c.args.pid) ≡ c.args.pid = search rules in
    notes_as c.args.self.now c.start.new.self c.args.place _ c.args.pid Start c.args.call.now c.start.result pid (sym c.in-Start.is)
    (c.start.ensures c.args.place)

pub returns-in-Ask-clause-ok : goal.returns-in-Ask-clause-ok
returns-in-Ask-clause-ok c =
    let pid : to_z w32 (of_z w32 c.args.pid) ≡ c.args.pid = search rules in
    notes_as c.args.self.now c.args.self.now c.args.place _ c.args.pid Ask c.args.call.now c.ask.result pid (sym c.in-Ask.is)
    (c.ask.ensures c.args.place)

pub returns-in-Cancel-clause-ok : goal.returns-in-Cancel-clause-ok
returns-in-Cancel-clause-ok c =
    let pid : to_z w32 (of_z w32 c.in-Cancel.pid) ≡ c.in-Cancel.pid = search rules in
    cancel_as c.args.self.now c.cancel.new.self c.args.place _ c.in-Cancel.pid c.args.pid c.in-Cancel.key c.args.call.now c.cancel.result
    pid c.in-Cancel.is (c.cancel.ensures c.args.place c.args.pid)

pub returns-in-Narrow-clause-ok : goal.returns-in-Narrow-clause-ok
returns-in-Narrow-clause-ok c =
    let pid : to_z w32 (of_z w32 c.args.pid) ≡ c.args.pid = search rules in
    notes_as c.args.self.now c.narrow.new.self c.args.place _ c.args.pid Narrow c.args.call.now c.narrow.result pid (sym c.in-Narrow.is)
    (c.narrow.ensures c.args.place)

pub returns-in-Unregister-clause-ok : goal.returns-in-Unregister-clause-ok
returns-in-Unregister-clause-ok c =
    let pid : to_z w32 (of_z w32 c.args.pid) ≡ c.args.pid = search rules in
    notes_as c.args.self.now c.unregister.new.self c.args.place _ c.args.pid Unregister c.args.call.now c.unregister.result pid
    (sym c.in-Unregister.is) (c.unregister.ensures c.args.place)
