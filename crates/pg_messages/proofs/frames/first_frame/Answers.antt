use Rattle.std.proofs.Common.{Bool, sym, subst}
use Rattle.pg_messages.specs.Frames.{IsBad}
use Rattle.pg_messages.proofs.frames.first_frame.Goals as goal

pub returns-then-awaiting-clause-bad : goal.returns-then-awaiting-clause-bad
returns-then-awaiting-clause-bad c e = subst (λ (b : Bool). IsBad b c.args.bytes.now) (sym c.if-awaiting.true)
    (c.first_startup.ensures.bad e)

pub returns-else-awaiting-clause-bad : goal.returns-else-awaiting-clause-bad
returns-else-awaiting-clause-bad c e = subst (λ (b : Bool). IsBad b c.args.bytes.now) (sym c.if-awaiting.false)
    (c.first_typed.ensures.bad e)
