use Rattle.std.proofs.Common.{subst}
use Rattle.pg_messages.specs.Frames.{IsFrame}
use Rattle.conversation_table.specs.Table.{is_startup_phase}
use Rattle.pg_session.proofs.messages.on_message.Goals as goal

pub on_ready-requires-clause-given : goal.on_ready-requires-clause-given
on_ready-requires-clause-given g c =
    let given = c.requires.given in
    (given.0, subst (λ p. IsFrame (is_startup_phase p) given.0 c.args.message) c.in-ReadyForQuery.is given.1)

pub on_ready-requires-clause-ready : goal.on_ready-requires-clause-ready
on_ready-requires-clause-ready g c = c.in-ReadyForQuery.is

pub on_ready-requires-clause-good : goal.on_ready-requires-clause-good
on_ready-requires-clause-good g c = c.requires.good

pub on_unready-requires-clause-given : goal.on_unready-requires-clause-given
on_unready-requires-clause-given g c = c.requires.given

pub on_unready-requires-clause-unready : goal.on_unready-requires-clause-unready
on_unready-requires-clause-unready g c = c.in_default.not-ReadyForQuery

pub on_unready-requires-clause-good : goal.on_unready-requires-clause-good
on_unready-requires-clause-good g c = c.requires.good

pub returns-in-ReadyForQuery : goal.returns-in-ReadyForQuery
returns-in-ReadyForQuery g c = c.on_ready.ensures

pub returns-in_default : goal.returns-in_default
returns-in_default g c = c.on_unready.ensures c.args.turns.now
