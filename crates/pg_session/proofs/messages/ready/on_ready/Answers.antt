use Rattle.conversation_runs.proofs.MessageRows.{is_rarer}
use Rattle.pg_session.proofs.messages.ready.on_ready.Goals as goal

pub returns-in-Query : goal.returns-in-Query
returns-in-Query g c = rw c.in-Query.is (rw c.going.ensures c.answer.ensures)

pub answer-requires-clause-given : goal.answer-requires-clause-given
answer-requires-clause-given g c = rw c.in-Query.is at c.requires.given

pub answer-requires-clause-ready : goal.answer-requires-clause-ready
answer-requires-clause-ready g c = c.requires.ready

pub answer-requires-clause-good : goal.answer-requires-clause-good
answer-requires-clause-good g c = c.requires.good

pub returns-in-Parse : goal.returns-in-Parse
returns-in-Parse g c = rw c.in-Parse.is (rw c.going-in-Parse.ensures c.answer-in-Parse.ensures)

pub answer-requires-in-Parse-clause-given : goal.answer-requires-in-Parse-clause-given
answer-requires-in-Parse-clause-given g c = rw c.in-Parse.is at c.requires.given

pub answer-requires-in-Parse-clause-ready : goal.answer-requires-in-Parse-clause-ready
answer-requires-in-Parse-clause-ready g c = c.requires.ready

pub answer-requires-in-Parse-clause-good : goal.answer-requires-in-Parse-clause-good
answer-requires-in-Parse-clause-good g c = c.requires.good

pub returns-in-Bind : goal.returns-in-Bind
returns-in-Bind g c = rw c.in-Bind.is (rw c.going-in-Bind.ensures c.answer-in-Bind.ensures)

pub answer-requires-in-Bind-clause-given : goal.answer-requires-in-Bind-clause-given
answer-requires-in-Bind-clause-given g c = rw c.in-Bind.is at c.requires.given

pub answer-requires-in-Bind-clause-ready : goal.answer-requires-in-Bind-clause-ready
answer-requires-in-Bind-clause-ready g c = c.requires.ready

pub answer-requires-in-Bind-clause-good : goal.answer-requires-in-Bind-clause-good
answer-requires-in-Bind-clause-good g c = c.requires.good

pub returns-in-Describe : goal.returns-in-Describe
returns-in-Describe g c = rw c.in-Describe.is (rw c.going-in-Describe.ensures c.answer-in-Describe.ensures)

pub answer-requires-in-Describe-clause-given : goal.answer-requires-in-Describe-clause-given
answer-requires-in-Describe-clause-given g c = rw c.in-Describe.is at c.requires.given

pub answer-requires-in-Describe-clause-ready : goal.answer-requires-in-Describe-clause-ready
answer-requires-in-Describe-clause-ready g c = c.requires.ready

pub answer-requires-in-Describe-clause-good : goal.answer-requires-in-Describe-clause-good
answer-requires-in-Describe-clause-good g c = c.requires.good

pub returns-in-Execute : goal.returns-in-Execute
returns-in-Execute g c = rw c.in-Execute.is (rw c.going-in-Execute.ensures c.answer-in-Execute.ensures)

pub answer-requires-in-Execute-clause-given : goal.answer-requires-in-Execute-clause-given
answer-requires-in-Execute-clause-given g c = rw c.in-Execute.is at c.requires.given

pub answer-requires-in-Execute-clause-ready : goal.answer-requires-in-Execute-clause-ready
answer-requires-in-Execute-clause-ready g c = c.requires.ready

pub answer-requires-in-Execute-clause-good : goal.answer-requires-in-Execute-clause-good
answer-requires-in-Execute-clause-good g c = c.requires.good

pub returns-in-Close : goal.returns-in-Close
returns-in-Close g c = rw c.in-Close.is (rw c.going-in-Close.ensures c.answer-in-Close.ensures)

pub answer-requires-in-Close-clause-given : goal.answer-requires-in-Close-clause-given
answer-requires-in-Close-clause-given g c = rw c.in-Close.is at c.requires.given

pub answer-requires-in-Close-clause-ready : goal.answer-requires-in-Close-clause-ready
answer-requires-in-Close-clause-ready g c = c.requires.ready

pub answer-requires-in-Close-clause-good : goal.answer-requires-in-Close-clause-good
answer-requires-in-Close-clause-good g c = c.requires.good

pub returns-in-PgSync : goal.returns-in-PgSync
returns-in-PgSync g c = rw c.in-PgSync.is (rw c.going-in-PgSync.ensures c.answer-in-PgSync.ensures)

pub answer-requires-in-PgSync-clause-given : goal.answer-requires-in-PgSync-clause-given
answer-requires-in-PgSync-clause-given g c = rw c.in-PgSync.is at c.requires.given

pub answer-requires-in-PgSync-clause-ready : goal.answer-requires-in-PgSync-clause-ready
answer-requires-in-PgSync-clause-ready g c = c.requires.ready

pub answer-requires-in-PgSync-clause-good : goal.answer-requires-in-PgSync-clause-good
answer-requires-in-PgSync-clause-good g c = c.requires.good

pub returns-in_default : goal.returns-in_default
returns-in_default g c = c.on_rarer.ensures (g.D.CancelDesk.told c.args.desk.now) c.args.turns.now

pub on_rarer-requires-clause-given : goal.on_rarer-requires-clause-given
on_rarer-requires-clause-given g c = c.requires.given

pub on_rarer-requires-clause-ready : goal.on_rarer-requires-clause-ready
on_rarer-requires-clause-ready g c = c.requires.ready

pub on_rarer-requires-clause-good : goal.on_rarer-requires-clause-good
on_rarer-requires-clause-good g c = c.requires.good

pub on_rarer-requires-clause-rarer : goal.on_rarer-requires-clause-rarer
on_rarer-requires-clause-rarer g c =
    is_rarer c.args.message c.in_default.not-Query c.in_default.not-Parse c.in_default.not-Bind c.in_default.not-Describe
    c.in_default.not-Execute c.in_default.not-Close c.in_default.not-PgSync
