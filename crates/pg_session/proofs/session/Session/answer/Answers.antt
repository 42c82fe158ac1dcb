use Rattle.std.proofs.Common.{◌≡◌, Option, Some, None, Ok, refl, subst, ◌∙◌}
use Rattle.pg_client.specs.declared.ends.EndKind.{EndKind}
use Rattle.conversation_runs.specs.Messages.{scope_for}
use Rattle.conversation_table.specs.Table.{scope_in}
use Rattle.conversation_runs.specs.Session.{goes_on, stays_open}
use Rattle.conversation_runs.specs.declared.ends.ServeError.{ServeError}
use Rattle.conversation_runs.proofs.Responses.{done_response, failed_response}
use Rattle.pg_session.proofs.session.Session.answer.Goals as goal

-- an end closes the session
closes : (end : Option EndKind) → stays_open (Ok end) ≡ goes_on {E = ServeError} (Ok end)
closes None = refl
closes (Some kind) = refl

pub process_message-requires-clause-open : goal.process_message-requires-clause-open
process_message-requires-clause-open g c = c.requires.«open»

pub process_message-requires-clause-given : goal.process_message-requires-clause-given
process_message-requires-clause-given g c = c.requires.given

pub fail-requires-clause-open : goal.fail-requires-clause-open
fail-requires-clause-open g c = λ stays. c.in-Err.ensures.«open» ∙ stays

pub fail-requires-clause-answerable : goal.fail-requires-clause-answerable
fail-requires-clause-answerable g c = c.in-Err.ensures.answerable

pub returns-in-Ok : goal.returns-in-Ok
returns-in-Ok g c =
    let old = c.args.self.now in
    let new = c.process_message.new.session in
    let x = c.in-Ok.ensures in
    done_response g.H.PgWireServerHandlers.told c.args.message old new (g.D.CancelDesk.told c.args.desk.now)
    (g.D.CancelDesk.told c.process_message.new.desk) c.args.turns.now c.process_message.new.turns c.in-Ok.end
    x.ok x.ends x.turns x.bounded x.registration (x.«open» ∙ closes c.in-Ok.end) x.handlers x.rest

pub returns-in-Err : goal.returns-in-Err
returns-in-Err g c =
    let old = c.args.self.now in
    let mid = c.process_message.new.session in
    let x = c.in-Err.ensures in
    let behind = c.fail.ensures in
    failed_response g.H.PgWireServerHandlers.told c.args.message old c.fail.new.self (g.D.CancelDesk.told c.args.desk.now)
    (g.D.CancelDesk.told c.process_message.new.desk) c.args.turns.now c.process_message.new.turns mid c.in-Err.error
    (scope_for c.waits_for_sync-waits.result) c.fail.result
    x.refused x.turns x.bounded x.registration
    (subst (λ p. scope_for c.waits_for_sync-waits.result ≡ scope_in p c.args.message) c.state.ensures c.waits_for_sync-waits.ensures)
    behind.failed behind.behind x.handlers x.rest
