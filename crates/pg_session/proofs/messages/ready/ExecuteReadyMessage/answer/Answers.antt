use Rattle.pg_messages.specs.declared.frontend.PgWireFrontendMessage.TheVariants as client
use Rattle.pg_client.specs.State.{state_of}
use Rattle.conversation_table.proofs.QueryErrors.{query_answerable}
use Rattle.conversation_runs.proofs.MessageRows.{called_row}
use Rattle.pg_session.proofs.messages.ready.ExecuteReadyMessage.answer.Goals as goal

pub returns : goal.returns
returns g c =
    let maps = g.St.PortalStore.maps in
    let old = c.args.client.now in
    let answered = c.on_execute in
    let new = answered.new.client in
    let told = answered.ensures in
    called_row (g.H.PgWireServerHandlers.told c.args.handlers.now) (state_of maps old) (state_of maps new) (client.Execute c.args.message)
    old.outbox new.outbox (g.D.CancelDesk.told c.args.desk.now) (g.D.CancelDesk.told answered.new.desk) c.args.turns.now
    answered.new.turns answered.result c.requires.ready
    (rw (← c.extended_query_handler.ensures) (rw c.requires.ready at told.ok))
    (rw (← c.extended_query_handler.ensures) (rw c.requires.ready at told.refused))
    (query_answerable maps old new answered.result told.errors) (rw (← c.extended_query_handler.ensures) told.good) told.turns told.bounded told.keeps
