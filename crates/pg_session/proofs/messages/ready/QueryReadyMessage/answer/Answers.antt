use Rattle.std.proofs.Common.{ap}
use Rattle.pg_messages.specs.declared.frontend.PgWireFrontendMessage.TheVariants as client
use Rattle.pg_client.specs.State.{state_of}
use Rattle.conversation_table.proofs.GoodStores.{good_parts}
use Rattle.conversation_table.proofs.QueryErrors.{query_answerable}
use Rattle.conversation_runs.proofs.MessageRows.{called_row}
use Rattle.pg_session.proofs.messages.ready.QueryReadyMessage.answer.Goals as goal

pub returns : goal.returns
returns g c =
    let maps = g.St.PortalStore.maps in
    let h = g.H.PgWireServerHandlers.told c.args.handlers.now in
    let old = c.args.client.now in
    let answered = c.on_query in
    let new = answered.new.client in
    let told = answered.ensures in
    let s = state_of maps old in
    let t = state_of maps new in
    called_row h s t (client.Query c.args.message)
    old.outbox new.outbox (g.D.CancelDesk.told c.args.desk.now) (g.D.CancelDesk.told answered.new.desk) c.args.turns.now
    answered.new.turns answered.result c.requires.ready
    (rw (← c.simple_query_handler.ensures) (rw c.requires.ready at told.ok))
    (rw (← c.simple_query_handler.ensures) (rw c.requires.ready at told.refused))
    (query_answerable maps old new answered.result told.errors)
    (good_parts h.extended.parser s t.info t.statements t.portals told.kept.metadata (ap (λ st. (maps st).statements) told.kept.store)
    (ap (λ st. (maps st).portals) told.kept.store) c.requires.good)
    told.turns told.bounded told.keeps
