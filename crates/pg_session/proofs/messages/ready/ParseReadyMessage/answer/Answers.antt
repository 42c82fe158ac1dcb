use Rattle.pg_messages.specs.declared.frontend.PgWireFrontendMessage.TheVariants as client
use Rattle.pg_client.specs.State.{state_of}
use Rattle.conversation_runs.proofs.MessageRows.{effect_row}
use Rattle.pg_session.proofs.messages.ready.ParseReadyMessage.answer.Goals as goal

pub returns : goal.returns
returns g c =
    let maps = g.St.PortalStore.maps in
    let old = c.args.client.now in
    let new = c.on_parse.new.client in
    rw c.of_session.ensures (effect_row (g.H.PgWireServerHandlers.told c.args.handlers.now) (state_of maps old) (client.Parse c.args.message)
    c.requires.ready tt (state_of maps new) old.outbox new.outbox (g.D.CancelDesk.told c.args.desk.now) c.args.turns.now c.on_parse.result
    (rw (← c.extended_query_handler.ensures) c.on_parse.ensures.ok) (rw (← c.extended_query_handler.ensures) c.on_parse.ensures.refused)
    c.on_parse.ensures.answerable (rw (← c.extended_query_handler.ensures) c.on_parse.ensures.good))

pub on_parse-requires-clause-given : goal.on_parse-requires-clause-given
on_parse-requires-clause-given g c = c.requires.given

pub on_parse-requires-clause-good : goal.on_parse-requires-clause-good
on_parse-requires-clause-good g c = rw c.extended_query_handler.ensures c.requires.good
