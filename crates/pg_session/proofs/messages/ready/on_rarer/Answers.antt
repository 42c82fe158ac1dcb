use Rattle.pg_messages.specs.declared.frontend.PgWireFrontendMessage.TheVariants as client
use Rattle.pg_client.specs.State.{state_of}
use Rattle.conversation_table.specs.Table.{statement_row}
use Rattle.conversation_runs.proofs.MessageRows.{dropped_row, effect_row, ended_message, memory_answerable, memory_refused, nothing_said}
use Rattle.pg_session.proofs.messages.ready.on_rarer.Goals as goal

pub returns-in-Flush : goal.returns-in-Flush
returns-in-Flush g c = λ desk turns.
    let maps = g.St.PortalStore.maps in
    let h = g.H.PgWireServerHandlers.told c.args.handlers.now in
    let old = c.args.client.now in
    let new = c.on_flush.new.client in
    let s = state_of maps old in
    let m = client.Flush c.in-Flush.m in
    rw c.in-Flush.is (rw c.going.ensures (rw c.of_session.ensures (effect_row h s m c.requires.ready tt (state_of maps new) old.outbox
    new.outbox desk turns c.on_flush.result
    (rw c.on_flush.ensures.same (nothing_said s old.outbox c.on_flush.result))
    (memory_refused (statement_row h.extended s m) old.outbox new.outbox (state_of maps new) c.on_flush.result c.on_flush.ensures.refused)
    (memory_answerable c.on_flush.result c.on_flush.ensures.refused)
    (rw (← c.extended_query_handler.ensures) c.on_flush.ensures.good))))

pub on_flush-requires-clause-given : goal.on_flush-requires-clause-given
on_flush-requires-clause-given g c = rw c.in-Flush.is at c.requires.given

pub on_flush-requires-clause-good : goal.on_flush-requires-clause-good
on_flush-requires-clause-good g c = rw c.extended_query_handler.ensures c.requires.good

pub returns-in-Terminate : goal.returns-in-Terminate
returns-in-Terminate g c = λ desk turns.
    ended_message (g.H.PgWireServerHandlers.told c.args.handlers.now) (state_of g.St.PortalStore.maps c.args.client.now) c.args.message
    c.in-Terminate.field-0 c.args.client.now.outbox desk turns c.requires.ready c.requires.good c.in-Terminate.is

pub returns-in_default : goal.returns-in_default
returns-in_default g c = λ desk turns.
    dropped_row (g.H.PgWireServerHandlers.told c.args.handlers.now) (state_of g.St.PortalStore.maps c.args.client.now) c.args.message
    c.args.client.now.outbox desk turns c.requires.ready c.requires.good c.requires.rarer c.in_default.not-Terminate
