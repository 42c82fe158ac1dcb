use Rattle.std.proofs.Common.{None, Ok, Err, refl, ap, subst, sym, ◌∙◌}
use Rattle.std.specs.Arc.{arc_value}
use Rattle.pg_client.specs.State.{state_of}
use Rattle.conversation_table.specs.Table.{scope_in}
use Rattle.conversation_runs.specs.Messages.{scope_for}
use Rattle.conversation_runs.specs.Steps.{IsMessageRow, IsResponse}
use Rattle.conversation_runs.proofs.Responses.{done_response, failed_response}
use Rattle.pg_session.proofs.session.Session.answer_as.Goals as goal

pub answer-requires-clause-given : goal.answer-requires-clause-given
answer-requires-clause-given g c = c.requires.given

pub answer-requires-clause-ready : goal.answer-requires-clause-ready
answer-requires-clause-ready g c = ap (λ v. v.state.info.state) c.self.view_is ∙ c.requires.ready.ready

pub answer-requires-clause-good : goal.answer-requires-clause-good
answer-requires-clause-good g c =
    rw c.deref-handlers.ensures (c.self.invariant (ap (λ v. v.is_open) c.self.view_is ∙ c.requires.ready.opened))

pub invariant_of-self : goal.invariant_of-self
invariant_of-self g c = λ stays. rw c.deref-handlers.ensures at c.answer.ensures.good

pub fail-requires-clause-open : goal.fail-requires-clause-open
fail-requires-clause-open g c = λ stays. ap (λ v. v.is_open) c.self.view_is ∙ c.requires.ready.opened

pub fail-requires-clause-answerable : goal.fail-requires-clause-answerable
fail-requires-clause-answerable g c = (rw c.in-Err.is at c.answer.ensures).answerable

pub returns-in-Ok : goal.returns-in-Ok
returns-in-Ok g c =
    let told = g.H.PgWireServerHandlers.told in
    let maps = g.St.PortalStore.maps in
    let m = g.M.TypedMessage.message c.args.message in
    let inside = c.self.inside in
    let s = state_of maps inside.client in
    let t = state_of maps c.answer.new.client in
    let desk = g.D.CancelDesk.told c.args.desk.now in
    let new_desk = g.D.CancelDesk.told c.answer.new.desk in
    let before = c.args.turns.now in
    let after = c.answer.new.turns in
    let row = subst (λ (x : g.row.H.Denot). IsMessageRow (told x) m s t inside.client.outbox c.answer.new.client.outbox desk new_desk before
    after (Ok None)) c.deref-handlers.ensures (rw c.in-Ok.is at c.answer.ensures) in
    subst (λ v. IsResponse told m v (record {
      handlers = arc_value inside.handlers;
      state = t;
      rest = inside.rest.items;
      unsent = c.answer.new.client.outbox;
      is_open = inside.opened;
    }) desk new_desk before after (Ok None)) c.self.view_is
    (done_response told m _ _ desk new_desk before after None row.ok row.ends row.turns row.bounded row.registration (ap (λ v. v.is_open) c.self.view_is ∙ c.requires.ready.opened) refl refl)

pub returns-in-Err : goal.returns-in-Err
returns-in-Err g c =
    let told = g.H.PgWireServerHandlers.told in
    let maps = g.St.PortalStore.maps in
    let m = g.M.TypedMessage.message c.args.message in
    let inside = c.self.inside in
    let s = state_of maps inside.client in
    let t = state_of maps c.answer.new.client in
    let desk = g.D.CancelDesk.told c.args.desk.now in
    let new_desk = g.D.CancelDesk.told c.answer.new.desk in
    let before = c.args.turns.now in
    let after = c.answer.new.turns in
    let behind = c.fail.ensures in
    let scope = scope_for c.waits_for_sync.result in
    let row = subst (λ (x : g.row.H.Denot). IsMessageRow (told x) m s t inside.client.outbox c.answer.new.client.outbox desk new_desk before
    after (Err c.in-Err.error)) c.deref-handlers.ensures (rw c.in-Err.is at c.answer.ensures) in
    let ready = ap (λ v. v.state.info.state) c.self.view_is ∙ c.requires.ready.ready in
    subst (λ v. IsResponse told m v c.fail.new.self desk new_desk before after c.fail.result) c.self.view_is
    (failed_response told m _ c.fail.new.self desk new_desk before after (record {
      handlers = arc_value inside.handlers;
      state = t;
      rest = inside.rest.items;
      unsent = c.answer.new.client.outbox;
      is_open = inside.opened;
    }) c.in-Err.error scope c.fail.result
    row.refused row.turns row.bounded row.registration
    (c.waits_for_sync.ensures c.args.message ∙ ap (λ p. scope_in p m) (sym ready))
    behind.failed behind.behind refl refl)
