use Rattle.std.proofs.Common.{None, Ok, Err, refl, ap, subst, sym, ◌∙◌}
use Rattle.std.specs.Arc.{arc_value}
use Rattle.pg_client.specs.declared.ends.Turns.{Turns}
use Rattle.pg_client.specs.Effect.{IsCutRow}
use Rattle.pg_client.specs.State.{state_of}
use Rattle.conversation_table.specs.Table.{message_row, scope_in}
use Rattle.conversation_runs.specs.Messages.{scope_for}
use Rattle.conversation_runs.specs.SentFirst.{IsSentResponse}
use Rattle.conversation_runs.specs.Steps.{IsMessageRow}
use Rattle.conversation_runs.proofs.Responses.{done_response, failed_response}
use Rattle.conversation_runs.proofs.SentFirst.{done_at_once, failed_at_once}
use Rattle.pg_session.proofs.session.Session.answer_query.Goals as goal

pub begin-requires-clause-given : goal.begin-requires-clause-given
begin-requires-clause-given g c = c.requires.given

pub begin-requires-clause-ready : goal.begin-requires-clause-ready
begin-requires-clause-ready g c = ap (λ v. v.state.info.state) c.self.view_is ∙ c.requires.ready.ready

pub begin-requires-clause-good : goal.begin-requires-clause-good
begin-requires-clause-good g c =
    rw c.deref-handlers.ensures (c.self.invariant (ap (λ v. v.is_open) c.self.view_is ∙ c.requires.ready.opened))

pub invariant_of-self : goal.invariant_of-self
invariant_of-self g c = λ stays. rw c.deref-handlers.ensures at c.begin.ensures.good

pub fail-requires-clause-open : goal.fail-requires-clause-open
fail-requires-clause-open g c = λ stays. ap (λ v. v.is_open) c.self.view_is ∙ c.requires.ready.opened

pub fail-requires-clause-answerable : goal.fail-requires-clause-answerable
fail-requires-clause-answerable g c =
    (rw c.in-Answered-Err.field-0-is at (c.in-Answered-Err.ensures.answered c.args.turns.now)).answerable

pub answer_unready-requires-clause-ready : goal.answer_unready-requires-clause-ready
answer_unready-requires-clause-ready g c =
    let maps = g.St.PortalStore.maps in
    record {
      opened = ap (λ v. v.is_open) c.self.view_is ∙ c.requires.ready.opened;
      ready = ap (λ k. (state_of maps k).info.state) c.in-Unready.ensures.same ∙ ap (λ v. v.state.info.state) c.self.view_is
          ∙ c.requires.ready.ready;
    }

pub answer_unready-requires-clause-unready : goal.answer_unready-requires-clause-unready
answer_unready-requires-clause-unready g c =
    let told = g.H.PgWireServerHandlers.told in
    let maps = g.St.PortalStore.maps in
    let u = c.in-Unready.ensures in
    let kept = c.in-Unready.kept in let waiting = c.in-Unready.waiting in
    let m = c.args.message in (
      m,
      subst (λ k. g.M.QueryMessage.waits (told (arc_value c.self.inside.handlers)) (state_of maps k) m kept waiting) (sym u.same)
          (subst (λ (x : g.row.H.Denot). g.M.QueryMessage.waits (told x) (state_of maps c.self.inside.client) m kept waiting)
          c.deref-handlers.ensures u.unready),
    )

pub returns-in-Answered-Ok : goal.returns-in-Answered-Ok
returns-in-Answered-Ok g c =
    let told = g.H.PgWireServerHandlers.told in
    let maps = g.St.PortalStore.maps in
    let m = g.M.TypedMessage.message c.args.message in
    let inside = c.self.inside in
    let s = state_of maps inside.client in
    let t = state_of maps c.begin.new.client in
    let desk = g.D.CancelDesk.told c.args.desk.now in
    let new_desk = g.D.CancelDesk.told c.begin.new.desk in
    let turns = c.args.turns.now in
    let sink = c.args.sink.now in
    let rows = λ (before : Turns). subst (λ (x : g.row.H.Denot). IsMessageRow (told x) m s t inside.client.outbox c.begin.new.client.outbox desk
    new_desk before before (Ok None)) c.deref-handlers.ensures
    (rw c.in-Answered-Ok.field-0-is at (c.in-Answered-Ok.ensures.answered before)) in
    let row = rows turns in
    subst (λ v. IsSentResponse g.K.Sink.written g.K.Sink.faults g.K.Sink.origin told m v (record {
      handlers = arc_value inside.handlers;
      state = t;
      rest = inside.rest.items;
      unsent = c.begin.new.client.outbox;
      is_open = inside.opened;
    }) sink sink desk new_desk turns turns (Ok None)) c.self.view_is
    (done_at_once g.K.Sink.written g.K.Sink.faults g.K.Sink.origin told m _ _ sink desk new_desk turns None (Ok None)
    (λ before. (rows before).turns)
    (done_response told m _ _ desk new_desk turns turns None row.ok row.ends row.turns row.bounded row.registration
    (ap (λ v. v.is_open) c.self.view_is ∙ c.requires.ready.opened) refl refl))

pub returns-in-Answered-Err : goal.returns-in-Answered-Err
returns-in-Answered-Err g c =
    let told = g.H.PgWireServerHandlers.told in
    let maps = g.St.PortalStore.maps in
    let m = g.M.TypedMessage.message c.args.message in
    let inside = c.self.inside in
    let s = state_of maps inside.client in
    let t = state_of maps c.begin.new.client in
    let desk = g.D.CancelDesk.told c.args.desk.now in
    let new_desk = g.D.CancelDesk.told c.begin.new.desk in
    let turns = c.args.turns.now in
    let sink = c.args.sink.now in
    let behind = c.fail.ensures in
    let scope = scope_for c.waits_for_sync.result in
    let e = c.in-Answered-Err.error in
    let rows = λ (before : Turns). subst (λ (x : g.row.H.Denot). IsMessageRow (told x) m s t inside.client.outbox c.begin.new.client.outbox desk
    new_desk before before (Err e)) c.deref-handlers.ensures
    (rw c.in-Answered-Err.field-0-is at (c.in-Answered-Err.ensures.answered before)) in
    let row = rows turns in
    let ready = ap (λ v. v.state.info.state) c.self.view_is ∙ c.requires.ready.ready in
    subst (λ v. IsSentResponse g.K.Sink.written g.K.Sink.faults g.K.Sink.origin told m v c.fail.new.self sink sink desk new_desk turns
    turns c.fail.result) c.self.view_is
    (failed_at_once g.K.Sink.written g.K.Sink.faults g.K.Sink.origin told m _ c.fail.new.self sink desk new_desk turns e scope _ _ _ _
    c.fail.result (λ before. (rows before).turns) behind.failed
    (failed_response told m _ c.fail.new.self desk new_desk turns turns (record {
      handlers = arc_value inside.handlers;
      state = t;
      rest = inside.rest.items;
      unsent = c.begin.new.client.outbox;
      is_open = inside.opened;
    }) e scope c.fail.result
    row.refused row.turns row.bounded row.registration
    (c.waits_for_sync.ensures c.args.message ∙ ap (λ p. scope_in p m) (sym ready))
    behind.failed behind.behind refl refl))

pub returns-in-Unready : goal.returns-in-Unready
returns-in-Unready g c =
    let told = g.H.PgWireServerHandlers.told in
    let maps = g.St.PortalStore.maps in
    let m = g.M.TypedMessage.message c.args.message in
    let inside = c.self.inside in
    let u = c.in-Unready.ensures in
    let r = c.answer_unready in
    let desk = g.D.CancelDesk.told c.args.desk.now in
    let begun = g.D.CancelDesk.told c.begin.new.desk in
    let new_desk = g.D.CancelDesk.told r.new.desk in
    let turns = c.args.turns.now in
    let kept = c.in-Unready.kept in let waiting = c.in-Unready.waiting in
    let waits = subst (λ k. g.M.QueryMessage.waits (told (arc_value inside.handlers)) (state_of maps k) c.args.message kept waiting)
    (sym u.same)
    (subst (λ (x : g.row.H.Denot). g.M.QueryMessage.waits (told x) (state_of maps inside.client) c.args.message kept waiting)
    c.deref-handlers.ensures u.unready) in
    let cut = subst (λ k. IsCutRow (λ answers. message_row (told (arc_value inside.handlers)) answers (state_of maps k) m) desk.calls
    begun.calls) (sym u.same)
    (subst (λ (x : g.row.H.Denot). IsCutRow (λ answers. message_row (told x) answers (state_of maps inside.client) m) desk.calls
    begun.calls) c.deref-handlers.ensures u.cut) in
    subst (λ v. IsSentResponse g.K.Sink.written g.K.Sink.faults g.K.Sink.origin told m v r.new.self c.args.sink.now r.new.sink desk
    new_desk turns r.new.turns r.result) c.self.view_is
    (subst (λ k. IsSentResponse g.K.Sink.written g.K.Sink.faults g.K.Sink.origin told m (record {
      handlers = arc_value inside.handlers;
      state = state_of maps k;
      rest = inside.rest.items;
      unsent = k.outbox;
      is_open = inside.opened;
    }) r.new.self c.args.sink.now r.new.sink desk new_desk turns r.new.turns r.result) u.same
    (r.ensures c.args.message desk waits u.started cut))
