use Rattle.std.proofs.Common.{None, Ok, Err, refl, ap, subst, sym, ◌∙◌}
use Rattle.std.specs.Arc.{arc_value}
use Rattle.pg_client.specs.State.{state_of}
use Rattle.conversation_table.specs.Table.{scope_in}
use Rattle.conversation_runs.specs.Messages.{scope_for}
use Rattle.conversation_runs.specs.Steps.{IsMessageRow, IsResponse}
use Rattle.conversation_runs.proofs.Responses.{done_response, failed_response}
use Rattle.pg_session.proofs.session.Session.finish_as.Goals as goal

pub finish-requires-clause-ready : goal.finish-requires-clause-ready
finish-requires-clause-ready g c = ap (λ v. v.state.info.state) c.self.view_is ∙ c.requires.ready.ready

pub finish-requires-clause-good : goal.finish-requires-clause-good
finish-requires-clause-good g c =
    rw c.deref-handlers.ensures (c.self.invariant (ap (λ v. v.is_open) c.self.view_is ∙ c.requires.ready.opened))

pub finish-requires-clause-unready : goal.finish-requires-clause-unready
finish-requires-clause-unready g c =
    let told = g.H.PgWireServerHandlers.told in
    let s = state_of g.St.PortalStore.maps c.self.inside.client in
    let u = c.requires.unready in (
      u.0,
      subst (λ (x : g.row.H.Denot). g.M.QueryMessage.waits (told x) s u.0 c.args.kept c.args.waiting) (sym c.deref-handlers.ensures)
          (subst (λ v. g.M.QueryMessage.waits (told v.handlers) v.state u.0 c.args.kept c.args.waiting) (sym c.self.view_is) u.1),
    )

pub invariant_of-self : goal.invariant_of-self
invariant_of-self g c = λ stays. rw c.deref-handlers.ensures at c.finish.ensures.good

pub fail-requires-clause-open : goal.fail-requires-clause-open
fail-requires-clause-open g c = λ stays. ap (λ v. v.is_open) c.self.view_is ∙ c.requires.ready.opened

pub fail-requires-clause-answerable : goal.fail-requires-clause-answerable
fail-requires-clause-answerable g c = rw c.in-Err.is at c.finish.ensures.answerable

pub returns-in-Ok : goal.returns-in-Ok
returns-in-Ok g c = λ message first waits starts.
    let told = g.H.PgWireServerHandlers.told in
    let maps = g.St.PortalStore.maps in
    let m = g.M.TypedMessage.message message in
    let inside = c.self.inside in
    let s = state_of maps inside.client in
    let t = state_of maps c.finish.new.client in
    let new_desk = g.D.CancelDesk.told c.finish.new.desk in
    let before = c.args.turns.now in
    let after = c.finish.new.turns in
    let waits_inside = subst (λ (x : g.row.H.Denot). g.M.QueryMessage.waits (told x) s message c.args.kept c.args.waiting)
    (sym c.deref-handlers.ensures)
    (subst (λ v. g.M.QueryMessage.waits (told v.handlers) v.state message c.args.kept c.args.waiting) (sym c.self.view_is) waits) in
    let row = subst (λ (x : g.row.H.Denot). IsMessageRow (told x) m s t inside.client.outbox c.finish.new.client.outbox first new_desk before
    after (Ok None)) c.deref-handlers.ensures (rw c.in-Ok.is at (c.finish.ensures.row message first waits_inside starts)) in
    subst (λ v. IsResponse told m v (record {
      handlers = arc_value inside.handlers;
      state = t;
      rest = inside.rest.items;
      unsent = c.finish.new.client.outbox;
      is_open = inside.opened;
    }) first new_desk before after (Ok None)) c.self.view_is
    (done_response told m _ _ first new_desk before after None row.ok row.ends row.turns row.bounded row.registration
    (ap (λ v. v.is_open) c.self.view_is ∙ c.requires.ready.opened) refl refl)

pub returns-in-Err : goal.returns-in-Err
returns-in-Err g c = λ message first waits starts.
    let told = g.H.PgWireServerHandlers.told in
    let maps = g.St.PortalStore.maps in
    let m = g.M.TypedMessage.message message in
    let inside = c.self.inside in
    let s = state_of maps inside.client in
    let t = state_of maps c.finish.new.client in
    let new_desk = g.D.CancelDesk.told c.finish.new.desk in
    let before = c.args.turns.now in
    let after = c.finish.new.turns in
    let behind = c.fail.ensures in
    let scope = scope_for c.waits_for_sync.result in
    let waits_inside = subst (λ (x : g.row.H.Denot). g.M.QueryMessage.waits (told x) s message c.args.kept c.args.waiting)
    (sym c.deref-handlers.ensures)
    (subst (λ v. g.M.QueryMessage.waits (told v.handlers) v.state message c.args.kept c.args.waiting) (sym c.self.view_is) waits) in
    let row = subst (λ (x : g.row.H.Denot). IsMessageRow (told x) m s t inside.client.outbox c.finish.new.client.outbox first new_desk before
    after (Err c.in-Err.error)) c.deref-handlers.ensures
    (rw c.in-Err.is at (c.finish.ensures.row message first waits_inside starts)) in
    let ready = ap (λ v. v.state.info.state) c.self.view_is ∙ c.requires.ready.ready in
    subst (λ v. IsResponse told m v c.fail.new.self first new_desk before after c.fail.result) c.self.view_is
    (failed_response told m _ c.fail.new.self first new_desk before after (record {
      handlers = arc_value inside.handlers;
      state = t;
      rest = inside.rest.items;
      unsent = c.finish.new.client.outbox;
      is_open = inside.opened;
    }) c.in-Err.error scope c.fail.result
    row.refused row.turns row.bounded row.registration
    (c.waits_for_sync.ensures message ∙ ap (λ p. scope_in p m) (sym ready))
    behind.failed behind.behind refl refl)
