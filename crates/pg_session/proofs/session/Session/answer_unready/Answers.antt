use Rattle.std.proofs.Common.{false, refl, ap, subst, sym, ◌∙◌}
use Rattle.std.specs.Arc.{arc_value}
use Rattle.pg_client.specs.State.{state_of}
use Rattle.conversation_runs.proofs.SentFirst.{cut_before, response_behind}
use Rattle.pg_session.proofs.session.Session.answer_unready.Goals as goal

pub finish_as-requires-clause-ready : goal.finish_as-requires-clause-ready
finish_as-requires-clause-ready g c =
    let same = c.flush.ensures.same in
    record {
      opened = same.opened ∙ c.requires.ready.opened;
      ready = ap (λ s. s.info.state) same.state ∙ c.requires.ready.ready;
    }

pub finish_as-requires-clause-unready : goal.finish_as-requires-clause-unready
finish_as-requires-clause-unready g c =
    let told = g.H.PgWireServerHandlers.told in
    let same = c.flush.ensures.same in
    let u = c.requires.unready in (
      u.0,
      subst (λ h. g.M.QueryMessage.waits (told h) c.flush.new.self.state u.0 c.args.kept c.args.waiting) (sym same.handlers)
          (subst (λ s. g.M.QueryMessage.waits (told c.args.self.now.handlers) s u.0 c.args.kept c.args.waiting) (sym same.state) u.1),
    )

pub returns-in-Ok : goal.returns-in-Ok
returns-in-Ok g c = λ message first waits starts cut.
    let told = g.H.PgWireServerHandlers.told in
    let same = c.flush.ensures.same in
    let r = c.finish_as in
    let waits_behind = subst (λ h. g.M.QueryMessage.waits (told h) c.flush.new.self.state message c.args.kept c.args.waiting)
    (sym same.handlers)
    (subst (λ s. g.M.QueryMessage.waits (told c.args.self.now.handlers) s message c.args.kept c.args.waiting) (sym same.state) waits) in
    response_behind g.K.Sink.written g.K.Sink.faults g.K.Sink.origin told (g.M.TypedMessage.message message) c.args.self.now
    c.flush.new.self r.new.self c.args.sink.now c.flush.new.sink first (g.D.CancelDesk.told r.new.desk) c.args.turns.now r.new.turns
    r.result same c.in-Ok.ensures.empty c.in-Ok.ensures.ok c.in-Ok.ensures.sink.cause.calm c.in-Ok.ensures.sink.sink
    (r.ensures message first waits_behind starts)

pub returns-in-Err : goal.returns-in-Err
returns-in-Err g c = λ message first waits starts cut.
    let told = g.H.PgWireServerHandlers.told in
    let same = c.flush.ensures.same in
    let x = c.in-Err.ensures in
    let inside = c.self.inside in
    cut_before g.K.Sink.written g.K.Sink.faults g.K.Sink.origin told (g.M.TypedMessage.message message) c.args.self.now
    (record {
      handlers = arc_value inside.handlers;
      state = state_of g.St.PortalStore.maps inside.client;
      rest = inside.rest.items;
      unsent = inside.client.outbox;
      is_open = false;
    }) c.args.sink.now c.flush.new.sink first (g.D.CancelDesk.told c.args.desk.now) c.args.turns.now c.in-Err.error starts cut
    (ap (λ v. v.handlers) c.self.view_is ∙ same.handlers) (ap (λ v. v.rest) c.self.view_is ∙ same.rest) refl x.err x.sink.cause x.sink.sink
