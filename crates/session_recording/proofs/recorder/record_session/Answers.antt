use Rattle.std.proofs.Common.{[], append-nil, refl, subst, sym}
use Rattle.pg_client.specs.State.{first_state}
use Rattle.conversation_runs.specs.Session.{whole_rules}
use Rattle.conversation_runs.specs.declared.ends.ServeError.TheVariants as fault
use Rattle.relation_tables.specs.RelationHandler.{relation_handlers}
use Rattle.relation_handlers.proofs.EvenRows.{even}
use Rattle.pg_engine.specs.Around.{Serves, ServesSession, around}
use Rattle.pg_engine.specs.Serving.{counts_of}
use Rattle.pg_engine.proofs.Serving.{none_served, none_went}
use Rattle.relation_serving.proofs.CoreServing.{went_by_tables}
use Rattle.pg_engine.proofs.Completing.{complete_at_want}
use Rattle.relation_serving.specs.Completeness.{most_unready}
use Rattle.session_recording.specs.Recorded.{passage}
use Rattle.session_recording.proofs.Recordings.{faithful_answer}
use Rattle.session_recording.proofs.recorder.record_session.Given.{Over}
use Rattle.session_recording.proofs.recorder.record_session.Goals as goal

-- ---- there was no room

pub returns-in_default-clause-recorded : goal.returns-in_default-clause-recorded
returns-in_default-clause-recorded g c = (
  [],
  sym (append-nil (g.D.CancelDesk.told c.args.desk.now).calls),
  record { left = refl; written = refl; refused = refl; sent = refl; uncalled = refl },
)

pub returns-in_default-clause-went : goal.returns-in_default-clause-went
returns-in_default-clause-went g c =
    let relations = c.args.relations.now in
    let registration = (g.D.CancelDesk.told c.args.desk.now).registration in (
      [],
      sym (append-nil (g.D.CancelDesk.told c.args.desk.now).calls),
      went_by_tables relations registration c.relations-valid.ensures.within (even relations c.relations-valid.ensures.valid) _
          (g.S.Source.left c.args.source.now) _ (g.K.Sink.written c.args.sink.now) _ []
          (none_went (whole_rules (relation_handlers relations)) (first_state registration.0 registration.1)
          (g.S.Source.left c.args.source.now) (g.K.Sink.written c.args.sink.now) fault.NoMemory refl),
    )

pub returns-in_default-clause-complete : goal.returns-in_default-clause-complete
returns-in_default-clause-complete g c =
    complete_at_want (most_unready c.args.relations.now) c.args.turn_limit (g.S.Source.left c.args.source.now)
    (counts_of g.S.Source.reads g.S.Source.faults g.K.Sink.faults c.args.source.now c.args.sink.now)
    (counts_of g.S.Source.reads g.S.Source.faults g.K.Sink.faults c.args.source.now c.args.sink.now)

pub returns-in_default-clause-serves : goal.returns-in_default-clause-serves
returns-in_default-clause-serves g c =
    let registration = (g.D.CancelDesk.told c.args.desk.now).registration in
    none_served (whole_rules (relation_handlers c.args.relations.now)) (first_state registration.0 registration.1) c.args.turn_limit
    (around g.S.Source.left g.S.Source.reads g.S.Source.faults g.S.Source.origin g.K.Sink.written g.K.Sink.faults g.K.Sink.origin
    g.D.CancelDesk.told c.args.source.now c.args.sink.now c.args.desk.now)

-- ---- the session was served

-- as a session over these relations serves
served : (g : Over) (c : goal.After-record_in g) → let round = around g.S.Source.left g.S.Source.reads g.S.Source.faults g.S.Source.origin
    g.K.Sink.written g.K.Sink.faults g.K.Sink.origin g.D.CancelDesk.told in
    ServesSession (relation_handlers c.args.relations.now) c.args.turn_limit c.record_in.result.0
    (round c.args.source.now c.args.sink.now c.args.desk.now) (round c.record_in.new.source c.record_in.new.sink c.record_in.new.desk)
served g c =
    let round = around g.S.Source.left g.S.Source.reads g.S.Source.faults g.S.Source.origin g.K.Sink.written g.K.Sink.faults
    g.K.Sink.origin g.D.CancelDesk.told in
    subst (λ at. Serves (whole_rules (relation_handlers c.args.relations.now)) at c.args.turn_limit c.record_in.result.0
    (round c.args.source.now c.args.sink.now c.args.desk.now) (round c.record_in.new.source c.record_in.new.sink c.record_in.new.desk))
    c.record_in.ensures.served.begun c.record_in.ensures.served.serves

pub returns-clause-faithful : goal.returns-clause-faithful
returns-clause-faithful g c =
    let recorded = c.record_in.ensures.recorded in
    faithful_answer c.args.relations.now (g.D.CancelDesk.told c.args.desk.now).registration c.args.room
    c.record_in.result.0 c.record_in.result.1
    (passage g.S.Source.left g.K.Sink.written g.K.Sink.refused g.K.Sink.sent c.args.source.now c.args.sink.now c.record_in.new.source
    c.record_in.new.sink)
    (g.D.CancelDesk.told c.args.desk.now).calls (g.D.CancelDesk.told c.record_in.new.desk).calls recorded.0
    recorded.1 recorded.2 (served g c).taken

pub returns-clause-went : goal.returns-clause-went
returns-clause-went g c =
    let relations = c.args.relations.now in
    let registration = (g.D.CancelDesk.told c.args.desk.now).registration in
    let went = (served g c).went in (
      went.0,
      went.1,
      went_by_tables relations registration c.relations-valid.ensures.within (even relations c.relations-valid.ensures.valid)
          c.record_in.result.0 (g.S.Source.left c.args.source.now) (g.S.Source.left c.record_in.new.source)
          (g.K.Sink.written c.args.sink.now) (g.K.Sink.written c.record_in.new.sink) went.0 went.2,
    )

pub returns-clause-cause : goal.returns-clause-cause
returns-clause-cause g c = (served g c).cause

pub returns-clause-complete : goal.returns-clause-complete
returns-clause-complete g c = c.record_in.ensures.served.promised

pub returns-clause-serves : goal.returns-clause-serves
returns-clause-serves g c = served g c
