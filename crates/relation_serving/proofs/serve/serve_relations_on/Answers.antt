use Rattle.std.proofs.Common.{ap, refl, subst}
use Rattle.pg_client.specs.State.{first_state}
use Rattle.conversation_runs.specs.Session.{whole_rules}
use Rattle.relation_tables.specs.RelationHandler.{relation_handlers}
use Rattle.relation_handlers.proofs.EvenRows.{even}
use Rattle.pg_engine.specs.Around.{Around, ServesSession, around}
use Rattle.pg_engine.proofs.Serving.{none_served}
use Rattle.relation_serving.proofs.CoreServing.{went_by_tables}
use Rattle.relation_serving.specs.Completeness.{most_unready}
use Rattle.pg_engine.proofs.Completing.{complete_serving, complete_at_want, cause_of_calls}
use Rattle.relation_serving.proofs.Questions.{few_questions}
use Rattle.relation_serving.proofs.serve.serve_relations_on.Given.{Over}
use Rattle.relation_serving.proofs.serve.serve_relations_on.Goals as goal

-- ---- there was no memory for the handlers

pub returns-in_default : goal.returns-in_default
returns-in_default g c =
    let relations = c.args.relations.now in
    let round = around g.S.Source.left g.S.Source.reads g.S.Source.faults g.S.Source.origin g.K.Sink.written g.K.Sink.faults
    g.K.Sink.origin g.D.CancelDesk.told c.args.source.now c.args.sink.now c.args.desk.now in
    let registration = round.desk.registration in
    let none = none_served (whole_rules (relation_handlers relations)) (first_state registration.0 registration.1) c.args.turn_limit round in
    record {
      went = (
        none.went.0,
        none.went.1,
        went_by_tables relations registration c.relations-valid.ensures.within (even relations c.relations-valid.ensures.valid) _ round.left _
            round.written _ none.went.0 none.went.2,
      );
      cause = none.cause;
      complete = complete_at_want (most_unready relations) c.args.turn_limit round.left round.counts round.counts;
      serves = none;
    }

-- ---- the client was served

abbrev before : (g : Over) (c : goal.After-serve_by g) → Around
before g c =
    around g.S.Source.left g.S.Source.reads g.S.Source.faults g.S.Source.origin g.K.Sink.written g.K.Sink.faults g.K.Sink.origin
    g.D.CancelDesk.told c.args.source.now c.args.sink.now c.args.desk.now

abbrev after : (g : Over) (c : goal.After-serve_by g) → Around
after g c =
    around g.S.Source.left g.S.Source.reads g.S.Source.faults g.S.Source.origin g.K.Sink.written g.K.Sink.faults g.K.Sink.origin
    g.D.CancelDesk.told c.serve_by.new.source c.serve_by.new.sink c.serve_by.new.desk

-- by handlers of these relations
served : (g : Over) (c : goal.After-serve_by g)
    → ServesSession (relation_handlers c.args.relations.now) c.args.turn_limit c.serve_by.result (before g c) (after g c)
served g c =
    subst (λ relations. ServesSession (relation_handlers relations) c.args.turn_limit c.serve_by.result (before g c) (after g c))
    (ap (λ h. h.relations.now) c.in-Ok.ensures.ok) c.serve_by.ensures

pub returns : goal.returns
returns g c =
    let relations = c.args.relations.now in
    let round = before g c in
    let later = after g c in
    let registration = round.desk.registration in
    let serves = served g c in
    let went = serves.went in
    record {
      went = (
        went.0,
        went.1,
        went_by_tables relations registration c.relations-valid.ensures.within (even relations c.relations-valid.ensures.valid)
            c.serve_by.result round.left later.left round.written later.written went.0 went.2,
      );
      cause = serves.cause;
      complete = complete_serving (most_unready relations) (whole_rules (relation_handlers relations)) (few_questions relations) registration refl
          c.args.turn_limit c.serve_by.result round.left later.left round.written later.written went.0 round.counts later.counts
          (cause_of_calls c.serve_by.result c.args.turn_limit round.desk.calls later.desk.calls went.0 round.counts later.counts went.1
          serves.cause)
          serves.reads went.2;
      serves = serves;
    }
