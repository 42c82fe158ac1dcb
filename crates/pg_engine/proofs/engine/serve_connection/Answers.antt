use Rattle.std.proofs.Common.{refl}
use Rattle.std.specs.Arc.{arc_value}
use Rattle.pg_client.specs.State.{first_state}
use Rattle.conversation_runs.specs.Session.{whole_rules}
use Rattle.pg_engine.specs.Around.{Around, ServesSession, around}
use Rattle.pg_engine.proofs.Serving.{none_served}
use Rattle.pg_engine.proofs.Completing.{complete_serving, complete_at_want, cause_of_calls}
use Rattle.pg_engine.proofs.Questions.{handlers_few}
use Rattle.pg_engine.proofs.engine.serve_connection.Given.{Over}
use Rattle.pg_engine.proofs.engine.serve_connection.Goals as goal

-- without memory for a session nothing was taken
pub returns-in_default : goal.returns-in_default
returns-in_default g c =
    let round = around g.S.Source.left g.S.Source.reads g.S.Source.faults g.S.Source.origin g.K.Sink.written g.K.Sink.faults
    g.K.Sink.origin g.D.CancelDesk.told c.args.source.now c.args.sink.now c.args.desk.now in
    let none = none_served (whole_rules (g.H.PgWireServerHandlers.told (arc_value c.args.handlers)))
    (first_state round.desk.registration.0 round.desk.registration.1) c.args.turn_limit round in
    record {
      went = none.went;
      cause = none.cause;
      complete = λ most few. complete_at_want most c.args.turn_limit round.left round.counts round.counts;
      serves = none;
    }

pub serve_whole-requires : goal.serve_whole-requires
serve_whole-requires g c = record {
  «open» = rw c.in-Ok.ensures refl;
  rest = rw c.in-Ok.ensures refl;
  unsent = rw c.in-Ok.ensures refl;
}

-- ---- the session is served as any conversation is

abbrev before : (g : Over) (c : goal.After-serve_whole g) → Around
before g c =
    around g.S.Source.left g.S.Source.reads g.S.Source.faults g.S.Source.origin g.K.Sink.written g.K.Sink.faults g.K.Sink.origin
    g.D.CancelDesk.told c.args.source.now c.args.sink.now c.args.desk.now

abbrev after : (g : Over) (c : goal.After-serve_whole g) → Around
after g c =
    around g.S.Source.left g.S.Source.reads g.S.Source.faults g.S.Source.origin g.K.Sink.written g.K.Sink.faults g.K.Sink.origin
    g.D.CancelDesk.told c.serve_whole.new.source c.serve_whole.new.sink c.serve_whole.new.desk

served : (g : Over) (c : goal.After-serve_whole g)
    → ServesSession (g.H.PgWireServerHandlers.told (arc_value c.args.handlers)) c.args.turn_limit c.serve_whole.result (before g c) (after g c)
served g c = rw c.in-Ok.ensures at c.serve_whole.ensures

pub returns : goal.returns
returns g c =
    let h = g.H.PgWireServerHandlers.told (arc_value c.args.handlers) in
    let round = before g c in
    let later = after g c in
    let serves = served g c in
    let went = serves.went in
    record {
      went = went;
      cause = serves.cause;
      complete = λ most few. complete_serving most (whole_rules h) (handlers_few h most few) round.desk.registration refl
          c.args.turn_limit c.serve_whole.result round.left later.left round.written later.written went.0 round.counts later.counts
          (cause_of_calls c.serve_whole.result c.args.turn_limit round.desk.calls later.desk.calls went.0 round.counts later.counts went.1
          serves.cause)
          serves.reads went.2;
      serves = serves;
    }
