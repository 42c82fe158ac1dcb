use Rattle.std.proofs.Common.{[], append-nil, refl, sym}
use Rattle.std.specs.Arc.{arc_value}
use Rattle.pg_client.specs.State.{first_state}
use Rattle.conversation_runs.specs.Session.{whole_rules}
use Rattle.pg_engine.specs.Around.{around}
use Rattle.pg_engine.specs.Serving.{counts_of}
use Rattle.pg_engine.proofs.Completing.{complete_at_want}
use Rattle.pg_engine.proofs.Serving.{none_served}
use Rattle.client_services.proofs.handlers.HandlerServiceService.serve.Goals as goal

-- there was no memory for the client's own handle of the handlers
pub returns-in_default : goal.returns-in_default
returns-in_default g c =
    let registration = (g.D.CancelDesk.told c.args.desk.now).registration in
    let counts = counts_of g.S.Source.reads g.S.Source.faults g.K.Sink.faults c.args.source.now c.args.sink.now in
    record {
      first = first_state registration.0 registration.1;
      begun = refl;
      serves = none_served (whole_rules (g.H.PgWireServerHandlers.told (arc_value c.args.self.now.handlers)))
          (first_state registration.0 registration.1) _
          (around g.S.Source.left g.S.Source.reads g.S.Source.faults g.S.Source.origin g.K.Sink.written g.K.Sink.faults g.K.Sink.origin
          g.D.CancelDesk.told c.args.source.now c.args.sink.now c.args.desk.now);
      calls = [];
      grown = sym (append-nil (g.D.CancelDesk.told c.args.desk.now).calls);
      promised = λ most owe. complete_at_want most c.args.turn_limit (g.S.Source.left c.args.source.now) counts counts;
    }

pub returns : goal.returns
returns g c =
    let registration = (g.D.CancelDesk.told c.args.desk.now).registration in
    let went = c.serve_connection.ensures.went in
    record {
      first = first_state registration.0 registration.1;
      begun = refl;
      serves = rw c.in-Ok.ensures.cases at c.serve_connection.ensures.serves;
      calls = went.0;
      grown = went.1;
      promised = rw c.in-Ok.ensures.cases at c.serve_connection.ensures.complete;
    }
