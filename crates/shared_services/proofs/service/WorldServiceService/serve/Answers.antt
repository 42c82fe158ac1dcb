use Rattle.std.proofs.Common.{[], append-nil, inl, inr, refl, sym}
use Rattle.pg_client.specs.State.{first_state}
use Rattle.pg_engine.specs.Around.{around}
use Rattle.pg_engine.proofs.Serving.{none_served}
use Rattle.moving_runs.specs.Sheets.{sheet_rules}
use Rattle.moving_runs.specs.Steps.{ahead}
use Rattle.shared_services.proofs.service.WorldServiceService.serve.Goals as goal

-- there was no memory for the client's handlers
pub returns-in_default : goal.returns-in_default
returns-in_default g c =
    let registration = (g.D.CancelDesk.told c.args.desk.now).registration in
    let first = ahead [] (first_state registration.0 registration.1) in
    record {
      first = first;
      begun = refl;
      serves = none_served sheet_rules first _
          (around g.S.Source.left g.S.Source.reads g.S.Source.faults g.S.Source.origin g.K.Sink.written g.K.Sink.faults g.K.Sink.origin
          g.D.CancelDesk.told c.args.source.now c.args.sink.now c.args.desk.now);
      calls = [];
      grown = sym (append-nil (g.D.CancelDesk.told c.args.desk.now).calls);
      promised = inr (record { taken = refl; called = refl; met = refl });
    }

pub returns : goal.returns
returns g c =
    let registration = (g.D.CancelDesk.told c.args.desk.now).registration in
    let served = c.serve_by.ensures.1 in
    record {
      first = ahead served.sheets (first_state registration.0 registration.1);
      begun = refl;
      serves = served.serves;
      calls = served.calls;
      grown = served.grown;
      promised = inl (record {
        world = _;
        last = c.serve_by.ensures.0;
        found = (_, c.in-Ok.ensures, refl);
        taken = served.taken;
        takes = served.takes;
        met = served.met;
      });
    }
