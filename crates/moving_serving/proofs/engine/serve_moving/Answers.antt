use Rattle.std.proofs.Common.{[], Some, refl, sym, append-nil}
use Rattle.pg_client.specs.State.{first_state}
use Rattle.pg_engine.specs.Around.{around}
use Rattle.pg_engine.proofs.Serving.{cut_at_start, none_served, takes_none}
use Rattle.moving_runs.specs.Sheets.{sheet_rules}
use Rattle.moving_runs.specs.Steps.{ahead}
use Rattle.moving_runs.proofs.Joining.{met_so_far, none_met}
use Rattle.moving_serving.proofs.engine.serve_moving.Goals as goal

-- without memory for a session nothing was taken
pub returns-in_default : goal.returns-in_default
returns-in_default g c =
    let meets = g.M.MovingHandlers.meets in
    let world = g.M.MovingHandlers.world c.args.handlers in
    let round = around g.S.Source.left g.S.Source.reads g.S.Source.faults g.S.Source.origin g.K.Sink.written g.K.Sink.faults
    g.K.Sink.origin g.D.CancelDesk.told c.args.source.now c.args.sink.now c.args.desk.now in
    let first = first_state round.desk.registration.0 round.desk.registration.1 in (
      world,
      record {
        sheets = [];
        taken = [];
        calls = [];
        takes = takes_none round.left;
        grown = sym (append-nil round.desk.calls);
        met = met_so_far meets (none_met meets world first [] [] refl);
        answered = cut_at_start sheet_rules (ahead [] first) (Some []) round.written;
        serves = none_served sheet_rules (ahead [] first) c.args.turn_limit round;
      },
    )
