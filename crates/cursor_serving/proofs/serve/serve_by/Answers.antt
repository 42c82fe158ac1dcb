use Rattle.std.specs.Arc.{arc_value}
use Rattle.pg_client.specs.State.{first_state}
use Rattle.pg_engine.specs.Around.{around}
use Rattle.pg_engine.proofs.Serving.{none_served}
use Rattle.cursor_table.specs.CursorTable.{cursor_rules}
use Rattle.cursor_serving.proofs.serve.serve_by.Goals as goal

-- without memory for a front nothing was taken
pub returns-in_default : goal.returns-in_default
returns-in_default g c =
    none_served (cursor_rules (g.H.PgWireServerHandlers.told (arc_value c.args.handlers)))
    (first_state (g.D.CancelDesk.told c.args.desk.now).registration.0 (g.D.CancelDesk.told c.args.desk.now).registration.1)
    c.args.turn_limit
    (around g.S.Source.left g.S.Source.reads g.S.Source.faults g.S.Source.origin g.K.Sink.written g.K.Sink.faults g.K.Sink.origin
    g.D.CancelDesk.told c.args.source.now c.args.sink.now c.args.desk.now)

-- the front is served as any conversation is
pub returns : goal.returns
returns g c = rw c.in-Ok.ensures at c.serve_whole.ensures
