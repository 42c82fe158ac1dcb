use Rattle.conversation_runs.proofs.SentFirst.{step_at_once}
use Rattle.pg_session.proofs.session.Session.step_by.Goals as goal

pub returns-in-68 : goal.returns-in-68
returns-in-68 g c =
    let r = c.step_as in
    let s = c.args.self.now in
    step_at_once g.K.Sink.written g.K.Sink.faults g.K.Sink.origin g.H.PgWireServerHandlers.told s.rest s r.new.self c.args.sink.now
    (g.D.CancelDesk.told c.args.desk.now) (g.D.CancelDesk.told r.new.desk) c.args.turns.now r.new.turns r.result r.ensures

pub returns-in-67 : goal.returns-in-67
returns-in-67 g c =
    let r = c.step_as-in-67 in
    let s = c.args.self.now in
    step_at_once g.K.Sink.written g.K.Sink.faults g.K.Sink.origin g.H.PgWireServerHandlers.told s.rest s r.new.self c.args.sink.now
    (g.D.CancelDesk.told c.args.desk.now) (g.D.CancelDesk.told r.new.desk) c.args.turns.now r.new.turns r.result r.ensures

pub returns-in_default : goal.returns-in_default
returns-in_default g c =
    let r = c.step_any in
    let s = c.args.self.now in
    step_at_once g.K.Sink.written g.K.Sink.faults g.K.Sink.origin g.H.PgWireServerHandlers.told s.rest s r.new.self c.args.sink.now
    (g.D.CancelDesk.told c.args.desk.now) (g.D.CancelDesk.told r.new.desk) c.args.turns.now r.new.turns r.result r.ensures
