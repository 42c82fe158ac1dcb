use Rattle.conversation_runs.proofs.SentFirst.{step_at_once}
use Rattle.pg_session.proofs.session.Session.step.Goals as goal

pub returns-in-Some-eq80 : goal.returns-in-Some-eq80
returns-in-Some-eq80 g c =
    let r = c.step_as in
    let s = c.args.self.now in
    step_at_once g.K.Sink.written g.K.Sink.faults g.K.Sink.origin g.H.PgWireServerHandlers.told s.rest s r.new.self c.args.sink.now
    (g.D.CancelDesk.told c.args.desk.now) (g.D.CancelDesk.told r.new.desk) c.args.turns.now r.new.turns r.result r.ensures

pub returns-in-Some-eq66 : goal.returns-in-Some-eq66
returns-in-Some-eq66 g c =
    let r = c.step_as-in-Some-eq66 in
    let s = c.args.self.now in
    step_at_once g.K.Sink.written g.K.Sink.faults g.K.Sink.origin g.H.PgWireServerHandlers.told s.rest s r.new.self c.args.sink.now
    (g.D.CancelDesk.told c.args.desk.now) (g.D.CancelDesk.told r.new.desk) c.args.turns.now r.new.turns r.result r.ensures

pub returns-in-Some-eq83 : goal.returns-in-Some-eq83
returns-in-Some-eq83 g c =
    let r = c.step_as-in-Some-eq83 in
    let s = c.args.self.now in
    step_at_once g.K.Sink.written g.K.Sink.faults g.K.Sink.origin g.H.PgWireServerHandlers.told s.rest s r.new.self c.args.sink.now
    (g.D.CancelDesk.told c.args.desk.now) (g.D.CancelDesk.told r.new.desk) c.args.turns.now r.new.turns r.result r.ensures

pub returns-in-None : goal.returns-in-None
returns-in-None g c =
    let r = c.step_any in
    let s = c.args.self.now in
    step_at_once g.K.Sink.written g.K.Sink.faults g.K.Sink.origin g.H.PgWireServerHandlers.told s.rest s r.new.self c.args.sink.now
    (g.D.CancelDesk.told c.args.desk.now) (g.D.CancelDesk.told r.new.desk) c.args.turns.now r.new.turns r.result r.ensures
