use Rattle.std.proofs.Common.{◌++◌}
use Rattle.moving_runs.proofs.Served.{none_fed}
use Rattle.moving_session.proofs.parts.Front.take.Goals as goal

pub returns-in-Err-clause-fed : goal.returns-in-Err-clause-fed
returns-in-Err-clause-fed g c =
    let old = g.C.MetSession.seen c.args.self.now.inner in
    none_fed g.C.MetSession.meets old.world old.state old.state (c.args.self.now.rest.items ++ c.args.piece.now)
    c.extend_from_slice.new.self.items (g.K.Sink.written c.args.sink.now) old.unsent (g.D.CancelDesk.told c.args.desk.now).calls
