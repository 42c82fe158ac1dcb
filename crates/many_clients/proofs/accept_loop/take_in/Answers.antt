use Rattle.std.proofs.Common.{refl, subst}
use Rattle.std.proofs.lemmas.Result.{err_from_is_err_and}
use Rattle.many_clients.specs.Listening.{taking_of}
use Rattle.many_clients.proofs.Serving.{ok_then}
use Rattle.many_clients.proofs.Taking.{took_in, turned_away}
use Rattle.many_clients.proofs.accept_loop.take_in.Goals as goal

pub returns-in_err-manager-clause-taken : goal.returns-in_err-manager-clause-taken
returns-in_err-manager-clause-taken g c =
    let p = err_from_is_err_and c.from_residual.result c.from_residual.ensures.1 in
    rw (p.1, p.2) (turned_away c.in_err-manager.field-0.0 c.args.pid
    (taking_of g.A.Acceptor.accepted g.A.Acceptor.faults g.P.Spawner.started g.P.Spawner.faults c.args.acceptor.now c.args.spawner.now)
    (taking_of g.A.Acceptor.accepted g.A.Acceptor.faults g.P.Spawner.started g.P.Spawner.faults c.accept.new.self c.args.spawner.now)
    c.args.door.now.seen c.admit.new.door.seen c.in-Ok.ensures.accepted refl c.in_err-manager.ensures.refused)

pub returns-clause-taken : goal.returns-clause-taken
returns-clause-taken g c =
    took_in c.start.result c.args.pid
    (taking_of g.A.Acceptor.accepted g.A.Acceptor.faults g.P.Spawner.started g.P.Spawner.faults c.args.acceptor.now c.args.spawner.now)
    (taking_of g.A.Acceptor.accepted g.A.Acceptor.faults g.P.Spawner.started g.P.Spawner.faults c.accept.new.self c.start.new.spawner)
    c.args.door.now.seen c.admit.new.door.seen c.in-Ok.ensures.accepted c.in_ok-manager.ensures.admitted c.start.ensures.ok
    c.start.ensures.err

pub returns-clause-job : goal.returns-clause-job
returns-clause-job g c =
    let handle = c.in_ok-manager.handle in
    let connection : g.row.A-In.Denot × g.row.A-Out.Denot = (c.in-Ok.source, c.in-Ok.sink) in
    let job = c.make.result in
    let admitted = c.in_ok-manager.ensures in
    let made = subst (λ common. g.M.JobMaker.makes common handle connection job) admitted.maker c.make.ensures.made in
    ok_then c.start.result
    (λ taken.
    record {
      connection = connection;
      job = job;
      is = (handle, admitted.handle.0, admitted.handle.1, admitted.fresh, made);
      came = c.in-Ok.ensures.next;
      went = taken;
    })
    c.start.ensures.taken
