use Rattle.std.proofs.Common.{◌≡◌, ◌≤◌, ◌+◌, ◌-◌}
use Rattle.std.specs.Arc.{arc_value}
use mathlib.Core.List.{IsPrefix}
use Rattle.many_clients.specs.Listening.{HasRegistered, NeverFalls, taking_of}
use Rattle.many_clients.proofs.Serving.{ServesSoFar}
use Rattle.many_clients.proofs.accept_loop.listen_with.Given as goal

-- one connection was taken in for each pid so far, and became its job
abbrev pub invariant-connections : goal.invariant-connections
invariant-connections g l = record {
  below : l.pid ≤ l.most;
  registered : HasRegistered l.fn.door.seen l.door.seen l.pid;
  accepted : g.A.Acceptor.accepted l.acceptor ≡ g.A.Acceptor.accepted l.fn.acceptor + l.pid;
  started : g.P.Spawner.started l.spawner ≡ g.P.Spawner.started l.fn.spawner + l.pid;
  served : ServesSoFar (g.M.JobMaker.makes (g.M.JobMaker.common l.fn.maker)) (arc_value l.manager) (g.A.Acceptor.coming l.fn.acceptor)
      (g.A.Acceptor.coming l.acceptor)
      (g.P.Spawner.taken l.fn.spawner) (g.P.Spawner.taken l.spawner) l.pid;
  falls : NeverFalls (taking_of g.A.Acceptor.accepted g.A.Acceptor.faults g.P.Spawner.started g.P.Spawner.faults l.fn.acceptor l.fn.spawner)
      (taking_of g.A.Acceptor.accepted g.A.Acceptor.faults g.P.Spawner.started g.P.Spawner.faults l.acceptor l.spawner);
  seen : IsPrefix l.fn.door.seen l.door.seen;
  issued : l.door.issuer ≡ l.fn.door.issuer;
}

abbrev pub decreases-connections : goal.decreases-connections
decreases-connections g l = l.most - l.pid
