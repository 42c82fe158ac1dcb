use Rattle.std.proofs.Common.{◌≡◌, ◌≤◌, ◌+◌, ◌-◌}
use Rattle.std.specs.Arc.{arc_value}
use Rattle.handler_serving.proofs.listening.take_in_each.Given as goal

-- one connection was accepted for each pid so far
abbrev pub invariant-connections : goal.invariant-connections
invariant-connections g l = record {
  below : l.pid ≤ l.most;
  accepted : g.A.Acceptor.accepted l.acceptor ≡ g.A.Acceptor.accepted l.fn.acceptor + l.pid;
  issued : l.door.issuer ≡ arc_value l.manager;
}

abbrev pub decreases-connections : goal.decreases-connections
decreases-connections g l = l.most - l.pid
