use Rattle.std.proofs.Common.{◌≡◌, ◌≤◌}
use Rattle.pg_streams.proofs.acceptor.SocketAcceptor.take.Given as goal

-- no connection was given, and the count of faults never falls
abbrev pub invariant-loop : goal.invariant-loop
invariant-loop g l = (l.self.accepted ≡ l.initial.self.accepted) × (l.initial.self.faults ≤ l.self.faults)
