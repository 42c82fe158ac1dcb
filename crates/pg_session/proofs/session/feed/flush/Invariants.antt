-- what was sent, and what still waits
use Rattle.std.proofs.Common.{◌≡◌, [], length}
use Rattle.conversation_runs.specs.Steps.{Flows}
use Rattle.pg_session.proofs.session.feed.flush.Given as goal

abbrev pub invariant-chunks : goal.invariant-chunks
invariant-chunks g l = record {
  flows : Flows (g.K.Sink.written l.fn.sink) (g.K.Sink.written l.sink) l.fn.outbox l.outbox [];
  faults : g.K.Sink.faults l.sink ≡ g.K.Sink.faults l.fn.sink;
  origin : g.K.Sink.origin l.sink ≡ g.K.Sink.origin l.fn.sink;
}

abbrev pub decreases-chunks : goal.decreases-chunks
decreases-chunks g l = length l.outbox
