use Rattle.std.proofs.Common.{◌≡◌, ◌≤◌, ◌+◌, List, length}
use Rattle.pg_messages.specs.declared.backend.PgWireBackendMessage.{PgWireBackendMessage}
use Rattle.pg_messages.specs.Replies.{replies_bytes}
use Rattle.relation_demo.specs.Counting.{AreTold}
use Rattle.relation_demo.proofs.CountLemmas.{AreLeft}
use Rattle.relation_demo.proofs.counting.count_rows.Given as goal

abbrev pub invariant-loop-kind : goal.invariant-loop-kind
invariant-loop-kind l = record {
  left : (messages : List PgWireBackendMessage) → l.fn.replies ≡ replies_bytes messages → AreTold messages → AreLeft l.rest l.rows messages;
  few : l.rows + length l.rest ≤ length l.fn.replies;
}

abbrev pub decreases-loop-kind : goal.decreases-loop-kind
decreases-loop-kind l = length l.rest
