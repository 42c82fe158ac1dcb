use Rattle.std.proofs.Common.{◌≡◌, ◌++◌}
use Rattle.std.specs.List.{AllByRecursion}
use Rattle.std.specs.Vec.Iter.{into_iter_items}
use Rattle.pg_results.specs.Responses.{told_responses}
use Rattle.conversation_table.specs.Good.{IsSendableResponse}
use Rattle.pg_handlers.proofs.Answers.{IsAnswered}
use Rattle.pg_handlers.proofs.query.respond.send_responses.Given as goal

-- the responses so far were sent, and those that are left
abbrev pub invariant-loop-response : goal.invariant-loop-response
invariant-loop-response g l = record {
  all : l.fn.responses ≡ l.yielded ++ into_iter_items l.response-iterator;
  each : AllByRecursion IsSendableResponse (told_responses g.R.RowSource.items g.C.CopySource.items (into_iter_items l.response-iterator));
  sent : IsAnswered l.fn.status (told_responses g.R.RowSource.items g.C.CopySource.items l.fn.responses) l.fn.outbox
      l.left (told_responses g.R.RowSource.items g.C.CopySource.items (into_iter_items l.response-iterator)) l.outbox;
}
