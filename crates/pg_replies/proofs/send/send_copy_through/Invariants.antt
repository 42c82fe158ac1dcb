use Rattle.std.proofs.Common.{length}
use Rattle.pg_results.specs.Responses.{told_copy}
use Rattle.pg_replies.specs.ResponseRows.{copy_items}
use Rattle.pg_replies.proofs.Copied.{IsCopied}
use Rattle.pg_replies.proofs.send.send_copy_through.Given as goal

-- the data so far was taken of the items and appended
abbrev pub invariant-loop-outbox : goal.invariant-loop-outbox
invariant-loop-outbox g l =
    IsCopied (copy_items (told_copy g.C.CopySource.items l.fn.resp)) l.fn.outbox (copy_items (told_copy g.C.CopySource.items l.resp))
    l.outbox l.count

abbrev pub decreases-loop-outbox : goal.decreases-loop-outbox
decreases-loop-outbox g l = length (copy_items (told_copy g.C.CopySource.items l.resp))
