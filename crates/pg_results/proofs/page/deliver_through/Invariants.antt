use Rattle.std.proofs.Common.{length}
use Rattle.pg_results.proofs.Delivering.{IsDelivering}
use Rattle.pg_results.proofs.page.deliver_through.Given as goal

-- the rows so far were taken of the items and received
abbrev pub invariant-loop-alloc : goal.invariant-loop-alloc
invariant-loop-alloc g l =
    IsDelivering g.T.RowReceiver.with_rows l.fn.max_rows (g.R.RowSource.items l.fn.rows)
    l.fn.receiver (g.R.RowSource.items l.rows) l.receiver l.count

abbrev pub decreases-loop-alloc : goal.decreases-loop-alloc
decreases-loop-alloc g l = length (g.R.RowSource.items l.rows)
