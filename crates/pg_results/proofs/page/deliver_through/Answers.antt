use Rattle.std.proofs.Common.{Ok, length, refl, sym, ap, ◌∙◌, arith}
use Rattle.std.proofs.lemmas.Int.{to_z-of_z}
use Rattle.std.proofs.lemmas.Result.{err_from_is_err_and}
use Rattle.pg_results.proofs.Delivering.{delivering_begins, delivering_goes_on, ended_at_limit, ended_at_end, cut_at_next, cut_behind}
use Rattle.pg_results.proofs.page.deliver_through.Goals as goal

pub loop-alloc-init : goal.loop-alloc-init
loop-alloc-init g c =
    let fits = c.ranges.max_rows in
    simp to_z-of_z (delivering_begins g.T.RowReceiver.with_rows g.met.T.RowReceiver.none g.met.T.RowReceiver.more
    c.args.max_rows fits (g.R.RowSource.items c.args.rows.now) c.args.receiver.now)

pub loop-alloc-preserved-then-branch : goal.loop-alloc-preserved-then-branch
loop-alloc-preserved-then-branch g c =
    let fits = c.ranges.max_rows in
    let l = simp to_z-of_z at c.loop-alloc.invariant in
    simp to_z-of_z (delivering_goes_on g.T.RowReceiver.with_rows g.met.T.RowReceiver.none g.met.T.RowReceiver.more
    c.args.max_rows fits (g.R.RowSource.items c.args.rows.now) c.args.receiver.now
    _ _ _ l _ _ c.is_reached.ensures c.loop-alloc-test.true refl c.next_row.new._row _ _ _
    (rw c.if-branch.true at c.in_ok-next_row.ensures.next) c.in_ok-receive.ensures.ok c.saturating_add-count.ensures)

pub loop-alloc-preserved : goal.loop-alloc-preserved
loop-alloc-preserved g c =
    let fits = c.ranges.max_rows in
    let l = simp to_z-of_z at c.loop-alloc.invariant in
    let same = rw c.if-branch.false at c.in_ok-next_row.ensures.next in
    let one = c.in_ok-deliver_next.ensures.row (ap Ok c.if-not-branch.false) in
    simp to_z-of_z (delivering_goes_on g.T.RowReceiver.with_rows g.met.T.RowReceiver.none g.met.T.RowReceiver.more
    c.args.max_rows fits (g.R.RowSource.items c.args.rows.now) c.args.receiver.now
    _ _ _ l _ _ c.is_reached.ensures c.loop-alloc-test.true refl one.0 _ _ _
    (sym same ∙ one.1) one.2 c.saturating_add-count-in-loop-alloc.ensures)

pub loop-alloc-smaller-then-branch : goal.loop-alloc-smaller-then-branch
loop-alloc-smaller-then-branch g c =
    let longer = ap length (rw c.if-branch.true at c.in_ok-next_row.ensures.next) in
    omega (arith, longer)

pub loop-alloc-smaller : goal.loop-alloc-smaller
loop-alloc-smaller g c =
    let same = rw c.if-branch.false at c.in_ok-next_row.ensures.next in
    let one = c.in_ok-deliver_next.ensures.row (ap Ok c.if-not-branch.false) in
    let longer = ap length (sym same ∙ one.1) in
    omega (arith, longer)

pub returns-in_err-receive-clause-cut_short : goal.returns-in_err-receive-clause-cut_short
returns-in_err-receive-clause-cut_short g c =
    let fits = c.ranges.max_rows in
    let l = simp to_z-of_z at c.loop-alloc.invariant in
    let from = c.from_residual-in_err-receive in
    let p = err_from_is_err_and from.result from.ensures.1 in
    rw p.1 (cut_behind g.T.RowReceiver.with_rows g.met.T.RowReceiver.none g.met.T.RowReceiver.more
    c.args.max_rows fits (g.R.RowSource.items c.args.rows.now) c.args.receiver.now
    _ _ _ l p.0 c.next_row.new._row (g.R.RowSource.items c.next_row.new.self) c.receive.new.self p.2
    (rw c.if-branch.true at c.in_ok-next_row.ensures.next)
    c.in_err-receive.ensures.err)

pub returns-in_err-deliver_next-clause-cut_short : goal.returns-in_err-deliver_next-clause-cut_short
returns-in_err-deliver_next-clause-cut_short g c =
    let fits = c.ranges.max_rows in
    let l = simp to_z-of_z at c.loop-alloc.invariant in
    let from = c.from_residual-in_err-deliver_next in
    let same = rw c.if-branch.false at c.in_ok-next_row.ensures.next in
    let missed = rw same at c.in_err-deliver_next.ensures.cut_short in
    let p = err_from_is_err_and from.result from.ensures.1 in
    rw (p.1, p.2) (cut_at_next g.T.RowReceiver.with_rows g.met.T.RowReceiver.none g.met.T.RowReceiver.more
    c.args.max_rows fits (g.R.RowSource.items c.args.rows.now) c.args.receiver.now
    _ _ _ l _ _ c.is_reached.ensures c.loop-alloc-test.true refl _ (g.R.RowSource.items c.deliver_next.new.rows)
    c.deliver_next.new.receiver missed c.in_err-deliver_next.ensures.kept)

pub returns-then-not-branch : goal.returns-then-not-branch
returns-then-not-branch g c =
    let fits = c.ranges.max_rows in
    let l = simp to_z-of_z at c.loop-alloc.invariant in
    let same = rw c.if-branch.false at c.in_ok-next_row.ensures.next in
    let end = c.in_ok-deliver_next.ensures.end (ap Ok c.if-not-branch.true) in
    let page =
    ended_at_end g.T.RowReceiver.with_rows g.met.T.RowReceiver.none g.met.T.RowReceiver.more
    c.args.max_rows fits (g.R.RowSource.items c.args.rows.now) c.args.receiver.now
    _ _ _ l _ _ c.is_reached.ensures c.loop-alloc-test.true refl (g.R.RowSource.items c.deliver_next.new.rows)
    (sym same ∙ end.0, end.1) c.args.delivered _ c.delivered_after.ensures in
    record {
      ended = page.ended;
      delivered = page.delivered;
      received = end.2 ∙ page.received;
      taken = page.taken;
      cut_short = tt;
      own = tt;
    }

pub returns : goal.returns
returns g c =
    let fits = c.ranges.max_rows in
    let l = simp to_z-of_z at c.loop-alloc.invariant in
    let page =
    ended_at_limit g.T.RowReceiver.with_rows g.met.T.RowReceiver.none g.met.T.RowReceiver.more
    c.args.max_rows fits (g.R.RowSource.items c.args.rows.now) c.args.receiver.now
    _ _ _ l _ _ c.is_reached.ensures c.loop-alloc-test.false refl c.args.delivered _ c.delivered_after-2.ensures in
    record {
      ended = page.ended;
      delivered = page.delivered;
      received = page.received;
      taken = page.taken;
      cut_short = tt;
      own = tt;
    }
