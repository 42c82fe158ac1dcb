use Rattle.std.proofs.Common.{Ok, ap}
use Rattle.pg_results.proofs.Taking.{taken}
use Rattle.pg_results.proofs.on_demand.OnDemandRowSource.next_row.Goals as goal

pub returns-then-is_made-clause-next : goal.returns-then-is_made-clause-next
returns-then-is_made-clause-next g c =
    rw c.if-is_made.true (taken (g.M.RowMaker.items c.args.self.now.maker) c.args.self.now.position (Ok c.make_row.new._row)
    (c.in_ok-is_made.ensures.item (ap Ok c.if-is_made.true)))
