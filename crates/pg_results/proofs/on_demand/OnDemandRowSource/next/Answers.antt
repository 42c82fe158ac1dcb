use Rattle.std.proofs.Common.{Ok, Err}
use Rattle.pg_results.proofs.Taking.{taken}
use Rattle.pg_results.proofs.on_demand.OnDemandRowSource.next.Goals as goal

pub returns-in-Ok-Ok-clause-next : goal.returns-in-Ok-Ok-clause-next
returns-in-Ok-Ok-clause-next g c =
    let item = rw c.in-Ok-Ok.field-0-is at c.in-Ok-Ok.ensures.item in
    taken (g.M.RowMaker.items c.args.self.now.maker) c.args.self.now.position (Ok c.in-Ok-Ok.row) item

pub returns-in-Ok-Err-clause-next : goal.returns-in-Ok-Err-clause-next
returns-in-Ok-Err-clause-next g c =
    let item = rw c.in-Ok-Err.field-0-is at c.in-Ok-Err.ensures.item in
    taken (g.M.RowMaker.items c.args.self.now.maker) c.args.self.now.position (Err c.in-Ok-Err.error) item
