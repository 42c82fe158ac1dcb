use Rattle.std.proofs.Common.{length, arith, ap}
use Rattle.relation_demo.proofs.LoadLemmas.{how_many}
use Rattle.relation_demo.proofs.relations.demo_table.Goals as goal

pub try_new-requires : goal.try_new-requires
try_new-requires c = omega (arith, ap length c.in_ok-relations.ensures, how_many c.args.seed c.args.count)
