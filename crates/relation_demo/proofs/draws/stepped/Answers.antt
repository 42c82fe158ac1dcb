use Rattle.relation_demo.proofs.DrawLemmas.{stepped}
use Rattle.relation_demo.proofs.draws.stepped.Goals as goal

pub returns : goal.returns
returns c = stepped c.args.number
