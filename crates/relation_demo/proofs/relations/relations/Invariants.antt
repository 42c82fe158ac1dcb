use Rattle.std.proofs.Common.{◌≡◌}
use Rattle.relation_demo.specs.Load as load
use Rattle.relation_demo.proofs.relations.relations.Given as goal

abbrev pub invariant-loop-number : goal.invariant-loop-number
invariant-loop-number l = record {
  relations : l.relations ≡ load.demo_relations l.fn.seed l.number;
  before : l.draws ≡ load.before l.fn.seed l.number;
}
