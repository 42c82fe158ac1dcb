use Rattle.std.proofs.Common.{◌≡◌, ◌*◌}
use Rattle.relation_demo.specs.Draws.{after}
use Rattle.relation_demo.specs.Load as load
use Rattle.relation_demo.proofs.relations.row.Given as goal

abbrev pub invariant-cells : goal.invariant-cells
invariant-cells l = record {
  row : l.row ≡ load.row l.initial.draws l.counter;
  after : l.draws ≡ after l.initial.draws (3 * l.counter);
}
