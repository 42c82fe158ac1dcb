use Rattle.std.proofs.Common.{◌≡◌, ◌*◌}
use Rattle.relation_demo.specs.Draws.{after}
use Rattle.relation_demo.specs.Load as load
use Rattle.relation_demo.proofs.relations.rows.Given as goal

abbrev pub invariant-rows : goal.invariant-rows
invariant-rows l = record {
  rows : l.rows ≡ load.rows l.initial.draws l.width l.counter;
  after : l.draws ≡ after l.initial.draws (3 * l.width * l.counter);
}
