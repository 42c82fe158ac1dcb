use Rattle.std.proofs.Common.{◌≡◌, ◌++◌, drop, map}
use Rattle.relation_handlers.specs.Shared.{shared_columns}
use Rattle.relation_handlers.proofs.shared.shared_columns.Given as goal

abbrev pub invariant-loop-relation : goal.invariant-loop-relation
invariant-loop-relation l = record {
  whole : l.all ++ map shared_columns (drop l.relation-index l.relations)
      ≡ map shared_columns l.relations;
}
