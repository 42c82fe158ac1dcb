use Rattle.std.proofs.Common.{◌≡◌, ◌++◌, drop, map}
use Rattle.std.specs.List.{zip}
use Rattle.relation_tables.specs.Relations.{column}
use Rattle.relation_handlers.proofs.columns.columns.Given as goal

abbrev pub invariant-loop-index : goal.invariant-loop-index
invariant-loop-index l = record {
  whole : l.fields ++ map (λ p. column p.0 p.1) (zip (drop l.index l.formats) (drop l.index l.names))
      ≡ map (λ p. column p.0 p.1) (zip l.formats l.names);
}
