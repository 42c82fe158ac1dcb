use Rattle.std.proofs.Common.{◌≡◌, ◌≤◌, ◌*◌, Ok, length, map}
use Rattle.std.specs.List.{zip}
use Rattle.relation_tables.specs.RelationHandler.{all_or_error, value}
use Rattle.relation_handlers.specs.Values.{joined}
use Rattle.relation_handlers.proofs.ValueLemmas.{finish, from}
use Rattle.relation_handlers.proofs.data_row.push_values.Given as goal

abbrev pub invariant-loop-index : goal.invariant-loop-index
invariant-loop-index l = record {
  whole : finish l.payload.items (from (λ p. value (Ok l.style) p.0 p.1) l.formats l.row l.index)
      ≡ joined (all_or_error (map (λ p. value (Ok l.style) p.0 p.1) (zip l.formats l.row)));
  short : length l.payload.items ≤ 4100 * l.index;
}
