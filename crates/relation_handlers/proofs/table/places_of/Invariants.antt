use Rattle.std.proofs.Common.{◌≡◌, ℕ, List, take, drop}
use Rattle.std.specs.FinMap as map
use Rattle.relation_tables.specs.Relations.{place_of}
use Rattle.relation_handlers.specs.Tables.{refusal, refusal_after}
use Rattle.relation_handlers.proofs.table.places_of.Given as goal

abbrev pub invariant-loop-relation : goal.invariant-loop-relation
invariant-loop-relation l = record {
  count : l.place ≡ l.relation-index;
  places : (name : List ℕ) → map.get l.places name ≡ place_of (take l.relation-index l.relations) name;
  refusal : refusal_after (take l.relation-index l.relations) (drop l.relation-index l.relations) ≡ refusal l.relations;
}
