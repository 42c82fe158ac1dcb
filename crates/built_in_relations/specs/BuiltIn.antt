-- The relations that tests and measurements use.
use Rattle.std.specs.Prelude.{ℤ, pos, negsuc, List, [], ◌∷◌, codes}
use Rattle.pg_interval.specs.declared.pg_interval.Interval.{Interval}
use Rattle.relation_tables.specs.declared.Relation.{Relation}

abbrev pub interval : ℤ → ℤ → ℤ → Interval
interval months days microseconds = record { months = months; days = days; microseconds = microseconds }

abbrev pub shifts : Relation
shifts = record {
  name = codes "shifts";
  unready = 0;
  columns = codes "span" ∷ [];
  rows = (interval (pos 13) (pos 1) (pos 4215000000) ∷ []) ∷ (interval (pos 0) (pos 0) (negsuc 499999) ∷ []) ∷
      (interval (negsuc 0) (pos 2) (pos 3000000) ∷ []) ∷ [];
}

abbrev pub slow : Relation
slow = record {
  name = codes "slow";
  unready = 2;
  columns = codes "span" ∷ [];
  rows = (interval (pos 0) (pos 1) (pos 0) ∷ []) ∷ [];
}

abbrev pub wide : Relation
wide = record {
  name = codes "wide";
  unready = 0;
  columns = codes "a" ∷ codes "b" ∷ codes "c" ∷ [];
  rows = (interval (pos 0) (pos 1) (pos 0) ∷ interval (pos 0) (pos 2) (pos 0) ∷ interval (pos 0) (pos 3) (pos 0) ∷ []) ∷ [];
}

abbrev pub none : Relation
none = record { name = codes "none"; unready = 0; columns = codes "span" ∷ []; rows = [] }

-- the table of these relations
abbrev pub built_in : List Relation
built_in = shifts ∷ slow ∷ wide ∷ none ∷ []
