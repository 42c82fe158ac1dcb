-- Relations, and the rules of a table of them. The rules of names and columns are in relation_tables.
use Rattle.std.specs.Prelude.{ℕ, Bool, true, List, [], ◌∷◌, ◌++◌, Option, Some, None, ◌≡◌, ◌||◌, not, is_some, if◌then◌else◌, length}
use Rattle.std.specs.List.{AllByRecursion}
use Rattle.pg_interval.specs.declared.pg_interval.Interval.{Interval}
use Rattle.pg_interval.specs.Cell.{IsInterval}
use Rattle.relation_tables.specs.declared.Relation.{Relation}
use Rattle.relation_tables.specs.Names.{is_name, are_columns}
use Rattle.relation_tables.specs.Relations.{place_of, are_even}
use Rattle.relation_handlers.specs.declared.table.TableError.{TableError}
use Rattle.relation_handlers.specs.declared.table.TableError.TheVariants.{BadName, BadColumn, RaggedRow, NoMemory}

-- the rule that a relation at a place breaks: its name is judged first, which may be that of an earlier relation, then
-- its columns, then its rows
abbrev pub refusal_at : ℕ → Bool → Relation → Option TableError
refusal_at place is_taken r =
    if is_taken || not (is_name r.name) then Some (BadName place)
    else if not (are_columns r.columns) then Some (BadColumn place)
    else if not (are_even (length r.columns) r.rows) then Some (RaggedRow place)
    else None

-- a relation that can be served: good columns and even rows
pub record IsSound (r : Relation) : Type 0 where
  pub columns : are_columns r.columns ≡ true
  pub rows : are_even (length r.columns) r.rows ≡ true

-- the first refusal of two, if there is one
abbrev pub or_else : Option TableError → Option TableError → Option TableError
or_else None later = later
or_else (Some e) later = Some e

-- Refusal of relations that stand after earlier ones: that of the first which breaks a rule.
abbrev pub refusal_after : List Relation → List Relation → Option TableError
refusal_after earlier [] = None
refusal_after earlier (r ∷ relations) = or_else (refusal_at (length earlier) (is_some (place_of earlier r.name)) r)
    (refusal_after (earlier ++ r ∷ []) relations)

abbrev pub refusal : List Relation → Option TableError
refusal relations = refusal_after [] relations

-- valid table: nothing is refused
abbrev pub IsValid : List Relation → Type 0
IsValid relations = refusal relations ≡ None

-- why a table was refused: its refusal, or NoMemory
abbrev pub IsCause : List Relation → TableError → Type 0
IsCause relations NoMemory = Unit {0}
IsCause relations e = refusal relations ≡ Some e

-- ---- intervals

-- the numbers of each interval of a row, of rows, and of relations lie in their types
abbrev pub IsRowWithin : List Interval → Type 0
IsRowWithin row = AllByRecursion IsInterval row

abbrev pub AreRowsWithin : List (List Interval) → Type 0
AreRowsWithin rows = AllByRecursion IsRowWithin rows

abbrev pub HoldIntervals : List Relation → Type 0
HoldIntervals relations = AllByRecursion (λ r. AreRowsWithin r.rows) relations
