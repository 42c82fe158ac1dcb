-- Columns of relations.
use Rattle.std.specs.Prelude.{ℕ, pos, ◌+◌, ◌<◌, ◌^◌, ◌≡◌, List, map, Option, Some, None, length, slice_index_or, bytes_eq}
use Rattle.std.specs.List.{position_from, AllByRecursion}
use Rattle.pg_interval.specs.declared.pg_interval.Interval.{Interval}
use Rattle.relation_tables.specs.declared.Relation.{Relation}
use Rattle.relation_tables.specs.Relations.{place_of, relation_at}
use Rattle.rota_report.specs.declared.failure.Failure.{Failure}
use Rattle.rota_report.specs.declared.failure.Failure.TheVariants.{NoColumn, NoMemory}

-- the place of the first column of this name
abbrev pub column_place : List (List ℕ) → List ℕ → Option ℕ
column_place columns name = position_from (λ column. bytes_eq column name) 0 columns

abbrev pub zero_interval : Interval
zero_interval = record { months = pos 0; days = pos 0; microseconds = pos 0 }

-- the intervals of the column at a place, row by row; each row of a table has one
abbrev pub column_at : Relation → ℕ → List Interval
column_at r place = map (λ row. slice_index_or row place zero_interval) r.rows

abbrev pub column_if : Relation → Option ℕ → Option (List Interval)
column_if r None = None
column_if r (Some place) = Some (column_at r place)

abbrev pub column_in : List Relation → List ℕ → Option ℕ → Option (List Interval)
column_in relations name None = None
column_in relations name (Some place) =
    column_if (relation_at relations place) (column_place (relation_at relations place).columns name)

-- The intervals of a column of a relation: those under the first column of that name; or None, where there is no relation of that name,
-- or it has no column of that name.
abbrev pub column_of : List Relation → List ℕ → List ℕ → Option (List Interval)
column_of relations relation column = column_in relations column (place_of relations relation)

-- why a column isn't given: there is none such, or memory ran out
abbrev pub IsNoColumn : Failure → Option (List Interval) → Type 0
IsNoColumn NoColumn column = column ≡ None
IsNoColumn NoMemory column = Unit {0}
IsNoColumn failure column = ⊥
