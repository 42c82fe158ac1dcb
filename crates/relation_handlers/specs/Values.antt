-- What becomes of values that are appended one after another.
use Rattle.std.specs.Prelude.{ℕ, List, ◌++◌, Result, Ok, Err, ◌≡◌, ◌≤◌, length}
use Rattle.std.specs.List.{concat, join_with_byte}
use Rattle.pg_interval.specs.declared.pg_interval.Interval.{Interval}
use Rattle.pg_types.specs.declared.field_format.FieldFormat.{FieldFormat}
use Rattle.pg_results.specs.declared.error.PgWireError.{PgWireError}
use Rattle.pg_portal.specs.Encoding.{line_cell}

-- a row and its formats: one for each of its values, of which there are at most 1,600
pub record HasFormats (row : List Interval) (formats : List FieldFormat) : Type 0 where
  pub same : length formats ≡ length row
  pub narrow : length row ≤ 1600

-- the bytes were appended
abbrev pub IsPushed : Result (List ℕ) PgWireError → List ℕ → List ℕ → Type 0
IsPushed (Ok bytes) old new = new ≡ old ++ bytes
IsPushed (Err e) old new = ⊥

-- the values one after another
abbrev pub joined : Result (List (List ℕ)) PgWireError → Result (List ℕ) PgWireError
joined (Ok values) = Ok (concat values)
joined (Err e) = Err e

-- ---- lines

-- the cell at an index of a line
abbrev pub tabbed : ℕ → Result (List ℕ) PgWireError → Result (List ℕ) PgWireError
tabbed index (Ok text) = Ok (line_cell index text)
tabbed index (Err e) = Err e

-- the texts, separated by tabs
abbrev pub tab_joined : Result (List (List ℕ)) PgWireError → Result (List ℕ) PgWireError
tab_joined (Ok texts) = Ok (join_with_byte 9 texts)
tab_joined (Err e) = Err e
