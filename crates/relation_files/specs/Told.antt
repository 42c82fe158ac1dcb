-- What the blocks of a relation file tell: a header and rows.
use Rattle.std.specs.Prelude.{ℕ, pos, ◌&&◌, nat_le, List, [], ◌∷◌, map, Option, Some, None, Result, Ok, Err, if◌then◌else◌}
use Rattle.std.specs.Str.Parse.{digits_value}
use Rattle.pg_interval.specs.Reading.{reading, Postgres}
use Rattle.pg_interval.specs.Texts.{are_digits}
use Rattle.pg_interval.specs.declared.pg_interval.Interval.{Interval}
use Rattle.interval_errors.specs.declared.ParseError.{ParseError}
use Rattle.relation_tables.specs.declared.Relation.{Relation}
use Rattle.relation_tables.specs.Relations.{no_relation}
use Rattle.relation_files.specs.Lines.{fields_of, blocks}

-- the number of unready polls that a field tells: one or more decimal digits of value at most 4294967295
abbrev pub polls_of : List ℕ → Option ℕ
polls_of field = if are_digits field && nat_le (digits_value 10 field) 4294967295 then Some (digits_value 10 field) else None

-- the relation of a header, without rows: its fields are a name, a number of unready polls, and the names of the columns
abbrev pub header_of : List (List ℕ) → Relation
header_of (name ∷ polls ∷ columns) = record { name = name; unready = digits_value 10 polls; columns = columns; rows = [] }
header_of fields = no_relation

-- the interval that was read, or the zero interval where none was
abbrev pub interval_or_zero : Result Interval ParseError → Interval
interval_or_zero (Ok interval) = interval
interval_or_zero (Err e) = record { months = pos 0; days = pos 0; microseconds = pos 0 }

-- the intervals for which the fields of a row stand in the style `postgres`
abbrev pub row_of : List ℕ → List Interval
row_of line = map (λ cell. interval_or_zero (reading Postgres cell)) (fields_of line)

-- a header's relation with the rows of these lines
abbrev pub with_rows : Relation → List (List ℕ) → Relation
with_rows r lines = record { name = r.name; unready = r.unready; columns = r.columns; rows = map row_of lines }

-- the relation that a block tells: its first line is the header, the others are rows
abbrev pub relation_of : List (List ℕ) → Relation
relation_of [] = no_relation
relation_of (header ∷ lines) = with_rows (header_of (fields_of header)) lines

-- the relations that lines tell: one a block
abbrev pub relations_of : List (List ℕ) → List Relation
relations_of lines = map relation_of (blocks lines)
