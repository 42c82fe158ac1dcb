-- What lines of a relation file are refused for.
use Rattle.std.specs.Prelude.{ℕ, ◌+◌, Bool, ◌==◌, ◌||◌, not, List, [], ◌∷◌, ◌++◌, Option, Some, None, Result, Ok, Err, bytes_eq, length, if◌then◌else◌}
use Rattle.std.specs.Option.{is_some}
use Rattle.std.specs.List.{list_any}
use Rattle.std.specs.Str.{is_utf8}
use Rattle.pg_interval.specs.Reading.{reading, Postgres}
use Rattle.pg_interval.specs.declared.pg_interval.Interval.{Interval}
use Rattle.interval_errors.specs.declared.ParseError.{ParseError}
use Rattle.relation_tables.specs.Names.{is_name, are_columns}
use Rattle.relation_files.specs.declared.errors.LineReason.{LineReason}
use Rattle.relation_files.specs.declared.errors.LineReason.TheVariants.{Text, Header, Name, Column, Width, Cell}
use Rattle.relation_files.specs.Lines.{fields_of}
use Rattle.relation_files.specs.Told.{polls_of, header_of}

-- whether a name is one of these
abbrev pub is_among : List (List ℕ) → List ℕ → Bool
is_among names name = list_any (λ other. bytes_eq name other) names

-- a header's fields: two at least, of which the second is a number; a good name that isn't taken; good columns
abbrev pub header_reason : (List ℕ → Bool) → List (List ℕ) → Option LineReason
header_reason is_taken (name ∷ polls ∷ columns) =
    if not (is_some (polls_of polls)) then Some Header
    else if is_taken name || not (is_name name) then Some Name
    else if not (are_columns columns) then Some Column
    else None
header_reason is_taken fields = Some Header

-- a cell's refusal, or else what follows
abbrev pub cell_reason : Result Interval ParseError → Option LineReason → Option LineReason
cell_reason (Ok interval) later = later
cell_reason (Err e) later = Some (Cell e)

-- the first cell that stands for no interval in the style `postgres`
abbrev pub cells_reason : List (List ℕ) → Option LineReason
cells_reason [] = None
cells_reason (cell ∷ cells) = cell_reason (reading Postgres cell) (cells_reason cells)

-- a row's fields: as many as the relation has columns, and each an interval
abbrev pub row_reason : ℕ → List (List ℕ) → Option LineReason
row_reason width cells = if not (length cells == width) then Some Width else cells_reason cells

-- the fields of a row, where a relation of this width is open, or else of a header
abbrev pub fields_reason : (List ℕ → Bool) → Option ℕ → List (List ℕ) → Option LineReason
fields_reason is_taken None fields = header_reason is_taken fields
fields_reason is_taken (Some width) fields = row_reason width fields

-- a line that isn't empty
abbrev pub line_reason : (List ℕ → Bool) → Option ℕ → List ℕ → Option LineReason
line_reason is_taken width line = if not (is_utf8 line) then Some Text else fields_reason is_taken width (fields_of line)

-- the line of this number with its reason, if it has one, or else what follows
abbrev pub at_line : ℕ → Option LineReason → Option (ℕ × LineReason) → Option (ℕ × LineReason)
at_line number None later = later
at_line number (Some reason) later = Some (number, reason)

-- The first line that breaks a rule, of the lines from this number on, and which rule. The headers before had these names, and a relation
-- of this width is open, or none is. An empty line ends a relation; after it comes a header, and after that rows.
abbrev pub first_bad_line_from : ℕ → List (List ℕ) → Option ℕ → List (List ℕ) → Option (ℕ × LineReason)
first_bad_line_from number names width [] = None
first_bad_line_from number names width ([] ∷ lines) = first_bad_line_from (number + 1) names None lines
first_bad_line_from number names None (line ∷ lines) =
    at_line number (line_reason (is_among names) None line)
    (first_bad_line_from (number + 1) (names ++ (header_of (fields_of line)).name ∷ []) (Some (length (header_of (fields_of line)).columns))
    lines)
first_bad_line_from number names (Some width) (line ∷ lines) =
    at_line number (line_reason (is_among names) (Some width) line) (first_bad_line_from (number + 1) names (Some width) lines)

-- the first line that breaks a rule, counted from 1, and which
abbrev pub first_bad_line : List (List ℕ) → Option (ℕ × LineReason)
first_bad_line lines = first_bad_line_from 1 [] None lines
