-- Shifts as rows: whose a shift is, when it starts and how long it lasts (protocol: Message Formats, RowDescription and DataRow).
use Rattle.std.specs.Prelude.{ℕ, pos, negsuc, List, [], ◌∷◌, ◌++◌, Some, Ok, ◌≡◌, map, codes}
use Rattle.pg_interval.specs.Cell.{interval_cell}
use Rattle.pg_interval.specs.Printed.{printed}
use Rattle.pg_interval.specs.Reading.{Postgres}
use Rattle.pg_interval.specs.declared.pg_interval.Interval.{Interval}
use Rattle.pg_messages.specs.declared.data.DataRow.{DataRow}
use Rattle.pg_types.specs.declared.field_format.FieldFormat.{FieldFormat}
use Rattle.pg_types.specs.declared.field_format.FieldFormat.TheVariants as field
use Rattle.pg_types.specs.declared.pg_type.PgType.TheVariants as type
use Rattle.pg_portal.specs.Encoding.{cell_bytes}
use Rattle.pg_results.specs.Fields.{Field}
use Rattle.pg_results.specs.Rows.{RowItem}
use Rattle.pg_results.specs.declared.format.Format.{Format}
use Rattle.row_handlers.specs.Answers.{column_of, format_at}
use Rattle.shift_table.specs.declared.shift.Shift.{Shift}

-- the shifts that are shown, and the formats of their columns
pub record ToldShifts : Type 0 where
  pub shifts : List Shift
  pub formats : Format

-- a name is text, whose size varies; a start and a length are intervals, of sixteen bytes
abbrev pub columns : Format → List Field
columns formats = column_of (format_at formats 0) (codes "name") type.Text (negsuc 0)
    ∷ column_of (format_at formats 1) (codes "start") type.Interval (pos 16)
    ∷ column_of (format_at formats 2) (codes "length") type.Interval (pos 16) ∷ []

-- an interval in a format: its sixteen bytes, or its text in the style postgres
abbrev pub interval_in : FieldFormat → Interval → List ℕ
interval_in field.Binary i = interval_cell i
interval_in field.Text i = printed Postgres i

-- the row of a shift whose start and length are in these formats; a name has the same bytes in both
abbrev pub row_in : FieldFormat → FieldFormat → Shift → DataRow
row_in start length s = record {
  payload = cell_bytes (Some s.name) ++ cell_bytes (Some (interval_in start s.start)) ++ cell_bytes (Some (interval_in length s.length));
  field_count = pos 3;
}

-- the row of a shift, each cell in the format of its column
abbrev pub row_of : Format → Shift → DataRow
row_of formats s = row_in (format_at formats 1) (format_at formats 2) s

-- a row for each shift, in their order
abbrev pub shift_items : ToldShifts → List RowItem
shift_items r = map (λ s. Ok (row_of r.formats s)) r.shifts

-- these are the formats of the columns start and length
pub record AreJudged (formats : Format) (start length : FieldFormat) : Type 0 where
  pub start_is : start ≡ format_at formats 1
  pub length_is : length ≡ format_at formats 2
