-- Rows as they are made, cell by cell (protocol: Message Formats, DataRow).
use Rattle.std.specs.Prelude.{ℕ, zero, suc, ◌+◌, ◌-◌, List, [], ◌∷◌, ◌++◌, length, Option, Some, None, pos, negsuc, Ok, Err, ◌≡◌, ◌⊎◌}
use Rattle.pg_messages.specs.declared.data.DataRow.{DataRow}
use Rattle.pg_messages.specs.Fields.{int32, count32}
use Rattle.pg_types.specs.declared.pg_type.PgType.{PgType}
use Rattle.pg_types.specs.declared.field_format.FieldFormat.{FieldFormat}
use Rattle.pg_types.specs.declared.field_format.FieldFormat.TheVariants.{Text, Binary}
use Rattle.pg_types.specs.declared.format.FormatOptions.{FormatOptions}
use Rattle.pg_types.specs.declared.error.CellError.{CellError}
use Rattle.pg_types.specs.declared.error.CellError.TheVariants.{NoMemory}
use Rattle.pg_text.specs.Cells.{Cell}
use Rattle.pg_results.specs.Fields.{Field}

-- a row so far: its columns, its cells' bytes, and how many cells these are
pub record RowSoFar : Type 0 where
  pub fields : List Field
  pub payload : List ℕ
  pub cells : ℕ

-- a row of these columns, without a cell
abbrev pub no_cells : List Field → RowSoFar
no_cells fields = record { fields = fields; payload = []; cells = 0 }

abbrev pub columns_left : RowSoFar → ℕ
columns_left row = length row.fields - row.cells

-- what stands before the bytes of a cell: Int32 length, and -1 for a null
abbrev pub frame : Option ℕ → List ℕ
frame None = int32 (negsuc 0)
frame (Some n) = count32 n

-- Int32 length and as many bytes; a null is the length -1 alone
abbrev pub cell_bytes : Option (List ℕ) → List ℕ
cell_bytes None = frame None
cell_bytes (Some bytes) = frame (Some (length bytes)) ++ bytes

abbrev pub with_cell : RowSoFar → Option (List ℕ) → RowSoFar
with_cell row cell = record { fields = row.fields; payload = row.payload ++ cell_bytes cell; cells = row.cells + 1 }

-- the cell of a value in a format, by what the value gives in binary and in text
abbrev pub field_cell : {T : Type 0} → (T → PgType → Cell) → (T → PgType → FormatOptions → Cell) → T → PgType → FieldFormat → FormatOptions
    → Cell
field_cell binary text value ty Binary options = binary value ty
field_cell binary text value ty Text options = text value ty options

-- the row of the cells so far
abbrev pub data_row : RowSoFar → DataRow
data_row row = record { payload = row.payload; field_count = pos row.cells }

-- a cell of a line of a COPY: a tab stands before each text but the first (protocol: COPY Operations)
abbrev pub line_cell : ℕ → List ℕ → List ℕ
line_cell zero text = text
line_cell (suc index) text = 9 ∷ text

-- why there is no cell: the error that was told, or NoMemory
abbrev pub IsRefusal : Cell → CellError → Type 0
IsRefusal (Ok cell) error = error ≡ NoMemory
IsRefusal (Err told) error = (error ≡ told) ⊎ (error ≡ NoMemory)
