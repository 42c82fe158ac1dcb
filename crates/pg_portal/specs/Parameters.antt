-- Parameters of portals, read as values (protocol: Extended Query, Bind; Formats and Format Codes).
use Rattle.std.specs.Prelude.{ℕ, Bool, List, Option, Some, None, Result, Ok, Err, if◌then◌else◌, slice_get}
use Rattle.pg_types.specs.declared.error.CellError.{CellError}
use Rattle.pg_types.specs.declared.error.CellError.TheVariants as cell
use Rattle.pg_types.specs.declared.field_format.FieldFormat.{FieldFormat}
use Rattle.pg_types.specs.declared.field_format.FieldFormat.TheVariants as field
use Rattle.pg_types.specs.declared.format.FormatOptions.{FormatOptions}
use Rattle.pg_types.specs.declared.pg_type.PgType.{PgType}
use Rattle.pg_types.specs.Options.{default_options}
use Rattle.pg_types.specs.Types.{name_of}
use Rattle.pg_results.specs.declared.error.PgWireError.{PgWireError}
use Rattle.pg_results.specs.declared.error.PgWireError.TheVariants as wire
use Rattle.pg_results.specs.Formats.{format_for}
use Rattle.pg_portal.specs.Told.{BoundPortal}

-- the value that a cell's bytes are read as, in a format and with the default options
abbrev pub read_in : {T : Type 0} → (PgType → List ℕ → Result T CellError) → (PgType → List ℕ → FormatOptions → Result T CellError)
    → PgType → FieldFormat → List ℕ → Result T CellError
read_in binary text ty field.Binary bytes = binary ty bytes
read_in binary text ty field.Text bytes = text ty bytes default_options

-- the error of a cell that isn't read: NoMemory, or one that holds the cell's error
abbrev pub refused_cell : CellError → PgWireError
refused_cell cell.NoMemory = wire.NoMemory
refused_cell error = wire.FailedToParseParameter error

abbrev pub parsed : {T : Type 0} → Result T CellError → Result (Option T) PgWireError
parsed (Ok value) = Ok (Some value)
parsed (Err error) = Err (refused_cell error)

-- the parameter at an index, by its format and by what stands there: a null, or bytes that are read. Each is None past
-- its end.
abbrev pub parameter_at : {T : Type 0} → (FieldFormat → List ℕ → Result T CellError) → ℕ → Option FieldFormat → Option (Option (List ℕ))
    → Result (Option T) PgWireError
parameter_at read index (Some format) (Some (Some bytes)) = parsed (read format bytes)
parameter_at read index (Some format) (Some None) = Ok None
parameter_at read index (Some format) None = Err (wire.ParameterIndexOutOfBound index)
parameter_at read index None _ = Err (wire.ParameterIndexOutOfBound index)

-- The parameter of a portal at an index, as a value of a type. The first arguments say which types are accepted, and
-- how binary and text cells are read.
abbrev pub parameter : {S T : Type 0} → (PgType → Bool) → (PgType → List ℕ → Result T CellError)
    → (PgType → List ℕ → FormatOptions → Result T CellError) → BoundPortal S → ℕ → PgType → Result (Option T) PgWireError
parameter accepted binary text portal index ty = if accepted ty
    then parameter_at (read_in binary text ty) index (format_for portal.parameter_format index) (slice_get portal.parameters index)
    else Err (wire.InvalidRustTypeForParameter (name_of ty))
