-- What a server answers its queries with: what they mean, and the rows that they have.
use Rattle.std.specs.Prelude.{ℕ, ℤ, List, Option, None, Result, Ok, Err, unwrap_or}
use Rattle.pg_types.specs.declared.pg_type.PgType.{PgType}
use Rattle.pg_types.specs.declared.field_format.FieldFormat.{FieldFormat}
use Rattle.pg_types.specs.declared.field_format.FieldFormat.TheVariants as field
use Rattle.pg_results.specs.Fields.{Field, plain_field}
use Rattle.pg_results.specs.Formats.{format_for}
use Rattle.pg_results.specs.Rows.{RowItem}
use Rattle.pg_results.specs.declared.error.PgWireError.{PgWireError}
use Rattle.pg_results.specs.declared.format.Format.{Format}

-- The statement of a query, whose types are None in a simple one; the types of a statement's parameters; its columns in formats; and
-- its rows with parameters, in the formats of these, and in the formats of the columns.
pub record AnswersTold (S : Type 0) : Type 0 where
  pub parse : List ℕ → Option (List (Option PgType)) → Result S PgWireError
  pub parameter_types : S → List PgType
  pub columns : S → Format → List Field
  pub rows : S → List (Option (List ℕ)) → Format → Format → Result (List RowItem) PgWireError

-- the items of rows, or the error in their place
abbrev pub items_of : {R : Type 0} → (R → List RowItem) → Result R PgWireError → Result (List RowItem) PgWireError
items_of items (Ok rows) = Ok (items rows)
items_of items (Err error) = Err error

-- the format of the column or parameter at a place; text where there is none
abbrev pub format_at : Format → ℕ → FieldFormat
format_at formats index = unwrap_or (format_for formats index) field.Text

-- a column of no table: its name, the type of its values and their size, which is -1 where it varies
abbrev pub column_of : FieldFormat → List ℕ → PgType → ℤ → Field
column_of format name datatype size = record (plain_field name None None datatype format) { type_size = size }
