-- Columns and styles, as contracts see them.
use Rattle.std.specs.Prelude.{ℕ, List, Result, Ok, Err}
use Rattle.pg_types.specs.declared.field_format.FieldFormat.{FieldFormat}
use Rattle.pg_text.specs.declared.format.interval_style.IntervalStyle.{IntervalStyle}
use Rattle.pg_results.specs.declared.error.PgWireError.{PgWireError}
use Rattle.pg_results.specs.declared.error.PgWireError.TheVariants as wire
use Rattle.pg_results.specs.Fields.{Field}

-- columns, and the format of each
pub record ToldColumns : Type 0 where
  pub fields : List Field
  pub formats : List FieldFormat

-- the style, or the error with the text that names none
abbrev pub told_style : Result IntervalStyle (List ℕ) → Result IntervalStyle PgWireError
told_style (Ok style) = Ok style
told_style (Err text) = Err (wire.InvalidOptionValue text)
