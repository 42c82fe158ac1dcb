-- The cells of intervals that an encoder writes, as the values that a relation's rows have.
use Rattle.std.proofs.Common.{◌≡◌, ℕ, List, Option, Some, None, Result, Ok, Err, ◌++◌, refl, ap, sym}
use Rattle.pg_interval.specs.declared.pg_interval.Interval.{Interval}
use Rattle.pg_interval.specs.Cell.{interval_cell}
use Rattle.pg_types.specs.declared.error.CellError.TheVariants as cell
use Rattle.pg_types.specs.declared.field_format.FieldFormat.{FieldFormat}
use Rattle.pg_types.specs.declared.field_format.FieldFormat.TheVariants as field
use Rattle.pg_types.specs.declared.format.FormatOptions.{FormatOptions}
use Rattle.pg_text.specs.declared.format.interval_style.IntervalStyle.{IntervalStyle}
use Rattle.pg_text.specs.Cells.{Cell}
use Rattle.pg_text.specs.Intervals.{interval_text, text_in}
use Rattle.pg_text.specs.Words.{interval_style_of, or_invalid}
use Rattle.pg_results.specs.declared.client.ClientInfo.{ClientInfo}
use Rattle.pg_results.specs.declared.error.PgWireError.{PgWireError}
use Rattle.pg_results.specs.declared.error.PgWireError.TheVariants as wire
use Rattle.pg_messages.specs.Fields.{count32}
use Rattle.pg_types.specs.declared.pg_type.PgType.TheVariants as type
use Rattle.pg_portal.specs.Encoding.{cell_bytes, field_cell}
use Rattle.pg_interval.proofs.CellLemmas.{length-interval_cell}
use Rattle.relation_tables.specs.RelationHandler.{style_text, session_style, or_refused, text_of, as_value, value}

-- a cell has these bytes, or is refused for the text of its option
abbrev pub IsCellOf : List ℕ → Result (List ℕ) PgWireError → Cell → Type 0
IsCellOf text (Ok bytes) told = told ≡ Ok (Some bytes)
IsCellOf text (Err e) told = (told ≡ Err (cell.InvalidOptionValue text)) × (e ≡ wire.InvalidOptionValue text)

told_by : (text : List ℕ) (i : Interval) (style : Option IntervalStyle)
    → IsCellOf text (text_of (or_refused text style) i) (text_in i (or_invalid text style))
told_by text i None = (refl, refl)
told_by text i (Some style) = refl

-- The text of an interval in the session's style is its cell under options with that style.
pub text_told : (client : ClientInfo) (options : FormatOptions) (i : Interval) → options.interval_style ≡ style_text client
    → IsCellOf (style_text client) (text_of (session_style client) i) (interval_text i options)
text_told client options i e = rw e (told_by (style_text client) i (interval_style_of (style_text client)))

-- an interval's value is its cell behind the length
abbrev pub IsValueOf : List ℕ → Result (List ℕ) PgWireError → Cell → Type 0
IsValueOf text (Ok bytes) told = (cell : Option (List ℕ)) × (told ≡ Ok cell) × (bytes ≡ cell_bytes cell)
IsValueOf text (Err e) told = (told ≡ Err (cell.InvalidOptionValue text)) × (e ≡ wire.InvalidOptionValue text)

as_cell : (text : List ℕ) (told : Cell) (x : Result (List ℕ) PgWireError) → IsCellOf text x told → IsValueOf text (as_value x) told
as_cell text told (Ok bytes) h = (Some bytes, h, refl)
as_cell text told (Err e) h = h

-- the cell of an interval in a format, as an encoder tells it
abbrev pub interval_field : Interval → FieldFormat → FormatOptions → Cell
interval_field i format options =
    field_cell (λ x ty. Ok (Some (interval_cell x))) (λ x ty o. interval_text x o) i type.Interval format options

-- The value of an interval is its cell behind the length, under options with the session's style.
pub value_told : (client : ClientInfo) (options : FormatOptions) (format : FieldFormat) (i : Interval)
    → options.interval_style ≡ style_text client
    → IsValueOf (style_text client) (value (session_style client) format i) (interval_field i format options)
value_told client options field.Text i e =
    as_cell (style_text client) (interval_text i options) (text_of (session_style client) i) (text_told client options i e)
value_told client options field.Binary i e =
    (Some (interval_cell i), refl, ap (λ n. count32 n ++ interval_cell i) (sym (length-interval_cell i)))
