-- What the texts and bytes of clients stand for, or why they stand for no interval.
use Rattle.std.specs.Prelude.{ℕ, List, ◌++◌, ◌==◌, Option, Some, None, Result, Ok, Err, if◌then◌else◌, codes}
use Rattle.std.specs.List.{list_any}
use Rattle.interval_errors.specs.ErrorText.{error_text}
use Rattle.pg_interval.specs.Texts.{begins, is_letter}
use Rattle.pg_interval.specs.declared.pg_interval.Interval.{Interval}
use Rattle.pg_text.specs.Intervals.{read_in, read_interval}
use Rattle.pg_text.specs.Words.{interval_style_name}
use Rattle.pg_types.specs.declared.error.CellError.{CellError}
use Rattle.pg_types.specs.declared.error.CellError.TheVariants as cell
use Rattle.pg_types.specs.declared.field_format.FieldFormat.{FieldFormat}
use Rattle.pg_types.specs.declared.field_format.FieldFormat.TheVariants as field
use Rattle.pg_text.specs.declared.format.interval_style.IntervalStyle.{IntervalStyle}
use Rattle.pg_text.specs.declared.format.interval_style.IntervalStyle.TheVariants as style
use Rattle.pg_results.specs.Errors.{error}
use Rattle.pg_results.specs.declared.error.PgWireError.{PgWireError}
use Rattle.pg_results.specs.declared.error.PgWireError.TheVariants as wire

-- The style that a text is read in: postgres_verbose where the text begins with `@`, iso_8601 where it begins with `P`, else postgres where
-- it has a letter, and else sql_standard.
abbrev pub style_of : List ℕ → IntervalStyle
style_of text =
    if begins (λ byte. byte == 64) text then style.PostgresVerbose
    else if begins (λ byte. byte == 80) text then style.ISO8601
    else if list_any is_letter text then style.Postgres
    else style.SQLStandard

-- why a reader refused
abbrev pub reason : CellError → List ℕ
reason (cell.Parse cause) = error_text cause
reason cell.ShortCell = codes "fewer than sixteen bytes"
reason _ = codes "not UTF-8"

-- the error that tells which reader refused, and why
abbrev pub refused : List ℕ → CellError → PgWireError
refused reader cause = wire.UserError (error (codes "22007") (codes "no interval in " ++ (reader ++ (codes ": " ++ reason cause))))

-- what a reader read, or its refusal
abbrev pub or_refused : List ℕ → Result Interval CellError → Result Interval PgWireError
or_refused reader (Ok i) = Ok i
or_refused reader (Err cause) = Err (refused reader cause)

-- the interval that a text stands for, in the style that it is read in
abbrev pub interval_of : List ℕ → Result Interval PgWireError
interval_of text = or_refused (interval_style_name (style_of text)) (read_in text (Ok (style_of text)))

-- the interval of a parameter's bytes: sixteen of them in binary, and else a text
abbrev pub interval_in : Option FieldFormat → List ℕ → Result Interval PgWireError
interval_in (Some field.Binary) bytes = or_refused (codes "binary") (read_interval bytes)
interval_in (Some field.Text) bytes = interval_of bytes
interval_in None bytes = interval_of bytes
