-- What the queries of styles mean, and what they are answered.
use Rattle.std.specs.Prelude.{ℕ, List, [], ◌∷◌, Option, Some, None, Result, Ok, Err, ◌≡◌, if◌then◌else◌, slice_get, codes, bytes_eq}
use Rattle.pg_interval.specs.declared.pg_interval.Interval.{Interval}
use Rattle.pg_messages.specs.declared.data.DataRow.{DataRow}
use Rattle.pg_types.specs.declared.pg_type.PgType.{PgType}
use Rattle.pg_types.specs.declared.pg_type.PgType.TheVariants as type
use Rattle.pg_results.specs.Formats.{format_for}
use Rattle.pg_results.specs.Responses.{ToldResponse}
use Rattle.pg_results.specs.Rows.{RowItem}
use Rattle.pg_portal.specs.Told.{BoundPortal}
use Rattle.pg_results.specs.declared.error.PgWireError.{PgWireError}
use Rattle.pg_results.specs.declared.format.Format.{Format}
use Rattle.pg_results.specs.declared.format.Format.TheVariants as format
use Rattle.query_texts.specs.QueryTexts.{trimmed}
use Rattle.interval_texts.specs.Reading.{interval_of}
use Rattle.row_handlers.specs.Answers.{AnswersTold}
use Rattle.row_handlers.specs.Told.{rows_under}
use Rattle.styles.specs.declared.answers.StylesStatement.{StylesStatement}
use Rattle.styles.specs.declared.answers.StylesStatement.TheVariants as statement
use Rattle.styles.specs.Reading.{interval_given}
use Rattle.styles.specs.Rows.{Shows, columns, row_of}

-- what is read, as the statement of its interval
abbrev pub stated : Result Interval PgWireError → Result StylesStatement PgWireError
stated (Ok i) = Ok (statement.Interval i)
stated (Err e) = Err e

-- `$1` where a query may have a parameter, or the text of an interval
abbrev pub meaning_of : List ℕ → Option (List (Option PgType)) → Result StylesStatement PgWireError
meaning_of text (Some types) = if bytes_eq text (codes "$1") then Ok statement.Parameter else stated (interval_of text)
meaning_of text None = stated (interval_of text)

-- `$1` is an interval, whatever type it was given
abbrev pub parameters_of : StylesStatement → List PgType
parameters_of statement.Parameter = type.Interval ∷ []
parameters_of (statement.Interval i) = []

-- the interval that a statement asks for with its parameters
abbrev pub interval_under : StylesStatement → List (Option (List ℕ)) → Format → Result Interval PgWireError
interval_under (statement.Interval i) parameters formats = Ok i
interval_under statement.Parameter parameters formats = interval_given (format_for formats 0) (slice_get parameters 0)

-- one row, or the error in its place
abbrev pub rows_of : Result Interval PgWireError → Result (List RowItem) PgWireError
rows_of (Ok i) = Ok (Ok (row_of i) ∷ [])
rows_of (Err e) = Err e

abbrev pub told_styles : AnswersTold StylesStatement
told_styles = record {
  parse = λ query types. meaning_of (trimmed query) types;
  parameter_types = parameters_of;
  columns = λ s formats. columns formats;
  rows = λ s parameters parameter_format formats. rows_of (interval_under s parameters parameter_format);
}

-- ---- what they come to

-- the interval that a portal asks for
abbrev pub interval_asked : BoundPortal StylesStatement → Result Interval PgWireError
interval_asked p = interval_under p.statement.statement p.parameters p.parameter_format

-- one row under its columns
abbrev pub one_row : Format → DataRow → ToldResponse
one_row formats row = rows_under (columns formats) (Ok row ∷ [])

-- The query is answered by one row, which shows this interval; and a simple one by nothing beside it.
abbrev pub IsAnsweredBy : Format → Result ToldResponse PgWireError → Interval → Type 0
IsAnsweredBy formats outcome i = (row : DataRow) × (outcome ≡ Ok (one_row formats row)) × Shows row i

abbrev pub AreAnsweredBy : Result (List ToldResponse) PgWireError → Interval → Type 0
AreAnsweredBy outcome i = (row : DataRow) × (outcome ≡ Ok (one_row format.UnifiedText row ∷ [])) × Shows row i
