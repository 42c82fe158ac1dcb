-- The row of an interval: its text in each of PostgreSQL's four styles, under columns of their names.
use Rattle.std.specs.Prelude.{ℕ, pos, negsuc, List, [], ◌∷◌, Some, ◌≡◌, length}
use Rattle.std.specs.List.{flat_map}
use Rattle.pg_interval.specs.Printed.{printed}
use Rattle.pg_interval.specs.Reading.{Postgres, PostgresVerbose, Iso8601, SqlStandard, StandsForOnly}
use Rattle.pg_interval.specs.declared.pg_interval.Interval.{Interval}
use Rattle.pg_messages.specs.declared.data.DataRow.{DataRow}
use Rattle.pg_text.specs.Words.{interval_style_name}
use Rattle.pg_types.specs.declared.field_format.FieldFormat.{FieldFormat}
use Rattle.pg_text.specs.declared.format.interval_style.IntervalStyle.{IntervalStyle}
use Rattle.pg_text.specs.declared.format.interval_style.IntervalStyle.TheVariants as style
use Rattle.pg_types.specs.declared.pg_type.PgType.TheVariants as type
use Rattle.pg_portal.specs.Encoding.{cell_bytes}
use Rattle.pg_results.specs.Fields.{Field}
use Rattle.pg_results.specs.declared.format.Format.{Format}
use Rattle.row_handlers.specs.Answers.{column_of, format_at}

-- the column of a style, of type text, whose bytes are the same in both formats
abbrev pub column : FieldFormat → IntervalStyle → Field
column f s = column_of f (interval_style_name s) type.Text (negsuc 0)

abbrev pub columns : Format → List Field
columns formats = column (format_at formats 0) style.Postgres ∷ column (format_at formats 1) style.PostgresVerbose
    ∷ column (format_at formats 2) style.ISO8601 ∷ column (format_at formats 3) style.SQLStandard ∷ []

-- a row of these texts
abbrev pub text_row : List (List ℕ) → DataRow
text_row texts = record { payload = flat_map (λ text. cell_bytes (Some text)) texts; field_count = pos (length texts) }

-- the text of an interval in each style, in the order of the columns
abbrev pub texts_of : Interval → List (List ℕ)
texts_of i = printed Postgres i ∷ printed PostgresVerbose i ∷ printed Iso8601 i ∷ printed SqlStandard i ∷ []

abbrev pub row_of : Interval → DataRow
row_of i = text_row (texts_of i)

-- The row shows this interval: each of its four texts stands, in the style of its column, for it and for no other.
pub record Shows (row : DataRow) (i : Interval) : Type 0 where
  pub postgres : List ℕ
  pub verbose : List ℕ
  pub iso : List ℕ
  pub sql : List ℕ
  pub cells : row ≡ text_row (postgres ∷ verbose ∷ iso ∷ sql ∷ [])
  pub postgres_stands : StandsForOnly Postgres postgres i
  pub verbose_stands : StandsForOnly PostgresVerbose verbose i
  pub iso_stands : StandsForOnly Iso8601 iso i
  pub sql_stands : StandsForOnly SqlStandard sql i
