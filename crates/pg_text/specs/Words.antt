-- The values of the options that are words: PostgreSQL's documentation, "Locale and Formatting".
use Rattle.std.specs.Prelude.{ℕ, List, [], ◌∷◌, Option, None, Some, Result, Ok, Err, bytes_eq, codes}
use Rattle.std.specs.List.{find}
use Rattle.std.specs.Str.{str_to_ascii_lowercase}
use Rattle.pg_interval.specs.PostgresText.{trimmed}
use Rattle.pg_interval.specs.Reading.{Style}
use Rattle.pg_interval.specs.Reading as styles
use Rattle.pg_types.specs.declared.error.CellError.{CellError}
use Rattle.pg_types.specs.declared.error.CellError.TheVariants.{InvalidOptionValue}
use Rattle.pg_text.specs.declared.format.interval_style.IntervalStyle.{IntervalStyle}
use Rattle.pg_text.specs.declared.format.interval_style.IntervalStyle.TheVariants as style
use Rattle.pg_text.specs.declared.format.bytea_output.ByteaOutput.{ByteaOutput}
use Rattle.pg_text.specs.declared.format.bytea_output.ByteaOutput.TheVariants as bytea
use Rattle.pg_text.specs.declared.format.date_style.DateStyleOrder.{DateStyleOrder}
use Rattle.pg_text.specs.declared.format.date_style.DateStyleOrder.TheVariants as order
use Rattle.pg_text.specs.declared.format.date_style.DateStyleDisplayStyle.{DateStyleDisplayStyle}
use Rattle.pg_text.specs.declared.format.date_style.DateStyleDisplayStyle.TheVariants as display

-- the text without the whitespace at both ends, in lower case
abbrev pub word_of : List ℕ → List ℕ
word_of text = str_to_ascii_lowercase (trimmed text)

-- the value whose name the text is, or None where it is the name of none
abbrev pub value_named : {T : Type 0} → (T → List ℕ) → List T → List ℕ → Option T
value_named name values text = find (λ value. bytes_eq (name value) (word_of text)) values

-- the value, or the error that holds the text as it was given
abbrev pub or_invalid : {T : Type 0} → List ℕ → Option T → Result T CellError
or_invalid text None = Err (InvalidOptionValue text)
or_invalid text (Some value) = Ok value

abbrev pub interval_style_name : IntervalStyle → List ℕ
interval_style_name style.Postgres = codes "postgres"
interval_style_name style.ISO8601 = codes "iso_8601"
interval_style_name style.SQLStandard = codes "sql_standard"
interval_style_name style.PostgresVerbose = codes "postgres_verbose"

abbrev pub interval_style_of : List ℕ → Option IntervalStyle
interval_style_of text =
    value_named interval_style_name (style.Postgres ∷ style.ISO8601 ∷ style.SQLStandard ∷ style.PostgresVerbose ∷ []) text

-- the style in which an interval is printed and read
abbrev pub printed_style : IntervalStyle → Style
printed_style style.Postgres = styles.Postgres
printed_style style.ISO8601 = styles.Iso8601
printed_style style.SQLStandard = styles.SqlStandard
printed_style style.PostgresVerbose = styles.PostgresVerbose

abbrev pub bytea_output_name : ByteaOutput → List ℕ
bytea_output_name bytea.Hex = codes "hex"
bytea_output_name bytea.Escape = codes "escape"

abbrev pub bytea_output_of : List ℕ → Option ByteaOutput
bytea_output_of text = value_named bytea_output_name (bytea.Hex ∷ bytea.Escape ∷ []) text

abbrev pub date_order_name : DateStyleOrder → List ℕ
date_order_name order.DMY = codes "dmy"
date_order_name order.MDY = codes "mdy"
date_order_name order.YMD = codes "ymd"

abbrev pub date_order_of : List ℕ → Option DateStyleOrder
date_order_of text = value_named date_order_name (order.DMY ∷ order.MDY ∷ order.YMD ∷ []) text

abbrev pub date_display_name : DateStyleDisplayStyle → List ℕ
date_display_name display.ISO = codes "iso"
date_display_name display.SQL = codes "sql"
date_display_name display.German = codes "german"
date_display_name display.Postgres = codes "postgres"

abbrev pub date_display_of : List ℕ → Option DateStyleDisplayStyle
date_display_of text = value_named date_display_name (display.ISO ∷ display.SQL ∷ display.German ∷ display.Postgres ∷ []) text
