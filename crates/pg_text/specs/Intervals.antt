-- The cells of intervals and of durations.
use Rattle.std.specs.Prelude.{ℕ, ℤ, Bool, true, false, List, length, slice_range, nat_lt, if◌then◌else◌, Some, Result, Ok, Err}
use Rattle.std.specs.Int.{w32, w64, cast_signed, from_be_bytes}
use Rattle.std.specs.Str.{is_utf8}
use Rattle.pg_interval.specs.Duration.{duration_interval}
use Rattle.pg_interval.specs.Pairs.{fits_above}
use Rattle.pg_interval.specs.Printed.{printed}
use Rattle.pg_interval.specs.Reading.{reading, StandsForOnly}
use Rattle.pg_interval.specs.declared.pg_interval.Interval.{Interval}
use Rattle.interval_errors.specs.declared.ParseError.{ParseError}
use Rattle.pg_text.specs.Cells.{Cell}
use Rattle.pg_text.specs.Words.{or_invalid, interval_style_of, printed_style}
use Rattle.pg_types.specs.declared.error.CellError.{CellError}
use Rattle.pg_types.specs.declared.error.CellError.TheVariants.{ShortCell, NotUtf8, Parse, DurationOverflow}
use Rattle.pg_types.specs.declared.format.FormatOptions.{FormatOptions}
use Rattle.pg_text.specs.declared.format.interval_style.IntervalStyle.{IntervalStyle}
use Rattle.pg_types.specs.declared.pg_type.PgType.{PgType}
use Rattle.pg_types.specs.declared.pg_type.PgType.TheVariants as types

-- intervals are written only to columns of the type `interval`
abbrev pub is_interval_type : PgType → Bool
is_interval_type types.Interval = true
is_interval_type _ = false

-- the number that bytes in two's complement stand for, the high byte first
abbrev pub int64_of : List ℕ → ℤ
int64_of bytes = cast_signed w64 (from_be_bytes w64 bytes)

abbrev pub int32_of : List ℕ → ℤ
int32_of bytes = cast_signed w32 (from_be_bytes w32 bytes)

-- Int64 microseconds, Int32 days, Int32 months; later bytes are ignored
unfoldable pub interval_in : List ℕ → Interval
interval_in raw = record {
  months = int32_of (slice_range raw 12 16);
  days = int32_of (slice_range raw 8 12);
  microseconds = int64_of (slice_range raw 0 8);
}

abbrev pub read_interval : List ℕ → Result Interval CellError
read_interval raw = if nat_lt (length raw) 16 then Err ShortCell else Ok (interval_in raw)

-- the style that the options name, or the error with its text
abbrev pub style_under : FormatOptions → Result IntervalStyle CellError
style_under options = or_invalid options.interval_style (interval_style_of options.interval_style)

abbrev pub text_in : Interval → Result IntervalStyle CellError → Cell
text_in i (Ok style) = Ok (Some (printed (printed_style style) i))
text_in i (Err e) = Err e

-- the text of an interval in the style of the options
abbrev pub interval_text : Interval → FormatOptions → Cell
interval_text i options = text_in i (style_under options)

-- the text of the interval of a duration of some nanoseconds
abbrev pub duration_text : ℤ → FormatOptions → Cell
duration_text nanos options =
    if fits_above 63 (duration_interval nanos).microseconds then interval_text (duration_interval nanos) options
    else Err DurationOverflow

-- the text stands in the style of the options for this interval and for no other
abbrev pub StandsIn : Result IntervalStyle CellError → List ℕ → Interval → Type 0
StandsIn (Ok style) text i = StandsForOnly (printed_style style) text i
StandsIn (Err e) text i = ⊥

abbrev pub as_parse : Result Interval ParseError → Result Interval CellError
as_parse (Ok i) = Ok i
as_parse (Err e) = Err (Parse e)

-- the interval that the input stands for in a style
abbrev pub read_in : List ℕ → Result IntervalStyle CellError → Result Interval CellError
read_in input (Err e) = Err e
read_in input (Ok style) = if is_utf8 input then as_parse (reading (printed_style style) input) else Err NotUtf8

-- the interval that the input stands for in the style of the options
abbrev pub read_text : List ℕ → FormatOptions → Result Interval CellError
read_text input options = read_in input (style_under options)
