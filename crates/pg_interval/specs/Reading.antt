-- What a text stands for, in each of PostgreSQL's four interval styles (`intervalstyle`).
use Rattle.std.specs.Prelude.{◌≡◌, ℕ, nat_lt, if◌then◌else◌, List, length, Option, None, Some, Result, Ok, Err}
use Rattle.pg_interval.specs.Pairs.{Pair, interval_of_pairs}
use Rattle.pg_interval.specs.PostgresText.{postgres_pairs, verbose_pairs}
use Rattle.pg_interval.specs.IsoText.{iso_pairs}
use Rattle.pg_interval.specs.SqlText.{sql_pairs}
use Rattle.pg_interval.specs.declared.pg_interval.Interval.{Interval}
use Rattle.interval_errors.specs.declared.DecimalError.TheVariants as decimals
use Rattle.interval_errors.specs.declared.IntError.TheVariants as integers
use Rattle.interval_errors.specs.declared.Reason.TheVariants.{TooLong, Shape}
use Rattle.interval_errors.specs.declared.ParseError.{ParseError}
use Rattle.interval_errors.specs.declared.ParseError.TheVariants.{ParseIntErr, ParseFloatErr, InvalidInterval}

pub data Style : Type 0 where
  Postgres : Style
  PostgresVerbose : Style
  Iso8601 : Style
  SqlStandard : Style

-- the numbers of a text with their units, from left to right, or None where its shape is broken
abbrev pub pairs_of : Style → List ℕ → Option (List Pair)
pairs_of Postgres text = postgres_pairs text
pairs_of PostgresVerbose text = verbose_pairs text
pairs_of Iso8601 text = iso_pairs text
pairs_of SqlStandard text = sql_pairs text

-- the error of a number that is outside its field
abbrev pub out_of_range : Style → ParseError
out_of_range SqlStandard = ParseIntErr integers.OutOfRange
out_of_range _ = ParseFloatErr decimals.OutOfRange

abbrev pub of_shape : Style → Option (List Pair) → Result Interval ParseError
of_shape style None = Err (InvalidInterval Shape)
of_shape style (Some ps) = interval_of_pairs (out_of_range style) ps

-- The interval that a text stands for, or else its one error: too long, of a broken shape, the first number from the
-- left that fails, or a sum that leaves its type.
unfoldable pub reading : Style → List ℕ → Result Interval ParseError
reading style text = if nat_lt 4096 (length text) then Err (InvalidInterval TooLong) else of_shape style (pairs_of style text)

-- A text stands for at most one interval, and one that stands for none has one error, since `reading` is a function.
abbrev pub StandsFor : Style → List ℕ → Interval → Type 0
StandsFor style text i = reading style text ≡ Ok i

-- the text stands for this interval and for no other
abbrev pub StandsForOnly : Style → List ℕ → Interval → Type 0
StandsForOnly style text i = StandsFor style text i × ((other : Interval) → StandsFor style text other → other ≡ i)
