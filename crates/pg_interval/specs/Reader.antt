-- The state of the readers of interval texts on their way through a text.
use Rattle.std.specs.List.{list_all}
use Rattle.std.specs.Prelude.{ℕ, ◌+◌, ◌*◌, ◌/◌, ◌^◌, min, Bool, true, false, not, ◌&&◌, ◌||◌, ◌==◌, if◌then◌else◌, List, [], ◌∷◌, pos, ◌-ℤ◌, Option, None, Some, Result, Ok, Err}
use Rattle.pg_interval.specs.Texts.{is_whitespace, is_digit, is_letter, is_point, is_colon, is_minus}
use Rattle.pg_interval.specs.Decimals.{Decimal, TimeUnit, negated, worth}
use Rattle.pg_interval.specs.Decimals as decimals
use Rattle.pg_interval.specs.Pairs.{total_of, plus}
use Rattle.pg_interval.specs.PostgresText.{is_number_byte}
use Rattle.pg_interval.specs.IsoText.{is_designator}
use Rattle.pg_interval.specs.declared.pg_interval.Interval.{Interval}
use Rattle.pg_interval.specs.declared.interval_parse.texts.Kind.{Kind}
use Rattle.pg_interval.specs.declared.interval_parse.texts.Kind.TheVariants.{Digit, Letter, Space, Solid, NumberByte, DecimalByte, Unmarked, NoMinus, NoColon, NoPoint}
use Rattle.pg_interval.specs.declared.interval_parse.parts.Number.{Number}
use Rattle.pg_interval.specs.declared.interval_parse.parts.Amount.{Amount}
use Rattle.pg_interval.specs.declared.interval_parse.parts.Totals.{Totals}
use Rattle.pg_interval.specs.declared.interval_parse.parts.Unit.{Unit}
use Rattle.pg_interval.specs.declared.interval_parse.parts.Unit.TheVariants as units
use Rattle.interval_errors.specs.declared.ParseError.{ParseError}

-- the bytes of a kind
abbrev pub is_kind : Kind → ℕ → Bool
is_kind Digit c = is_digit c
is_kind Letter c = is_letter c
is_kind Space c = is_whitespace c
is_kind Solid c = not (is_whitespace c)
is_kind NumberByte c = is_number_byte c
is_kind DecimalByte c = is_digit c || is_point c
is_kind Unmarked c = not (is_designator c || c == 84)
is_kind NoMinus c = not (is_minus c)
is_kind NoColon c = not (is_colon c)
is_kind NoPoint c = not (is_point c)

-- a number, or the greatest u64 where the number is larger
abbrev pub capped : ℕ → ℕ
capped n = min n 18446744073709551615

-- the same decimal, its whole part capped; no field holds a capped number
abbrev pub capped_decimal : Decimal → Decimal
capped_decimal d = record d { whole = capped d.whole }

abbrev pub decimal_from : Number → Decimal
decimal_from n = record { negative = n.negative; whole = n.whole; fraction = n.fraction; places = n.places }

-- the decimal as it is, or with its other sign
abbrev pub turned_if : Bool → Decimal → Decimal
turned_if turn d = if turn then negated d else d

-- the result of a reader of one decimal
abbrev pub number_read : {E : Type 0} → Result Number E → Result Decimal E
number_read (Ok n) = Ok (decimal_from n)
number_read (Err e) = Err e

abbrev pub number_held : {E : Type 0} → Bool → Result Decimal E → Result Decimal E
number_held turn (Ok d) = Ok (capped_decimal (turned_if turn d))
number_held turn (Err e) = Err e

-- the digits after the point, or no digits where nothing is left; None where anything else is left
abbrev pub fraction_after : List ℕ → Option (List ℕ)
fraction_after [] = Some []
fraction_after (c ∷ cs) = if is_point c && list_all is_digit cs then Some cs else None

-- k times the part after the point, rounded, without the sign
abbrev pub rounded_size : ℕ → Decimal → ℕ
rounded_size k d = (2 * k * d.fraction + 10 ^ d.places) / (2 * 10 ^ d.places)

-- what a number of a unit is worth, without the sign
abbrev pub size_of : TimeUnit → Decimal → Amount
size_of decimals.Year d = record { months = 12 * d.whole + rounded_size 12 d; days = 0; microseconds = 0 }
size_of decimals.Month d = record { months = d.whole; days = rounded_size 30 d; microseconds = 0 }
size_of decimals.Day d = record { months = 0; days = d.whole; microseconds = 3600000000 * rounded_size 24 d }
size_of decimals.Hour d = record { months = 0; days = 0; microseconds = 3600000000 * d.whole + 60000000 * rounded_size 60 d }
size_of decimals.Minute d = record { months = 0; days = 0; microseconds = 60000000 * d.whole + 1000000 * rounded_size 60 d }
size_of decimals.Second d = record { months = 0; days = 0; microseconds = 1000000 * d.whole + rounded_size 1000000 d }

-- the sum of both if it is wanted, else the first alone
abbrev pub with_if : Bool → Amount → Amount → Amount
with_if true a b = record { months = a.months + b.months; days = a.days + b.days; microseconds = a.microseconds + b.microseconds }
with_if false a b = a

-- the sum of what was added, less what was taken off, or the first error
abbrev pub sum_left : Amount → Amount → Interval
sum_left p m = record {
  months = pos p.months -ℤ pos m.months;
  days = pos p.days -ℤ pos m.days;
  microseconds = pos p.microseconds -ℤ pos m.microseconds;
}

abbrev pub so_far_of : Option ParseError → Interval → Result Interval ParseError
so_far_of None i = Ok i
so_far_of (Some e) i = Err e

abbrev pub so_far : Totals → Result Interval ParseError
so_far t = so_far_of t.refusal (sum_left t.plus t.minus)

-- more pairs, after what came before them
abbrev pub joined : Result Interval ParseError → Result Interval ParseError → Result Interval ParseError
joined (Err e) r = Err e
joined (Ok i) r = plus i r

-- one number more
abbrev pub tallied : ParseError → TimeUnit → Result Decimal ParseError → Result Interval ParseError → Result Interval ParseError
tallied range u n r = joined r (total_of range (record { number = n; unit = u } ∷ []))

abbrev pub time_unit : Unit → TimeUnit
time_unit units.Year = decimals.Year
time_unit units.Month = decimals.Month
time_unit units.Day = decimals.Day
time_unit units.Hour = decimals.Hour
time_unit units.Minute = decimals.Minute
time_unit units.Second = decimals.Second
