-- A decimal, its unit, and what the two are worth: the appendix of PostgreSQL's documentation on date/time input, and
-- its section on interval input ("fractional parts of units").
use Rattle.std.specs.Prelude.{ℕ, ◌+◌, ◌*◌, ◌/◌, ◌^◌, Bool, true, false, not, ◌&&◌, ◌==◌, nat_lt, if◌then◌else◌, List, [], ◌∷◌, ◌++◌, length, ℤ, pos, ◌+ℤ◌, ◌*ℤ◌, neg_ℤ, Result, Ok, Err}
use Rattle.std.specs.List.{slice_split}
use Rattle.std.specs.Str.Parse.{digits_value}
use Rattle.pg_interval.specs.Texts.{is_point, is_minus, are_digits, without_sign}
use Rattle.pg_interval.specs.declared.pg_interval.Interval.{Interval}
use Rattle.interval_errors.specs.declared.DecimalError.{DecimalError}
use Rattle.interval_errors.specs.declared.DecimalError.TheVariants.{Empty, Malformed, TooManyDigits}

-- the number whole + fraction / 10 ^ places, negated if it is negative
pub record Decimal : Type 0 where
  pub negative : Bool
  pub whole : ℕ
  pub fraction : ℕ
  pub places : ℕ

-- the number that digits before and after the point make
abbrev pub number_of : Bool → List ℕ → List ℕ → Decimal
number_of minus whole fraction = record {
  negative = minus;
  whole = digits_value 10 whole;
  fraction = digits_value 10 fraction;
  places = length fraction;
}

-- digits before and after the point, at least one in all, and at most 18 after it
abbrev pub decimal_between : Bool → List ℕ → List ℕ → Result Decimal DecimalError
decimal_between minus whole fraction = if not (are_digits (whole ++ fraction)) then Err Malformed
    else (if nat_lt 18 (length fraction) then Err TooManyDigits else Ok (number_of minus whole fraction))

-- what stands between the points of a decimal: there is one at most
abbrev pub decimal_of_parts : Bool → List (List ℕ) → Result Decimal DecimalError
decimal_of_parts minus (whole ∷ []) = decimal_between minus whole []
decimal_of_parts minus (whole ∷ fraction ∷ []) = decimal_between minus whole fraction
decimal_of_parts minus _ = Err Malformed

-- an optional sign, digits, and at most one point
abbrev pub decimal_of : List ℕ → Result Decimal DecimalError
decimal_of [] = Err Empty
decimal_of (c ∷ cs) = decimal_of_parts (is_minus c) (slice_split is_point (without_sign (c ∷ cs)))

-- the same number with the other sign
abbrev pub negated : Decimal → Decimal
negated d = record d { negative = not d.negative }

abbrev pub is_zero_decimal : Decimal → Bool
is_zero_decimal d = d.whole == 0 && d.fraction == 0

pub data TimeUnit : Type 0 where
  Year : TimeUnit
  Month : TimeUnit
  Day : TimeUnit
  Hour : TimeUnit
  Minute : TimeUnit
  Second : TimeUnit

-- n, or -n
abbrev pub with_sign : Bool → ℕ → ℤ
with_sign true n = neg_ℤ (pos n)
with_sign false n = pos n

-- the whole part, with the sign
abbrev pub whole_part : Decimal → ℤ
whole_part d = with_sign d.negative d.whole

-- k times the part after the point, with the sign, rounded to the nearest whole number, and half away from zero
abbrev pub rounded : ℕ → Decimal → ℤ
rounded k d = with_sign d.negative ((2 * k * d.fraction + 10 ^ d.places) / (2 * 10 ^ d.places))

-- What a number of a unit is worth, as months, days and microseconds. What is left of a unit goes to the next smaller
-- one of the three: of a year to months, of a month to days (30 each), of a day to hours.
abbrev pub worth : TimeUnit → Decimal → Interval
worth Year d = record { months = pos 12 *ℤ whole_part d +ℤ rounded 12 d; days = pos 0; microseconds = pos 0 }
worth Month d = record { months = whole_part d; days = rounded 30 d; microseconds = pos 0 }
worth Day d = record { months = pos 0; days = whole_part d; microseconds = pos 3600000000 *ℤ rounded 24 d }
worth Hour d = record { months = pos 0; days = pos 0; microseconds = pos 3600000000 *ℤ whole_part d +ℤ pos 60000000 *ℤ rounded 60 d }
worth Minute d = record { months = pos 0; days = pos 0; microseconds = pos 60000000 *ℤ whole_part d +ℤ pos 1000000 *ℤ rounded 60 d }
worth Second d = record { months = pos 0; days = pos 0; microseconds = pos 1000000 *ℤ whole_part d +ℤ rounded 1000000 d }
