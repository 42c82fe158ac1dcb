-- Numbers with their units, which an interval's text is made of, and the interval that they add up to.
use Rattle.std.specs.Prelude.{ℕ, ◌^◌, Bool, not, nat_lt, if◌then◌else◌, List, [], ◌∷◌, ℤ, pos, negsuc, ◌+ℤ◌, Result, Ok, Err}
use Rattle.pg_interval.specs.Decimals.{Decimal, TimeUnit, Year, Month, Day, Hour, Minute, Second, decimal_of, whole_part, worth, negated}
use Rattle.pg_interval.specs.declared.pg_interval.Interval.{Interval}
use Rattle.interval_errors.specs.declared.DecimalError.{DecimalError}
use Rattle.interval_errors.specs.declared.Reason.TheVariants.{Overflow}
use Rattle.interval_errors.specs.declared.ParseError.{ParseError}
use Rattle.interval_errors.specs.declared.ParseError.TheVariants.{ParseFloatErr, InvalidYearMonth, InvalidTime, InvalidInterval}

-- a number as the text gives it, or why it is none, with its unit
pub record Pair : Type 0 where
  pub number : Result Decimal ParseError
  pub unit : TimeUnit

abbrev pub pair : TimeUnit → Decimal → Pair
pair u d = record { number = Ok d; unit = u }

abbrev pub checked : Result Decimal DecimalError → Result Decimal ParseError
checked (Ok d) = Ok d
checked (Err e) = Err (ParseFloatErr e)

-- a number that may have a point
abbrev pub decimal_pair : TimeUnit → List ℕ → Pair
decimal_pair u text = record { number = checked (decimal_of text); unit = u }

abbrev pub turned_number : Result Decimal ParseError → Result Decimal ParseError
turned_number (Ok d) = Ok (negated d)
turned_number (Err e) = Err e

-- the pair with the number's other sign
abbrev pub turned : Pair → Pair
turned p = record p { number = turned_number p.number }

-- whether -2 ^ k ≤ z < 2 ^ k
abbrev pub fits_above : ℕ → ℤ → Bool
fits_above k (pos n) = nat_lt n (2 ^ k)
fits_above k (negsuc n) = nat_lt n (2 ^ k)

-- an i32 holds the years, months and days of a text, an i64 the hours, minutes and seconds
abbrev pub fits_field : TimeUnit → ℤ → Bool
fits_field Year z = fits_above 31 z
fits_field Month z = fits_above 31 z
fits_field Day z = fits_above 31 z
fits_field Hour z = fits_above 63 z
fits_field Minute z = fits_above 63 z
fits_field Second z = fits_above 63 z

abbrev pub nothing : Interval
nothing = record { months = pos 0; days = pos 0; microseconds = pos 0 }

abbrev pub sum_of : Interval → Interval → Interval
sum_of i j = record { months = i.months +ℤ j.months; days = i.days +ℤ j.days; microseconds = i.microseconds +ℤ j.microseconds }

-- an amount and the sum of the other pairs
abbrev pub plus : Interval → Result Interval ParseError → Result Interval ParseError
plus i (Ok j) = Ok (sum_of i j)
plus i (Err e) = Err e

abbrev pub added : ParseError → Result Decimal ParseError → TimeUnit → Result Interval ParseError → Result Interval ParseError
added range (Err e) u rest = Err e
added range (Ok d) u rest = if fits_field u (whole_part d) then plus (worth u d) rest else Err range

-- What the pairs are worth in all, or the error of the first number from the left that fails. A number whose whole
-- part, with its sign, is outside the field of its unit fails as `range` says.
abbrev pub total_of : ParseError → List Pair → Result Interval ParseError
total_of range [] = Ok nothing
total_of range (p ∷ ps) = added range p.number p.unit (total_of range ps)

-- the interval of these three sums, or the first of them that leaves its type
abbrev pub interval_of_sums : Interval → Result Interval ParseError
interval_of_sums i = if not (fits_above 31 i.months) then Err (InvalidYearMonth Overflow)
    else (if not (fits_above 31 i.days) then Err (InvalidInterval Overflow)
    else (if not (fits_above 63 i.microseconds) then Err (InvalidTime Overflow) else Ok i))

abbrev pub judged : Result Interval ParseError → Result Interval ParseError
judged (Ok i) = interval_of_sums i
judged (Err e) = Err e

-- the interval that the pairs add up to, or the error
abbrev pub interval_of_pairs : ParseError → List Pair → Result Interval ParseError
interval_of_pairs range ps = judged (total_of range ps)
