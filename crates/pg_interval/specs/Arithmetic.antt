-- Sums and differences of intervals, over whole numbers of any size, and which steps have to fit their types.
use Rattle.std.specs.Prelude.{ℤ, pos, ◌+ℤ◌, ◌-ℤ◌, ◌*ℤ◌, FitsSigned}
use Rattle.std.specs.Int.{w32, w64, int_div_euclid}
use Rattle.pg_interval.specs.declared.pg_interval.Interval.{Interval}
use Rattle.pg_interval.specs.Cell.{IsInterval}

-- number by number
abbrev pub interval_sum : Interval → Interval → Interval
interval_sum a b = record {
  months = a.months +ℤ b.months;
  days = a.days +ℤ b.days;
  microseconds = a.microseconds +ℤ b.microseconds;
}

abbrev pub interval_difference : Interval → Interval → Interval
interval_difference a b = record {
  months = a.months -ℤ b.months;
  days = a.days -ℤ b.days;
  microseconds = a.microseconds -ℤ b.microseconds;
}

-- the microseconds of these hours and minutes
abbrev pub hours_and_minutes : ℤ → ℤ → ℤ
hours_and_minutes hours minutes = (hours *ℤ pos 3600000000) +ℤ (minutes *ℤ pos 60000000)

-- these and the nanoseconds, whose part of a microsecond is rounded down
abbrev pub time_amount : ℤ → ℤ → ℤ → ℤ
time_amount hours minutes nanoseconds = hours_and_minutes hours minutes +ℤ int_div_euclid nanoseconds (pos 1000)

-- the microseconds of the hours, those of the minutes, their sum, and that with the nanoseconds each lie in i64
pub record TimeFits (hours minutes nanoseconds : ℤ) : Type 0 where
  pub hours_fit : FitsSigned w64 (hours *ℤ pos 3600000000)
  pub minutes_fit : FitsSigned w64 (minutes *ℤ pos 60000000)
  pub sum_fits : FitsSigned w64 (hours_and_minutes hours minutes)
  pub all_fits : FitsSigned w64 (time_amount hours minutes nanoseconds)

-- the interval of these days and this time
abbrev pub day_time : ℤ → ℤ → ℤ → ℤ → Interval
day_time days hours minutes nanoseconds = record { months = pos 0; days = days; microseconds = time_amount hours minutes nanoseconds }

-- the interval of these months
abbrev pub months_alone : ℤ → Interval
months_alone months = record { months = months; days = pos 0; microseconds = pos 0 }

-- the months of these years
abbrev pub months_of : ℤ → ℤ
months_of years = years *ℤ pos 12

-- the interval with the years, and then with the months too
abbrev pub with_years : Interval → ℤ → Interval
with_years i year = interval_sum i (months_alone (months_of year))

abbrev pub with_years_and_months : Interval → ℤ → ℤ → Interval
with_years_and_months i year months = interval_sum (with_years i year) (months_alone months)

-- the interval less the years, and then less the months too
abbrev pub without_years : Interval → ℤ → Interval
without_years i year = interval_difference i (months_alone (months_of year))

abbrev pub without_years_and_months : Interval → ℤ → ℤ → Interval
without_years_and_months i year months = interval_difference (without_years i year) (months_alone months)

-- the interval with the sum of the years' months and the months
abbrev pub with_joined_months : Interval → ℤ → ℤ → Interval
with_joined_months i year months = interval_sum i (months_alone (months_of year +ℤ months))

-- each step of a sum, or of a difference, of years first and months then lies in its type
pub record AddsInTurn (i : Interval) (year months : ℤ) : Type 0 where
  pub years_fit : FitsSigned w32 (months_of year)
  pub first_fits : IsInterval (with_years i year)
  pub second_fits : IsInterval (with_years_and_months i year months)

pub record SubtractsInTurn (i : Interval) (year months : ℤ) : Type 0 where
  pub years_fit : FitsSigned w32 (months_of year)
  pub first_fits : IsInterval (without_years i year)
  pub second_fits : IsInterval (without_years_and_months i year months)

-- each step of a sum with years and months joined first lies in its type
pub record AddsJoined (i : Interval) (year months : ℤ) : Type 0 where
  pub years_fit : FitsSigned w32 (months_of year)
  pub joined_fits : FitsSigned w32 (months_of year +ℤ months)
  pub sum_fits : IsInterval (with_joined_months i year months)
