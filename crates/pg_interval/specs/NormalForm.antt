-- An interval's years, months, days, hours, minutes, seconds and microseconds.
use Rattle.std.specs.Prelude.{◌≡◌, ℤ, pos, ◌+ℤ◌, ◌*ℤ◌, ◌≤ℤ◌, FitsSigned, List, [], ◌∷◌, All, int_div, int_rem, ◌⊎◌}
use Rattle.std.specs.Int.{w32, w64}
use Rattle.pg_interval.specs.declared.pg_interval.Interval.{Interval}
use Rattle.pg_interval.specs.declared.interval_norm.IntervalNorm.{IntervalNorm}
use Rattle.pg_interval.specs.Cell.{IsInterval}

-- The normal form. A quotient is truncated toward zero, and a remainder has the sign of what was divided.
unfoldable pub normal_form : Interval → IntervalNorm
normal_form i = record {
  years = int_div i.months (pos 12);
  months = int_rem i.months (pos 12);
  days = i.days;
  hours = int_div i.microseconds (pos 3600000000);
  minutes = int_rem (int_div i.microseconds (pos 60000000)) (pos 60);
  seconds = int_rem (int_div i.microseconds (pos 1000000)) (pos 60);
  microseconds = int_rem i.microseconds (pos 1000000);
}

-- the fields of some interval's normal form
abbrev pub IsNormal : IntervalNorm → Type 0
IsNormal n = (i : Interval) × IsInterval i × (normal_form i ≡ n)

-- the seconds in the hours, minutes and seconds
abbrev pub total_seconds : IntervalNorm → ℤ
total_seconds n = (((n.hours *ℤ pos 60) +ℤ n.minutes) *ℤ pos 60) +ℤ n.seconds

-- the months, days and microseconds that the fields add up to, of any size
unfoldable pub exact_total : IntervalNorm → Interval
exact_total n = record {
  months = (n.years *ℤ pos 12) +ℤ n.months;
  days = n.days;
  microseconds = (total_seconds n *ℤ pos 1000000) +ℤ n.microseconds;
}

-- their sums lie in i32 and in i64
abbrev pub MonthsFit : IntervalNorm → Type 0
MonthsFit n = FitsSigned w32 (exact_total n).months

abbrev pub MicrosecondsFit : IntervalNorm → Type 0
MicrosecondsFit n = FitsSigned w64 (exact_total n).microseconds

-- the fields of the time, and all seven
abbrev pub time_fields : IntervalNorm → List ℤ
time_fields n = n.hours ∷ n.minutes ∷ n.seconds ∷ n.microseconds ∷ []

abbrev pub all_fields : IntervalNorm → List ℤ
all_fields n = n.years ∷ n.months ∷ n.days ∷ time_fields n

-- no number is below zero, or none is above
abbrev pub HaveOneSign : List ℤ → Type 0
HaveOneSign numbers = All (λ z. pos 0 ≤ℤ z) numbers ⊎ All (λ z. z ≤ℤ pos 0) numbers
