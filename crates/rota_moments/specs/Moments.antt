-- Moments, and what it is to add an interval to one.
use Rattle.std.specs.Prelude.{ℕ, ◌+◌, ◌-◌, ◌*◌, ◌<◌, ◌&&◌, Bool, min, if◌then◌else◌, ℤ, pos, neg_ℤ, ◌+ℤ◌, ◌*ℤ◌, ◌≤ℤ◌, int_le, unsigned_abs, Option, Some, None, Result, Ok, Err}
use Rattle.std.specs.Option.{ok_or}
use Rattle.std.specs.Int.{int_div_euclid, int_rem_euclid}
use Rattle.pg_interval.specs.declared.pg_interval.Interval.{Interval}
use Rattle.rota_moments.specs.declared.moment.Moment.{Moment}
use Rattle.rota_moments.specs.declared.moment.RangeError.{RangeError}
use Rattle.rota_moments.specs.declared.moment.RangeError.TheVariants.{Months, Days, Time}
use Rattle.rota_moments.specs.Calendar.{civil_date, month_length, day_number, date_of}

-- how many microseconds a day has
abbrev pub day_micros : ℕ
day_micros = 86400000000

-- the day numbers of 0001-01-01 and of 9999-12-31
abbrev pub first_day : ℤ
first_day = neg_ℤ (pos 719162)

abbrev pub last_day : ℤ
last_day = pos 2932896

-- a day of the years 1 to 9999
abbrev pub IsDay : ℤ → Type 0
IsDay day = (first_day ≤ℤ day) × (day ≤ℤ last_day)

abbrev pub is_day : ℤ → Bool
is_day day = int_le first_day day && int_le day last_day

-- a day of the years 1 to 9999, and a place in it
abbrev pub IsMoment : Moment → Type 0
IsMoment m = IsDay m.day × (m.micro < day_micros)

abbrev pub moment : ℤ → ℕ → Moment
moment day micro = record { day = day; micro = micro }

-- the microseconds since day 0 began
abbrev pub instant : Moment → ℤ
instant m = m.day *ℤ pos day_micros +ℤ pos m.micro

-- ---- the three steps of adding

-- the day if it is one of the years 1 to 9999
abbrev pub day_if_any : ℤ → Option ℤ
day_if_any day = if is_day day then Some day else None

-- this day of a month of the years 1 to 9999, or the month's last where it has none such
abbrev pub day_in_month : ℤ → ℕ → ℕ → Option ℤ
day_in_month year month day =
    if int_le (pos 1) year && int_le year (pos 9999)
    then Some (day_number (civil_date (unsigned_abs year) month (min day (month_length (unsigned_abs year) month))))
    else None

-- the same of a month that is counted from January of the year 0
abbrev pub day_of_month : ℤ → ℕ → Option ℤ
day_of_month t day = day_in_month (int_div_euclid t (pos 12)) (unsigned_abs (int_rem_euclid t (pos 12)) + 1) day

-- the day `months` months later
abbrev pub after_months : ℤ → ℤ → Option ℤ
after_months day months =
    let date = date_of day in
    day_of_month (pos (12 * date.year + date.month - 1) +ℤ months) date.day

-- the day `days` days later
abbrev pub after_days : ℤ → ℤ → Option ℤ
after_days day days = day_if_any (day +ℤ days)

-- the moment at an instant, if its day is one of the years 1 to 9999
abbrev pub moment_at : ℤ → Option Moment
moment_at t =
    let day = int_div_euclid t (pos day_micros) in
    if is_day day then Some (moment day (unsigned_abs (int_rem_euclid t (pos day_micros)))) else None

-- the moment `micros` microseconds later
abbrev pub after_time : Moment → ℤ → Option Moment
after_time m micros = moment_at (instant m +ℤ micros)

abbrev pub and_then : {A B : Type 0} → Result A RangeError → (A → Result B RangeError) → Result B RangeError
and_then (Ok x) f = f x
and_then (Err e) f = Err e

-- the moment `days` days and then `micros` microseconds later
abbrev pub after_days_and_time : Moment → ℤ → ℤ → Result Moment RangeError
after_days_and_time m days micros =
    and_then (ok_or (after_days m.day days) Days) (λ day. ok_or (after_time (moment day m.micro) micros) Time)

-- the moment after an interval: its months first, then its days, then its microseconds; or the first of them that is refused
abbrev pub moment_after : Moment → Interval → Result Moment RangeError
moment_after m step =
    and_then (ok_or (after_months m.day step.months) Months) (λ moved.
    after_days_and_time (moment moved m.micro) step.days step.microseconds)
