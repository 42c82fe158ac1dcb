-- The calendar of ISO 8601, from 1 January of the year 1 on: which dates there are, and which number a day has.
use Rattle.std.specs.Prelude.{ℕ, zero, suc, ◌+◌, ◌-◌, ◌%◌, Bool, not, ◌&&◌, ◌||◌, ◌==◌, nat_lt, if◌then◌else◌, ℤ, pos, ◌+ℤ◌, ◌-ℤ◌, unsigned_abs}

pub record CivilDate : Type 0 where
  pub year : ℕ
  pub month : ℕ
  pub day : ℕ

abbrev pub civil_date : ℕ → ℕ → ℕ → CivilDate
civil_date year month day = record { year = year; month = month; day = day }

-- every fourth year, but of the centuries only every fourth
abbrev pub is_leap_year : ℕ → Bool
is_leap_year y = (y % 4 == 0) && (not (y % 100 == 0) || (y % 400 == 0))

abbrev pub year_length : ℕ → ℕ
year_length y = if is_leap_year y then 366 else 365

-- thirty days have September, April, June and November
abbrev pub month_length : ℕ → ℕ → ℕ
month_length y m =
    if m == 2 then (if is_leap_year y then 29 else 28)
    else (if (m == 4) || (m == 6) || (m == 9) || (m == 11) then 30 else 31)

-- the date that follows on a date
abbrev pub next_date : CivilDate → CivilDate
next_date d =
    if nat_lt d.day (month_length d.year d.month) then civil_date d.year d.month (d.day + 1)
    else (if nat_lt d.month 12 then civil_date d.year (d.month + 1) 1 else civil_date (d.year + 1) 1 1)

-- the date that comes n days after 1 January of the year 1
unfoldable pub date_after : ℕ → CivilDate
date_after zero = civil_date 1 1 1
date_after (suc n) = next_date (date_after n)

-- the days of the years from 1 to n
unfoldable pub days_of_years : ℕ → ℕ
days_of_years zero = 0
days_of_years (suc n) = days_of_years n + year_length (suc n)

-- the days of the first n months of a year
unfoldable pub days_of_months : ℕ → ℕ → ℕ
days_of_months y zero = 0
days_of_months y (suc n) = days_of_months y n + month_length y (suc n)

-- the days from 1 January of the year 1 up to a date
abbrev pub days_before : CivilDate → ℕ
days_before d = days_of_years (d.year - 1) + days_of_months d.year (d.month - 1) + (d.day - 1)

-- the number of a date's day: the days since 1 January 1970, which comes 719,162 days after that of the year 1
abbrev pub day_number : CivilDate → ℤ
day_number d = pos (days_before d) -ℤ pos 719162

-- the date of the day of this number, from the year 1 on
abbrev pub date_of : ℤ → CivilDate
date_of day = date_after (unsigned_abs (day +ℤ pos 719162))
