-- The calendar here is that of `jiff`: its dates have the same day numbers.
use Rattle.std.proofs.Common.{◌≡◌, ℕ, zero, suc, ◌+◌, ◌-◌, ◌<◌, ◌≤◌, inl, inr, Bool, true, false, nat_lt, if◌then◌else◌, refl, sym, ap, ◌∙◌, arith, ℤ, pos, negsuc, ◌+ℤ◌, ◌-ℤ◌, ◌≤ℤ◌, unsigned_abs}
use Rattle.std.proofs.lemmas.Bool.{cases_lt}
use Rattle.std.specs.Int.{IsInRange}
use Rattle.jiff_core.specs.declared.civil.date.Date.{Date}
use Rattle.jiff_core.specs.Calendar as kit
use Rattle.jiff_core.specs.Date.{epoch_day}
use Rattle.jiff_core.proofs.SignedLemmas.{signed_arith}
use Rattle.jiff_core.proofs.MarchLemmas.{day_count-early}
use Rattle.jiff_core.proofs.CalendarLemmas.{days_from_civil-day_count, days_of_months_all, day_count-end}
use Rattle.jiff_core.proofs.DateLemmas.{epoch_day_injective, epoch_day_range}
use Rattle.rota_moments.specs.Calendar.{CivilDate, civil_date, year_length, month_length, next_date, date_after, days_of_years, days_of_months, days_before, day_number, date_of}
use Rattle.rota_moments.specs.Moments.{IsDay}

-- a number that isn't negative is its size
pub abs_whole : (z : ℤ) → pos 0 ≤ℤ z → pos (unsigned_abs z) ≡ z
abs_whole (pos n) h = refl
abs_whole (negsuc n) h = absurd (omega (arith, signed_arith))

-- ---- days of years and of months

months-kit : (y n : ℕ) → kit.days_of_months (pos y) n ≡ days_of_months y n
unfolding days_of_months kit.days_of_months
months-kit y zero = refl
months-kit y (suc n) = ap (λ k. k + month_length y (suc n)) (months-kit y n)

first_years : kit.days_of_years 10001 ≡ 3652791
unfolding kit.day_count kit.days_of_months
first_years = omega (arith, day_count-early (pos 1) 10000 1 1 refl (omega arith) (omega arith) (omega arith))

next_years : (n : ℕ) → kit.days_of_years (suc n) ≡ kit.days_of_years n + kit.days_in_year (pos n -ℤ pos 10000)
unfolding kit.days_of_years
next_years n = refl

years_more : (n : ℕ) → days_of_years (suc n) ≡ days_of_years n + year_length (suc n)
unfolding days_of_years
years_more n = refl

years-zero : days_of_years 0 ≡ 0
unfolding days_of_years
years-zero = refl

year_of_count : (k : ℕ) → pos (k + 10001) -ℤ pos 10000 ≡ pos (suc k)
year_of_count k = omega (arith, signed_arith)

years-kit : (k : ℕ) → kit.days_of_years (k + 10001) ≡ days_of_years k + 3652791
years-kit zero = let e : 0 + 10001 ≡ 10001 = omega arith in rw e (omega (arith, first_years, years-zero))
years-kit (suc k) =
    let e : suc k + 10001 ≡ suc (k + 10001) = omega arith in
    let kit_more : kit.days_of_years (suc (k + 10001)) ≡ kit.days_of_years (k + 10001) + year_length (suc k) =
    rw (year_of_count k) at (next_years (k + 10001)) in
    rw e (omega (arith, kit_more, years-kit k, years_more k))

months-zero : (y : ℕ) → days_of_months y 0 ≡ 0
unfolding days_of_months
months-zero y = refl

months_suc : (y m : ℕ) → days_of_months y (suc m) ≡ days_of_months y m + month_length y (suc m)
unfolding days_of_months
months_suc y m = refl

months_more : (y m : ℕ) → 1 ≤ m → days_of_months y m ≡ days_of_months y (m - 1) + month_length y m
months_more y zero h = absurd (omega arith)
months_more y (suc m) h = let back : suc m - 1 ≡ m = omega arith in rw back (months_suc y m)

months-all : (y : ℕ) → days_of_months y 12 ≡ year_length y
months-all y = sym (months-kit y 12) ∙ days_of_months_all (pos y)

month_bounds : (y m : ℕ) → (month_length y m ≤ 31) × (28 ≤ month_length y m)
month_bounds y m = grind arith

-- ---- day numbers

count-kit : (y m d : ℕ) → 1 ≤ y → 1 ≤ d → kit.day_count (pos y) m d ≡ days_before (civil_date y m d) + 3652791
unfolding kit.day_count
count-kit y m d hy hd =
    let e : unsigned_abs (pos y +ℤ pos 10000) ≡ (y - 1) + 10001 = omega (arith, signed_arith) in
    rw e (omega (arith, years-kit (y - 1), months-kit y (m - 1)))

-- a date has the same number there
pub number-kit : (y m d : ℕ) → 1 ≤ y → 1 ≤ d → kit.days_from_civil (pos y) m d ≡ day_number (civil_date y m d)
number-kit y m d hy hd =
    omega (arith, signed_arith, days_from_civil-day_count (pos y) m d, count-kit y m d hy hd)

-- ---- the dates of the calendar

pub record IsCivil (c : CivilDate) : Type 0 where
  pub year : 1 ≤ c.year
  pub month : IsInRange 1 12 c.month
  pub day : IsInRange 1 (month_length c.year c.month) c.day

abbrev Follows : CivilDate → CivilDate → Type 0
Follows c n = IsCivil n × (days_before n ≡ days_before c + 1)

nat_true : (a b : ℕ) → nat_lt a b ≡ true → a < b
nat_true a b e = grind arith

nat_false : (a b : ℕ) → nat_lt a b ≡ false → b ≤ a
nat_false a b e = grind arith

next_day : (c : CivilDate) → c.day < month_length c.year c.month → IsCivil c → Follows c (civil_date c.year c.month (c.day + 1))
next_day c h v =
    let d = v.day in
    (record { year = v.year; month = v.month; day = (omega arith, omega arith) }, omega arith)

next_month : (c : CivilDate) → month_length c.year c.month ≤ c.day → c.month < 12 → IsCivil c
    → Follows c (civil_date c.year (c.month + 1) 1)
next_month c last h v =
    let d = v.day in
    let m = v.month in
    let back : c.month + 1 - 1 ≡ c.month = omega arith in
    let long = month_bounds c.year (c.month + 1) in (
      record { year = v.year; month = (omega arith, omega arith); day = (omega arith, omega arith) },
      rw back (omega (arith, months_more c.year c.month m.0)),
    )

next_year : (c : CivilDate) → month_length c.year c.month ≤ c.day → 12 ≤ c.month → IsCivil c → Follows c (civil_date (c.year + 1) 1 1)
next_year c last h v =
    let d = v.day in
    let m = v.month in
    let y = v.year in
    let is : c.month ≡ 12 = omega arith in
    let months = rw is at (months_more c.year c.month m.0) in
    let all = months-all c.year in
    let k : suc (c.year - 1) ≡ c.year = omega arith in
    let years = rw k at (years_more (c.year - 1)) in
    let back : c.year + 1 - 1 ≡ c.year = omega arith in
    let long = month_bounds (c.year + 1) 1 in
    let lastday : month_length c.year 12 ≡ c.day = omega (arith, rw is at last, rw is at d) in (
      record { year = omega arith; month = (omega arith, omega arith); day = (omega arith, omega arith) },
      rw (back, is) (omega (arith, months, all, years, lastday, months-zero (c.year + 1))),
    )

follows : (c : CivilDate) (later more : Bool) → nat_lt c.day (month_length c.year c.month) ≡ later → nat_lt c.month 12 ≡ more → IsCivil c
    → Follows c (if later then civil_date c.year c.month (c.day + 1)
    else (if more then civil_date c.year (c.month + 1) 1 else civil_date (c.year + 1) 1 1))
follows c true more a b v = next_day c (nat_true _ _ a) v
follows c false true a b v = next_month c (nat_false _ _ a) (nat_true _ _ b) v
follows c false false a b v = next_year c (nat_false _ _ a) (nat_false _ _ b) v

next-follows : (c : CivilDate) → IsCivil c → Follows c (next_date c)
next-follows c v = follows c _ _ refl refl v

first_date : IsCivil (civil_date 1 1 1) × (days_before (civil_date 1 1 1) ≡ 0)
unfolding days_of_years days_of_months
first_date = (record { year = omega arith; month = (omega arith, omega arith); day = (omega arith, omega arith) }, refl)

-- the date n days after the first is a date of the calendar, and n days lie before it
pub date_after-civil : (n : ℕ) → IsCivil (date_after n) × (days_before (date_after n) ≡ n)
unfolding date_after
date_after-civil zero = first_date
date_after-civil (suc n) =
    let before = date_after-civil n in
    let next = next-follows (date_after n) before.0 in
    (next.0, omega (arith, next.1, before.1))

years_add : (n k : ℕ) → days_of_years n ≤ days_of_years (k + n)
years_add n zero = let e : 0 + n ≡ n = omega arith in rw e (omega arith)
years_add n (suc k) =
    let e : suc k + n ≡ suc (k + n) = omega arith in
    rw e (omega (arith, years_more (k + n), years_add n k))

all_years : days_of_years 9999 ≡ 3652059
unfolding kit.day_count kit.days_of_months
all_years = let e : 9999 + 10001 ≡ 20000 = omega arith in omega (arith, rw e at (years-kit 9999), day_count-end)

-- a day of the years up to 9999 has such a year
pub year_bound : (c : CivilDate) → days_before c ≤ 3652058 → c.year ≤ 9999
year_bound c h =
    elim (cases_lt 9999 c.year) [
      | inr le ↦ le
      | inl lt ↦
          let k = c.year - 1 - 9999 in
          let e : k + 9999 ≡ c.year - 1 = omega arith in
          absurd (omega (arith, rw e at (years_add 9999 k), all_years))
    ]

-- ---- dates of `jiff`

-- a date of the calendar from the years 1 to 9999 as one of `jiff`
pub kit_date : (c : CivilDate) → IsCivil c → c.year ≤ 9999 → Date
kit_date c v high = record {
  year = pos c.year;
  month = c.month;
  day = c.day;
  year_in = (omega (arith, signed_arith), omega (arith, signed_arith));
  month_in = v.month;
  day_in = v.day;
}

-- the parts of a date are those of its day's date
pub record HasParts (d : Date) (c : CivilDate) : Type 0 where
  pub year : d.year ≡ pos c.year
  pub month : d.month ≡ c.month
  pub day : d.day ≡ c.day

same_parts : (d : Date) (c : CivilDate) (v : IsCivil c) (high : c.year ≤ 9999) → epoch_day d ≡ day_number c → HasParts d c
unfolding kit_date
same_parts d c v high e =
    let same = epoch_day_injective d (kit_date c v high) (e ∙ sym (number-kit c.year c.month c.day v.year v.day.0)) in
    record { year = same.0; month = same.1; day = same.2 }

-- a day of the years 1 to 9999 has a date of them, and is that date's day
pub record IsDated (day : ℤ) (c : CivilDate) : Type 0 where
  pub civil : IsCivil c
  pub high : c.year ≤ 9999
  pub number : day ≡ day_number c

pub day-dated : (day : ℤ) → IsDay day → IsDated day (date_of day)
day-dated day h =
    let n = unsigned_abs (day +ℤ pos 719162) in
    let whole = abs_whole (day +ℤ pos 719162) (omega (arith, signed_arith)) in
    let after = date_after-civil n in
    let high = year_bound (date_after n) (omega (arith, signed_arith, after.1)) in
    record { civil = after.0; high = high; number = omega (arith, signed_arith, after.1) }

pub date-parts : (d : Date) → IsDay (epoch_day d) → HasParts d (date_of (epoch_day d))
date-parts d h =
    let dated = day-dated (epoch_day d) h in
    same_parts d (date_of (epoch_day d)) dated.civil dated.high dated.number

-- a day of the years from 1 on
pub day-of_year : (d : Date) → pos 1 ≤ℤ d.year → IsDay (epoch_day d)
day-of_year d h =
    let y = unsigned_abs d.year in
    let whole = abs_whole d.year (omega (arith, signed_arith)) in
    let e : d.year ≡ pos y = sym whole in
    let number = number-kit y d.month d.day (omega (arith, signed_arith)) d.day_in.0 in
    let range = epoch_day_range d in
    (rw e (rw number (omega (arith, signed_arith))), range.1)

pub year-of_day : (d : Date) → IsDay (epoch_day d) → pos 1 ≤ℤ d.year
year-of_day d h =
    let p = date-parts d h in
    let v = (day-dated (epoch_day d) h).civil.year in
    rw p.year (omega (arith, signed_arith))
