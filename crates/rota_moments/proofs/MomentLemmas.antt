-- Adding months and days to a date of `jiff` is adding them here.
use Rattle.std.proofs.Common.{◌≡◌, ◌&&◌, ℕ, ◌+◌, ◌-◌, ◌*◌, ◌<◌, ◌≤◌, Bool, true, false, true≢false, min, if◌then◌else◌, refl, sym, ap, subst, ◌∙◌, arith, ℤ, pos, negsuc, ◌+ℤ◌, ◌<ℤ◌, ◌≤ℤ◌, int_le, unsigned_abs, Some, None}
use Rattle.std.proofs.lemmas.Int.{by_lt_z, ints}
use Rattle.std.specs.Int.{IsInRange, int_div_euclid, int_rem_euclid}
use Rattle.jiff_core.specs.declared.civil.date.Date.{Date}
use Rattle.jiff_core.specs.declared.span.Span.{Span}
use Rattle.jiff_core.specs.declared.unit.Unit.TheVariants.{Month, Hour, Minute, Second, Millisecond, Microsecond, Nanosecond}
use Rattle.jiff_core.specs.Calendar.{IsEpochDay, IsCivilDate, days_from_civil, days_in_month}
use Rattle.jiff_core.specs.Date.{epoch_day}
use Rattle.jiff_core.specs.Span.{IsOnly, magnitude, span_months, span_days, clock_days}
use Rattle.jiff_core.proofs.SignedLemmas.{signed_arith}
use Rattle.jiff_core.proofs.DateLemmas.{epoch_day_range}
use Rattle.jiff_span.specs.Add.{date_add, CanAddToDate}
use Rattle.jiff_span.specs.Months.{month_number, shifted_year, shifted_month, add_months, IsShiftable}
use Rattle.jiff_span.proofs.DifferenceLemmas.{signed_zero}
use Rattle.jiff_span.proofs.MonthLemmas.{shifted_civil}
use Rattle.rota_moments.specs.Calendar.{civil_date, month_length, day_number, date_of}
use Rattle.rota_moments.specs.Moments.{IsDay, is_day, day_if_any, day_in_month, day_of_month, after_months, after_days}
use Rattle.rota_moments.proofs.CalendarLemmas.{abs_whole, number-kit, day-dated, date-parts, day-of_year, year-of_day}

-- ---- tests

pub day_test : (day : ℤ) → is_day day ≡ true → IsDay day
day_test day e = grind (arith, ints)

pub day_holds : (day : ℤ) → IsDay day → is_day day ≡ true
day_holds day h = grind (arith, ints)

year_test : (year : ℤ) → (int_le (pos 1) year && int_le year (pos 9999)) ≡ true → (pos 1 ≤ℤ year) × (year ≤ℤ pos 9999)
year_test year e = grind (arith, ints)

year_holds : (year : ℤ) → pos 1 ≤ℤ year → year ≤ℤ pos 9999 → (int_le (pos 1) year && int_le year (pos 9999)) ≡ true
year_holds year low high = grind (arith, ints)

if_true : {A : Type 0} (b : Bool) (x y : A) → b ≡ true → (if b then x else y) ≡ x
if_true true x y e = refl
if_true false x y e = absurd (true≢false (sym e))

if_false : {A : Type 0} (b : Bool) (x y : A) → (b ≡ true → ⊥) → (if b then x else y) ≡ y
if_false true x y h = absurd (h refl)
if_false false x y h = refl

pub day_if_any-some : (day : ℤ) → IsDay day → day_if_any day ≡ Some day
day_if_any-some day h = if_true (is_day day) (Some day) None (day_holds day h)

pub day_if_any-none : (day : ℤ) → (IsDay day → ⊥) → day_if_any day ≡ None
day_if_any-none day h = if_false (is_day day) (Some day) None (λ e. h (day_test day e))

-- ---- months

day_in_month-none : (year : ℤ) (month day : ℕ) → ((pos 1 ≤ℤ year) × (year ≤ℤ pos 9999) → ⊥) → day_in_month year month day ≡ None
day_in_month-none year month day h = if_false _ _ _ (λ e. h (year_test year e))

-- a date of `jiff` with these parts
abbrev plain : (year : ℤ) (month day : ℕ) → IsCivilDate year month day → Date
plain year month day v = record { year = year; month = month; day = day; year_in = v.0; month_in = v.1; day_in = v.2 }

early_month : (year : ℤ) (month day first : ℕ) → IsCivilDate year month day → year <ℤ pos 1
    → day_in_month year month first ≡ day_if_any (days_from_civil year month day)
early_month year month day first v early =
    day_in_month-none year month first (λ h. omega (arith, signed_arith, h))
    ∙ sym (day_if_any-none (days_from_civil year month day) (λ h. omega (arith, signed_arith, year-of_day (plain year month day v) h)))

late_month : (y month day first : ℕ) → IsCivilDate (pos y) month day → day ≡ min first (month_length y month) → 1 ≤ y
    → day_in_month (pos y) month first ≡ day_if_any (days_from_civil (pos y) month day)
late_month y month day first v e late =
    let is_in = day-of_year (plain (pos y) month day v) (omega (arith, signed_arith)) in
    let high : y ≤ 9999 = omega (arith, signed_arith, v.0) in
    if_true _ _ _ (year_holds (pos y) (omega (arith, signed_arith)) (omega (arith, signed_arith)))
    ∙ ap (λ d. Some (day_number (civil_date y month d))) (sym e)
    ∙ ap (λ z. Some z) (sym (number-kit y month day late v.2.0))
    ∙ sym (day_if_any-some (days_from_civil (pos y) month day) is_in)

-- a day of a month, by `jiff` and here
month-kit : (year : ℤ) (month first : ℕ) → IsCivilDate year month (min first (days_in_month year month))
    → day_in_month year month first ≡ day_if_any (days_from_civil year month (min first (days_in_month year month)))
month-kit year month first v =
    by_lt_z year (pos 1)
    (λ early. early_month year month (min first (days_in_month year month)) first v early)
    (λ late.
    let e = abs_whole year (omega (arith, signed_arith)) in
    let P : ℤ → Type 0 = λ z. IsCivilDate z month (min first (days_in_month z month))
    → day_in_month z month first ≡ day_if_any (days_from_civil z month (min first (days_in_month z month))) in
    subst P e (λ w. late_month (unsigned_abs year) month _ first w refl (omega (arith, signed_arith))) v)

-- the months since January of the year 0, so many months later
counted : (d : Date) (k : ℤ) → IsDay (epoch_day d)
    → month_number d +ℤ k ≡ pos (12 * (date_of (epoch_day d)).year + (date_of (epoch_day d)).month - 1) +ℤ k
counted d k h =
    let p = date-parts d h in
    let year = p.year in
    let month = p.month in
    let m = d.month_in in
    omega (arith, signed_arith)

months-shifted : (d : Date) (k : ℤ) → IsDay (epoch_day d)
    → after_months (epoch_day d) k ≡ day_in_month (shifted_year d k) (shifted_month d k) d.day
months-shifted d k h =
    ap (λ t. day_of_month t (date_of (epoch_day d)).day) (sym (counted d k h))
    ∙ ap (λ day. day_of_month (month_number d +ℤ k) day) (sym (date-parts d h).day)

pub after_months-kit : (d : Date) (k : ℤ) → IsDay (epoch_day d) → IsShiftable d k
    → after_months (epoch_day d) k ≡ day_if_any (add_months d k)
after_months-kit d k h can =
    months-shifted d k h ∙ month-kit (shifted_year d k) (shifted_month d k) d.day (shifted_civil d k can)

pub after_months-none : (d : Date) (k : ℤ) → IsDay (epoch_day d) → (IsShiftable d k → ⊥) → after_months (epoch_day d) k ≡ None
after_months-none d k h cannot =
    months-shifted d k h
    ∙ day_in_month-none (shifted_year d k) (shifted_month d k) d.day (λ v. cannot (
      omega (arith, signed_arith, v.0),
      omega (arith, signed_arith, v.1),
    ))

-- the months since January of the year 0 to a month of the years 1 to 9999
months_to : (day : ℤ) → IsDay day → IsInRange 12 119999 (12 * (date_of day).year + (date_of day).month - 1)
months_to day h =
    let dated = day-dated day h in
    let low = dated.civil.year in
    let high = dated.high in
    let month = dated.civil.month in
    (omega arith, omega arith)

far_year : (n : ℕ) (k : ℤ) → IsInRange 12 119999 n → 119987 < unsigned_abs k
    → ((pos 1 ≤ℤ int_div_euclid (pos n +ℤ k) (pos 12)) × (int_div_euclid (pos n +ℤ k) (pos 12) ≤ℤ pos 9999) → ⊥)
far_year n (pos k) h far v = omega (arith, signed_arith, v.0, v.1)
far_year n (negsuc k) h far v = omega (arith, signed_arith, v.0, v.1)

-- over 119,987 months lead out of the years 1 to 9999
pub after_months-far : (day k : ℤ) → IsDay day → 119987 < unsigned_abs k → after_months day k ≡ None
after_months-far day k h far =
    let n = 12 * (date_of day).year + (date_of day).month - 1 in
    let t = pos n +ℤ k in
    day_in_month-none (int_div_euclid t (pos 12)) (unsigned_abs (int_rem_euclid t (pos 12)) + 1) (date_of day).day
    (far_year n k (months_to day h) far)

-- ---- spans

no_clock : (s : Span) → magnitude Hour s ≡ 0 → magnitude Minute s ≡ 0 → magnitude Second s ≡ 0 → magnitude Millisecond s ≡ 0
    → magnitude Microsecond s ≡ 0 → magnitude Nanosecond s ≡ 0 → clock_days s ≡ pos 0
no_clock s a b c d e f = signed_zero s.negative _ (omega arith)

months_only : (a : Date) (n : ℤ) (s : Span) → IsOnly Month n s → (span_months s ≡ n) × (date_add a s ≡ add_months a n)
months_only a n s h =
    let m : span_months s ≡ n = omega (arith, signed_arith, h.months) in
    let d : span_days s ≡ pos 0 = omega (arith, signed_arith, h.days) in
    let k : clock_days s ≡ pos 0 = no_clock s (h.others Hour (omega arith)) (h.others Minute (omega arith)) (h.others Second (omega arith))
    (h.others Millisecond (omega arith)) (h.others Microsecond (omega arith)) (h.others Nanosecond (omega arith)) in
    (m, rw (m, d, k) (omega (arith, signed_arith)))

-- the day of the date that `jiff` gives
pub months_added : (a b : Date) (n : ℤ) (s : Span) → IsOnly Month n s → IsDay (epoch_day a) → CanAddToDate a s → epoch_day b ≡ date_add a s
    → after_months (epoch_day a) n ≡ day_if_any (epoch_day b)
months_added a b n s only h can e =
    let is = months_only a n s only in
    after_months-kit a n h (rw is.0 at can.0) ∙ ap day_if_any (sym (e ∙ is.1))

-- it gives none only where there is none
pub months_refused : (a : Date) (n : ℤ) (s : Span) → IsOnly Month n s → IsDay (epoch_day a) → (CanAddToDate a s → ⊥)
    → after_months (epoch_day a) n ≡ None
months_refused a n s only h cannot =
    let is = months_only a n s only in
    after_months-none a n h (λ can. cannot (rw is.0 can, rw is.1 (epoch_day_range (plain _ _ _ (shifted_civil a n can)))))

far_day : (day k : ℤ) → IsDay day → 3652058 < unsigned_abs k → (IsDay (day +ℤ k) → ⊥)
far_day day (pos k) h far v = omega (arith, signed_arith, v.0, v.1)
far_day day (negsuc k) h far v = omega (arith, signed_arith, v.0, v.1)

-- over 3,652,058 days lead out of the years 1 to 9999
pub after_days-far : (day k : ℤ) → IsDay day → 3652058 < unsigned_abs k → after_days day k ≡ None
after_days-far day k h far = day_if_any-none (day +ℤ k) (far_day day k h far)

pub days_refused : (day k : ℤ) → (IsEpochDay (day +ℤ k) → ⊥) → after_days day k ≡ None
days_refused day k h = day_if_any-none (day +ℤ k) (λ v. h (omega (arith, signed_arith, v.0), omega (arith, signed_arith, v.1)))
