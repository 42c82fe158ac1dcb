-- What is known of the fields of an interval's normal form: their sizes, their signs, and their sums.
use Rattle.std.proofs.Common.{◌≡◌, ℕ, zero, suc, ◌/◌, ◌^◌, ◌<◌, ◌≤◌, ◌%◌, Bool, true, false, ◌||◌, ap, ◌∙◌, sym, refl, arith, lit<, inl, inr, ℤ, pos, negsuc, ◌≤ℤ◌, neg_ℤ}
use Rattle.std.specs.Prelude.{int_div, int_rem, unsigned_abs, All}
use Rattle.std.specs.Int.{is_negative}
use Rattle.std.specs.Int.Signed.{mag, mag_rem}
use Rattle.std.proofs.lemmas.Int.{ints}
use Rattle.std.proofs.Math.Nat.{div-le_self}
use Rattle.pg_interval.specs.Cell.{IsInterval}
use Rattle.pg_interval.specs.Decimals.{with_sign, Year, Month, Day, Hour, Minute, Second}
use Rattle.pg_interval.specs.Pairs.{sum_of}
use Rattle.pg_interval.specs.NormalForm.{normal_form, exact_total, time_fields, HaveOneSign}
use Rattle.pg_interval.specs.Printed.{is_time_negative}
use Rattle.pg_interval.specs.declared.pg_interval.Interval.{Interval}
use Rattle.pg_interval.specs.declared.interval_norm.IntervalNorm.{IntervalNorm}
use Rattle.pg_interval.proofs.NormalFormLemmas.{time_signs-normal_form}
use Rattle.pg_interval.proofs.PartTexts.{unit_worth, with_sign_is}
use Rattle.pg_interval.proofs.DigitTexts.{or_none_left, or_none_right}

-- ---- sizes

mag_neg : (x a : ℕ) → x ≤ suc a → mag (neg_ℤ (pos x)) ≤ a
mag_neg zero a h = omega arith
mag_neg (suc x) a h = omega arith

abs_neg : (x : ℕ) → unsigned_abs (neg_ℤ (pos x)) ≡ x
abs_neg zero = refl
abs_neg (suc x) = refl

quot_small : (z : ℤ) (b k : ℕ) → mag z < 2 ^ k → mag (int_div z (pos b)) < 2 ^ k
quot_small (pos a) b k h = omega (arith, div-le_self a b)
quot_small (negsuc a) b k h = omega (arith, mag_neg (suc a / b) a (div-le_self (suc a) b))

pub record IsSized (n : IntervalNorm) : Type 0 where
  pub years : mag n.years < 2 ^ 31
  pub months : mag n.months < 2 ^ 31
  pub days : mag n.days < 2 ^ 31
  pub hours : mag n.hours < 2 ^ 63
  pub minutes : mag n.minutes < 2 ^ 63
  pub seconds : mag n.seconds < 2 ^ 63
  pub microseconds : unsigned_abs n.microseconds < 1000000

rem_small : (z d : ℤ) (k : ℕ) → mag z < 2 ^ k → mag (int_rem z d) < 2 ^ k
rem_small z d k h = omega (arith, mag_rem z d)

rem_below : (z : ℤ) → unsigned_abs (int_rem z (pos 1000000)) < 1000000
rem_below (pos a) = omega arith
rem_below (negsuc a) = rw (abs_neg (suc a % 1000000)) (omega arith)

pub normal_sizes : (i : Interval) → IsInterval i → IsSized (normal_form i)
unfolding normal_form
normal_sizes i within = record {
  years = quot_small i.months 12 31 within.months.sfits;
  months = rem_small i.months (pos 12) 31 within.months.sfits;
  days = within.days.sfits;
  hours = quot_small i.microseconds 3600000000 63 within.microseconds.sfits;
  minutes = rem_small (int_div i.microseconds (pos 60000000)) (pos 60) 63 (quot_small i.microseconds 60000000 63 within.microseconds.sfits);
  seconds = rem_small (int_div i.microseconds (pos 1000000)) (pos 60) 63 (quot_small i.microseconds 1000000 63 within.microseconds.sfits);
  microseconds = rem_below i.microseconds;
}

-- ---- signs

pub above : (z : ℤ) → is_negative z ≡ false → with_sign false (unsigned_abs z) ≡ z
above z h = ap (λ b. with_sign b (unsigned_abs z)) (sym h) ∙ with_sign_is z

pub below : (z : ℤ) → z ≤ℤ pos 0 → with_sign true (unsigned_abs z) ≡ z
below (pos zero) h = refl
below (pos (suc n)) h = absurd (omega (arith, ints))
below (negsuc n) h = refl

pub not_below : (z : ℤ) → pos 0 ≤ℤ z → is_negative z ≡ false
not_below z h = grind (arith, ints)

-- the numbers of a time have one sign
pub record HasTimeSign (minus : Bool) (n : IntervalNorm) : Type 0 where
  pub hours : with_sign minus (unsigned_abs n.hours) ≡ n.hours
  pub minutes : with_sign minus (unsigned_abs n.minutes) ≡ n.minutes
  pub seconds : with_sign minus (unsigned_abs n.seconds) ≡ n.seconds
  pub microseconds : with_sign minus (unsigned_abs n.microseconds) ≡ n.microseconds

time_above : (n : IntervalNorm) → is_time_negative n ≡ false → HasTimeSign false n
time_above n h =
    let hms = or_none_left ((is_negative n.hours || is_negative n.minutes) || is_negative n.seconds) (is_negative n.microseconds) h in
    let hm = or_none_left (is_negative n.hours || is_negative n.minutes) (is_negative n.seconds) hms in
    record {
      hours = above n.hours (or_none_left (is_negative n.hours) (is_negative n.minutes) hm);
      minutes = above n.minutes (or_none_right (is_negative n.hours) (is_negative n.minutes) hm);
      seconds = above n.seconds (or_none_right (is_negative n.hours || is_negative n.minutes) (is_negative n.seconds) hms);
      microseconds = above n.microseconds (or_none_right ((is_negative n.hours || is_negative n.minutes)
          || is_negative n.seconds) (is_negative n.microseconds) h);
    }

time_below : (n : IntervalNorm) → All (λ z. z ≤ℤ pos 0) (time_fields n) → HasTimeSign true n
time_below n h = record {
  hours = below n.hours (h 0 (pos 1) (lit< tt));
  minutes = below n.minutes (h 1 (pos 1) (lit< tt));
  seconds = below n.seconds (h 2 (pos 1) (lit< tt));
  microseconds = below n.microseconds (h 3 (pos 1) (lit< tt));
}

none_below : (n : IntervalNorm) → All (λ z. pos 0 ≤ℤ z) (time_fields n) → is_time_negative n ≡ false
none_below n h = rw (
  not_below n.hours (h 0 (pos 1) (lit< tt)),
  not_below n.minutes (h 1 (pos 1) (lit< tt)),
  not_below n.seconds (h 2 (pos 1) (lit< tt)),
  not_below n.microseconds (h 3 (pos 1) (lit< tt)),
) refl

time_sign_by : (n : IntervalNorm) (minus : Bool) → is_time_negative n ≡ minus → HaveOneSign (time_fields n) → HasTimeSign minus n
time_sign_by n false e h = time_above n e
time_sign_by n true e (inr h) = time_below n h
time_sign_by n true e (inl h) = let no : is_time_negative n ≡ false = none_below n h in cc

pub normal_time_sign : (i : Interval) → HasTimeSign (is_time_negative (normal_form i)) (normal_form i)
normal_time_sign i = time_sign_by (normal_form i) _ refl (time_signs-normal_form i)

-- ---- sums

pub same_interval : (i j : Interval) → i.months ≡ j.months → i.days ≡ j.days → i.microseconds ≡ j.microseconds → i ≡ j
same_interval i j months days microseconds =
    ap (λ m. record { months = m; days = i.days; microseconds = i.microseconds }) months
    ∙ ap (λ d. record { months = j.months; days = d; microseconds = i.microseconds }) days
    ∙ ap (λ u. record { months = j.months; days = j.days; microseconds = u }) microseconds

-- the three sums of the fields
pub fields_sum : (n : IntervalNorm) → sum_of (unit_worth Year n.years)
    (sum_of (unit_worth Month n.months) (sum_of (unit_worth Day n.days)
    (sum_of (unit_worth Hour n.hours) (sum_of (unit_worth Minute n.minutes)
    (sum_of (unit_worth Second n.seconds) (record { months = pos 0; days = pos 0; microseconds = n.microseconds }))))))
    ≡ exact_total n
unfolding exact_total
fields_sum n = same_interval _ _ (omega (arith, ints)) (omega (arith, ints)) (omega (arith, ints))
