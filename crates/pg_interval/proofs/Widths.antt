-- How many digits the numbers of a normal form have at most.
use Rattle.std.proofs.Common.{◌≡◌, ℕ, zero, suc, ◌/◌, ◌%◌, ◌^◌, ◌<◌, ◌≤◌, length, refl, subst, arith, lit<, ℤ, pos, negsuc, neg_ℤ}
use Rattle.std.specs.Prelude.{int_div, int_rem, unsigned_abs, decimal}
use Rattle.std.specs.Int.Signed.{mag}
use Rattle.std.proofs.lemmas.Fmt.{length-decimal-le}
use Rattle.pg_interval.specs.Cell.{IsInterval}
use Rattle.pg_interval.specs.NormalForm.{normal_form, IsNormal}
use Rattle.pg_interval.specs.Widths.{HasWidths}
use Rattle.pg_interval.specs.declared.pg_interval.Interval.{Interval}
use Rattle.pg_interval.specs.declared.interval_norm.IntervalNorm.{IntervalNorm}

abs_neg : (x : ℕ) → unsigned_abs (neg_ℤ (pos x)) ≡ x
abs_neg zero = refl
abs_neg (suc x) = refl

div_abs : (z : ℤ) (b : ℕ) → unsigned_abs (int_div z (pos b)) ≡ unsigned_abs z / b
div_abs (pos a) b = refl
div_abs (negsuc a) b = abs_neg (suc a / b)

rem_abs : (z : ℤ) (b : ℕ) → unsigned_abs (int_rem z (pos b)) ≡ unsigned_abs z % b
rem_abs (pos a) b = refl
rem_abs (negsuc a) b = abs_neg (suc a % b)

abs_le : (k : ℕ) (z : ℤ) → mag z < 2 ^ k → unsigned_abs z ≤ 2 ^ k
abs_le k (pos n) h = omega arith
abs_le k (negsuc n) h = omega arith

two_long : (n : ℕ) → n < 100 → length (decimal n) ≤ 2
two_long n h = length-decimal-le 2 n (lit< tt) h (omega arith)

nine_long : (n : ℕ) → n < 1000000000 → length (decimal n) ≤ 9
nine_long n h = length-decimal-le 9 n (lit< tt) h (omega arith)

ten_long : (n : ℕ) → n < 10000000000 → length (decimal n) ≤ 10
ten_long n h = length-decimal-le 10 n (lit< tt) h (omega arith)

pub interval_widths : (i : Interval) → IsInterval i → HasWidths (normal_form i)
unfolding normal_form
interval_widths i within =
    let m : unsigned_abs i.months ≤ 2 ^ 31 = abs_le 31 i.months within.months.sfits in
    let d : unsigned_abs i.days ≤ 2 ^ 31 = abs_le 31 i.days within.days.sfits in
    let u : unsigned_abs i.microseconds ≤ 2 ^ 63 = abs_le 63 i.microseconds within.microseconds.sfits in
    let years : unsigned_abs (int_div i.months (pos 12)) < 1000000000 = rw (div_abs i.months 12) (omega arith) in
    let months : unsigned_abs (int_rem i.months (pos 12)) < 100 = rw (rem_abs i.months 12) (omega arith) in
    let hours : unsigned_abs (int_div i.microseconds (pos 3600000000)) < 10000000000 =
    rw (div_abs i.microseconds 3600000000) (omega arith) in
    let minutes : unsigned_abs (int_rem (int_div i.microseconds (pos 60000000)) (pos 60)) < 100 =
    rw (rem_abs (int_div i.microseconds (pos 60000000)) 60) (omega arith) in
    let seconds : unsigned_abs (int_rem (int_div i.microseconds (pos 1000000)) (pos 60)) < 100 =
    rw (rem_abs (int_div i.microseconds (pos 1000000)) 60) (omega arith) in
    let microseconds : unsigned_abs (int_rem i.microseconds (pos 1000000)) < 1000000 = rw (rem_abs i.microseconds 1000000) (omega arith) in
    record {
      years = nine_long _ years;
      months = two_long _ months;
      days = ten_long _ (omega arith);
      hours = ten_long _ hours;
      minutes = two_long _ minutes;
      minutes_small = minutes;
      seconds = two_long _ seconds;
      seconds_small = seconds;
      microseconds_small = microseconds;
    }

pub normal_widths : (n : IntervalNorm) → IsNormal n → HasWidths n
normal_widths n normal = subst HasWidths normal.2 (interval_widths normal.0 normal.1)
