-- How long a text in the style sql_standard is.
use Rattle.std.proofs.Common.{◌^◌, ◌<◌, ◌≤◌, Bool, true, false, not, ◌&&◌, ◌∷◌, ◌++◌, length, arith, lit≤, ℤ}
use Rattle.std.specs.Prelude.{if◌then◌else◌, unsigned_abs, decimal}
use Rattle.std.specs.Int.{is_negative}
use Rattle.std.specs.Int.Signed.{mag}
use Rattle.std.proofs.Math.ListN.{length-append}
use Rattle.pg_interval.specs.Printed.{minus_if, sign_of, digits_of, is_zero, is_time_zero, is_year_month_zero, is_time_negative, is_year_month_negative, are_opposite, after_hours, year_month_text, sql_time_text, day_time_text, signed_days_text, signed_text, fields_text}
use Rattle.pg_interval.specs.declared.interval_norm.IntervalNorm.{IntervalNorm}
use Rattle.pg_interval.proofs.PartTexts.{abs_small}
use Rattle.pg_interval.proofs.NormalFacts.{IsSized}
use Rattle.pg_interval.proofs.PostgresReads.{minus_length, decimal_length, after_hours_length}

pub wider : (z : ℤ) → mag z < 2 ^ 31 → mag z < 2 ^ 63
wider z h = omega arith

one_sign : (b : Bool) → length (sign_of b) ≤ 1
one_sign true = lit≤ tt
one_sign false = lit≤ tt

date_length : (n : IntervalNorm) → IsSized n → length (year_month_text n) ≤ 41
unfolding year_month_text
date_length n size =
    let y : length (decimal (unsigned_abs n.years)) ≤ 20 =
    decimal_length (unsigned_abs n.years) (abs_small n.years (wider n.years size.years)) in
    let m : length (decimal (unsigned_abs n.months)) ≤ 20 =
    decimal_length (unsigned_abs n.months) (abs_small n.months (wider n.months size.months)) in
    omega (arith, length-append (digits_of n.years) (45 ∷ digits_of n.months))

time_length : (n : IntervalNorm) → IsSized n → length (sql_time_text n) ≤ 71
unfolding sql_time_text
time_length n size =
    let h : length (decimal (unsigned_abs n.hours)) ≤ 20 = decimal_length (unsigned_abs n.hours) (abs_small n.hours size.hours) in
    let r : length (after_hours n) ≤ 51 = after_hours_length n size in
    omega (arith, length-append (digits_of n.hours) (after_hours n))

day_time_length : (n : IntervalNorm) → IsSized n → length (day_time_text n) ≤ 100
unfolding day_time_text
day_time_length n size =
    let t : length (sql_time_text n) ≤ 71 = time_length n size in
    let d : length (decimal (unsigned_abs n.days)) ≤ 20 =
    decimal_length (unsigned_abs n.days) (abs_small n.days (wider n.days size.days)) in
    let a : length (minus_if (is_time_negative n)) ≤ 1 = minus_length (is_time_negative n) in
    let b : length (minus_if (is_negative n.days)) ≤ 1 = minus_length (is_negative n.days) in
    elim (is_zero n.days) as (λ z. length (if z then minus_if (is_time_negative n) ++ sql_time_text n
    else minus_if (is_negative n.days) ++ digits_of n.days ++ 32 ∷ sql_time_text n) ≤ 100) [
      | true ↦ omega (arith, length-append (minus_if (is_time_negative n)) (sql_time_text n))
      | false ↦ omega (
        arith,
        length-append (minus_if (is_negative n.days) ++ digits_of n.days) (32 ∷ sql_time_text n),
        length-append (minus_if (is_negative n.days)) (digits_of n.days),
      )
    ]

signed_length : (n : IntervalNorm) → IsSized n → length (signed_text n) ≤ 200
unfolding signed_text signed_days_text
signed_length n size =
    let t : length (sql_time_text n) ≤ 71 = time_length n size in
    let y : length (year_month_text n) ≤ 41 = date_length n size in
    let d : length (decimal (unsigned_abs n.days)) ≤ 20 =
    decimal_length (unsigned_abs n.days) (abs_small n.days (wider n.days size.days)) in
    let a : length (sign_of (is_year_month_negative n)) ≤ 1 = one_sign (is_year_month_negative n) in
    let b : length (sign_of (is_negative n.days)) ≤ 1 = one_sign (is_negative n.days) in
    let c : length (sign_of (is_time_negative n)) ≤ 1 = one_sign (is_time_negative n) in
    let ym = sign_of (is_year_month_negative n) ++ year_month_text n in
    let dd = sign_of (is_negative n.days) ++ digits_of n.days in
    omega (
      arith,
      length-append (ym ++ 32 ∷ dd ++ 32 ∷ sign_of (is_time_negative n)) (sql_time_text n),
      length-append (ym ++ 32 ∷ dd) (32 ∷ sign_of (is_time_negative n)),
      length-append ym (32 ∷ dd),
      length-append (sign_of (is_year_month_negative n)) (year_month_text n),
      length-append (sign_of (is_negative n.days)) (digits_of n.days),
    )

pub fields_length : (n : IntervalNorm) → IsSized n → length (fields_text n) ≤ 4096
unfolding fields_text
fields_length n size =
    let y : length (year_month_text n) ≤ 41 = date_length n size in
    let a : length (minus_if (is_year_month_negative n)) ≤ 1 = minus_length (is_year_month_negative n) in
    let t : length (day_time_text n) ≤ 100 = day_time_length n size in
    let s : length (signed_text n) ≤ 200 = signed_length n size in
    elim (is_zero n.days && is_time_zero n) as (λ b. length (if b then minus_if (is_year_month_negative n) ++ year_month_text n
    else (if is_year_month_zero n && not (are_opposite n) then day_time_text n else signed_text n)) ≤ 4096) [
      | true ↦ omega (arith, length-append (minus_if (is_year_month_negative n)) (year_month_text n))
      | false ↦ elim (is_year_month_zero n && not (are_opposite n)) as (λ c. length (if c then day_time_text n else signed_text n)
          ≤ 4096) [ true ↦ omega arith | false ↦ omega arith ]
    ]
