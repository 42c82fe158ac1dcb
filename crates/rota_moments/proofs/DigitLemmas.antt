-- The digits of numbers, two at a time.
use Rattle.std.proofs.Common.{◌≡◌, ℕ, ◌+◌, ◌-◌, ◌*◌, ◌/◌, ◌%◌, ◌<◌, ◌≤◌, Bool, true, false, ◌&&◌, [], ◌∷◌, ◌++◌, refl, ap, ◌∙◌, arith, Option, Some, None}
use Rattle.std.specs.Prelude.{◌==◌, if◌then◌else◌}
use Rattle.std.specs.Char.{is_ascii_digit}
use Rattle.pg_interval.specs.Printed.{last_digits}
use Rattle.rota_moments.specs.Fields.{pair_of}

pub two_digits : (n : ℕ) → n < 100 → last_digits 2 n ≡ (48 + n / 10) ∷ (48 + n % 10) ∷ []
two_digits n h =
    let a : n / 10 % 10 ≡ n / 10 = omega arith in
    let b : n / 1 % 10 ≡ n % 10 = omega arith in
    rw (a, b) refl

pub four_by_pairs : (n : ℕ) → n < 10000 → last_digits 4 n ≡ last_digits 2 (n / 100) ++ last_digits 2 (n % 100)
four_by_pairs n h =
    let a : n / 100 / 10 % 10 ≡ n / 1000 % 10 = omega arith in
    let b : n / 100 / 1 % 10 ≡ n / 100 % 10 = omega arith in
    let c : n % 100 / 10 % 10 ≡ n / 10 % 10 = omega arith in
    let d : n % 100 / 1 % 10 ≡ n / 1 % 10 = omega arith in
    rw (a, b, c, d) refl

pub six_by_pairs : (n : ℕ) → n < 1000000
    → last_digits 6 n ≡ last_digits 2 (n / 10000) ++ last_digits 2 (n / 100 % 100) ++ last_digits 2 (n % 100)
six_by_pairs n h =
    let a : n / 10000 / 10 % 10 ≡ n / 100000 % 10 = omega arith in
    let b : n / 10000 / 1 % 10 ≡ n / 10000 % 10 = omega arith in
    let c : n / 100 % 100 / 10 % 10 ≡ n / 1000 % 10 = omega arith in
    let d : n / 100 % 100 / 1 % 10 ≡ n / 100 % 10 = omega arith in
    let e : n % 100 / 10 % 10 ≡ n / 10 % 10 = omega arith in
    let f : n % 100 / 1 % 10 ≡ n / 1 % 10 = omega arith in
    rw (a, b, c, d, e, f) refl

-- ---- digits that are read

digit_is : (n : ℕ) → is_ascii_digit (48 + n % 10) ≡ true
digit_is n = grind arith

pub pair_is : (a b : ℕ) → pair_of (48 + a % 10) (48 + b % 10) ≡ Some (10 * (a % 10) + b % 10)
pair_is a b =
    let x : 48 + a % 10 - 48 ≡ a % 10 = omega arith in
    let y : 48 + b % 10 - 48 ≡ b % 10 = omega arith in
    rw (digit_is a, digit_is b, x, y) refl

pub pair_read : (n : ℕ) → n < 100 → pair_of (48 + n / 10 % 10) (48 + n / 1 % 10) ≡ Some n
pair_read n h = pair_is (n / 10) (n / 1) ∙ ap Some (omega arith)

pub century_read : (n : ℕ) → n < 10000 → pair_of (48 + n / 1000 % 10) (48 + n / 100 % 10) ≡ Some (n / 100)
century_read n h = pair_is (n / 1000) (n / 100) ∙ ap Some (omega arith)

pub year_read : (n : ℕ) → pair_of (48 + n / 10 % 10) (48 + n / 1 % 10) ≡ Some (n % 100)
year_read n = pair_is (n / 10) (n / 1) ∙ ap Some (omega arith)

-- the two digits whose number was read
pub record ArePair (a b n : ℕ) : Type 0 where
  pub tens : a ≡ 48 + n / 10 % 10
  pub ones : b ≡ 48 + n / 1 % 10
  pub small : n < 100

pub some_same : {A : Type 0} (x y : A) → Some x ≡ Some y → x ≡ y
some_same x y e = cc

-- what a test gave passed it
pub if_some : {A : Type 0} (b : Bool) (o : Option A) (y : A) → (if b then o else None) ≡ Some y → (b ≡ true) × (o ≡ Some y)
if_some true o y e = (refl, e)
if_some false o y e = absurd (cc)

digit_low : (a : ℕ) → is_ascii_digit a ≡ true → 48 ≤ a
digit_low a e = grind arith

digit_high : (a : ℕ) → is_ascii_digit a ≡ true → a ≤ 57
digit_high a e = grind arith

both_true : (a b : Bool) → (a && b) ≡ true → (a ≡ true) × (b ≡ true)
both_true true b e = (refl, e)
both_true false b e = absurd (cc)

pub pair_from : (a b n : ℕ) → pair_of a b ≡ Some n → ArePair a b n
pair_from a b n e =
    let passed = if_some (is_ascii_digit a && is_ascii_digit b) (Some (10 * (a - 48) + (b - 48))) n e in
    let tests = both_true _ _ passed.0 in
    let value : 10 * (a - 48) + (b - 48) ≡ n = some_same _ _ passed.1 in
    let low_a = digit_low a tests.0 in
    let high_a = digit_high a tests.0 in
    let low_b = digit_low b tests.1 in
    let high_b = digit_high b tests.1 in
    record { tens = omega arith; ones = omega arith; small = omega arith }

-- the marks between the numbers
pub record AreMarks (a b c d e : ℕ) : Type 0 where
  pub p : a ≡ 45
  pub q : b ≡ 45
  pub t : c ≡ 84
  pub u : d ≡ 58
  pub v : e ≡ 58

same_if : (a b : ℕ) → (a == b) ≡ true → a ≡ b
same_if a b e = grind arith

pub marks_from : (p q t u v : ℕ) → ((p == 45) && (q == 45) && (t == 84) && (u == 58) && (v == 58)) ≡ true → AreMarks p q t u v
marks_from p q t u v e =
    let last = both_true _ _ e in
    let fourth = both_true _ _ last.0 in
    let third = both_true _ _ fourth.0 in
    let second = both_true _ _ third.0 in
    record {
      p = same_if p 45 second.0;
      q = same_if q 45 second.1;
      t = same_if t 84 third.1;
      u = same_if u 58 fourth.1;
      v = same_if v 58 last.1;
    }
