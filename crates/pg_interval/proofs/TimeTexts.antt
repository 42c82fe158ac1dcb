-- The time of a printed text, and what it is read as.
use Rattle.std.proofs.Common.{◌≡◌, ℕ, zero, suc, ◌+◌, ◌*◌, ◌/◌, ◌^◌, ◌<◌, ◌%◌, Bool, true, false, ◌&&◌, List, [], ◌∷◌, ◌++◌, length, take, drop, ap, ◌∙◌, sym, refl, arith, lit<, Some, None, ℤ, pos, ◌+ℤ◌, ◌*ℤ◌}
use mathlib.Core.List.{append_assoc, append-nil}
use Rattle.std.specs.Prelude.{if◌then◌else◌, unsigned_abs}
use Rattle.std.specs.List.{list_all, list_any, slice_split, take_while}
use Rattle.std.specs.Char.{digit_value}
use Rattle.std.specs.Str.Parse.{digits_value, digits_value_after}
use Rattle.std.proofs.lemmas.List.Folds.{list_any-append}
use Rattle.std.proofs.Math.Bool.{or-true}
use Rattle.std.proofs.Math.Arith.{mod-mul}
use Rattle.std.proofs.Math.Nat.{pow-succ'}
use Rattle.pg_interval.specs.Texts.{◌>>=◌, is_digit, is_sign, is_point, is_colon, are_digits}
use Rattle.pg_interval.specs.Decimals.{Decimal, Second, number_of, with_sign, worth}
use Rattle.pg_interval.specs.Pairs.{Pair, sum_of}
use Rattle.pg_interval.specs.PostgresText.{Time, token_of, time_of, time_pairs, seconds_of, or_other, those_not_zero, token_split, is_number_byte}
use Rattle.pg_interval.specs.Printed.{minus_if, is_zero, two_digits, two_digits_of, six_digits, last_digits, fraction_of, after_hours}
use Rattle.pg_interval.specs.declared.interval_norm.IntervalNorm.{IntervalNorm}
use Rattle.pg_interval.proofs.DigitTexts.{none_of_digits, digit_no_colon, digit_no_point, digit_no_minus, digit_no_sign, all_digits, digits_two, value_two, split_at, split_none, and_left, digit_glyph_is}
use Rattle.pg_interval.proofs.PrintedLemmas.{zero_is_zero}
use Rattle.pg_interval.proofs.PartTexts.{whole_number, zero_sign, unit_worth}

-- ---- the six digits of the microseconds

digit_rest : (n : ℕ) → n % 10 < 10
digit_rest n = omega arith

pub last_are_digits : (k n : ℕ) → list_all is_digit (last_digits k n) ≡ true
last_are_digits zero n = refl
last_are_digits (suc k) n = rw (digit_glyph_is (n / 10 ^ k % 10) (digit_rest (n / 10 ^ k)), last_are_digits k n) refl

value_of_glyph : (d : ℕ) → d < 10 → digit_value (48 + d) ≡ d
value_of_glyph d h = grind arith

ten_pow : (k : ℕ) → 0 < 10 ^ k
ten_pow zero = lit< tt
ten_pow (suc k) = rw pow-succ' (let h : 0 < 10 ^ k = ten_pow k in omega arith)

product_out : (acc d c r : ℕ) → (acc * 10 + d) * c + r ≡ acc * (10 * c) + (d * c + r)
product_out acc d c r = omega arith

last_value_after : (k acc n : ℕ) → digits_value_after 10 acc (last_digits k n) ≡ acc * 10 ^ k + n % 10 ^ k
last_value_after zero acc n = omega arith
last_value_after (suc k) acc n =
    ap (λ v. digits_value_after 10 (acc * 10 + v) (last_digits k n)) (value_of_glyph (n / 10 ^ k % 10) (digit_rest (n / 10 ^ k)))
    ∙ last_value_after k (acc * 10 + n / 10 ^ k % 10) n
    ∙ product_out acc (n / 10 ^ k % 10) (10 ^ k) (n % 10 ^ k)
    ∙ ap (λ r. acc * (10 * 10 ^ k) + r) (sym (mod-mul n {m = 10} {c = 10 ^ k} (lit< tt) (ten_pow k)))
    ∙ ap (λ c. acc * c + n % c) (sym (pow-succ' 10 k))

pub six_value : (n : ℕ) → n < 1000000 → digits_value 10 (six_digits n) ≡ n
unfolding six_digits
six_value n h = last_value_after 6 0 n ∙ omega arith

pub six_are_digits : (n : ℕ) → list_all is_digit (six_digits n) ≡ true
unfolding six_digits
six_are_digits n = last_are_digits 6 n

six_length : (n : ℕ) → length (six_digits n) ≡ 6
unfolding six_digits
six_length n = refl

six_taken : (n : ℕ) → take 6 (six_digits n) ≡ six_digits n
unfolding six_digits
six_taken n = refl

-- ---- the cuts of a time

fraction_no_colon : (z : ℤ) → list_any is_colon (fraction_of z) ≡ false
unfolding fraction_of
fraction_no_colon z = elim (is_zero z) as (λ b. list_any is_colon (if b then [] else 46 ∷ six_digits (unsigned_abs z)) ≡ false) [
  | true ↦ refl
  | false ↦ none_of_digits is_colon digit_no_colon (six_digits (unsigned_abs z)) (six_are_digits (unsigned_abs z))
]

pub time_cut : (ds : List ℕ) (n : IntervalNorm) → list_all is_digit ds ≡ true → unsigned_abs n.minutes < 2 ^ 64
    → unsigned_abs n.seconds < 2 ^ 64 → slice_split is_colon (ds ++ after_hours n)
    ≡ ds ∷ two_digits n.minutes ∷ (two_digits n.seconds ++ fraction_of n.microseconds) ∷ []
unfolding after_hours
time_cut ds n h minutes seconds =
    let m = two_digits n.minutes in
    let s = two_digits n.seconds in
    let f = fraction_of n.microseconds in
    split_at is_colon ds 58 ((m ++ 58 ∷ s) ++ f) (none_of_digits is_colon digit_no_colon ds h) refl
    ∙ ap (λ t. ds ∷ slice_split is_colon t) (append_assoc m (58 ∷ s) f)
    ∙ ap (λ ps. ds ∷ ps) (split_at is_colon m 58 (s ++ f)
    (none_of_digits is_colon digit_no_colon m (all_digits m (digits_two (unsigned_abs n.minutes) minutes))) refl)
    ∙ ap (λ ps. ds ∷ m ∷ ps) (split_none is_colon (s ++ f) (list_any-append is_colon s f
    ∙ (rw (none_of_digits is_colon digit_no_colon s (all_digits s (digits_two (unsigned_abs n.seconds) seconds)))
    (fraction_no_colon n.microseconds))))

-- the seconds with their microseconds
unfoldable pub second_decimal : Bool → ℕ → ℤ → Decimal
second_decimal minus s z = if is_zero z then whole_number minus s else record {
  negative = minus;
  whole = s;
  fraction = unsigned_abs z;
  places = 6;
}

pub rounded_six : (n : ℕ) → (2 * 1000000 * n + 10 ^ 6) / (2 * 10 ^ 6) ≡ n
rounded_six n = omega arith

second_worth_by : (minus : Bool) (s : ℕ) (z : ℤ) (b : Bool) → is_zero z ≡ b → with_sign minus (unsigned_abs z) ≡ z
    → worth Second (if b then whole_number minus s else record { negative = minus; whole = s; fraction = unsigned_abs z; places = 6 })
    ≡ sum_of (unit_worth Second (with_sign minus s)) (record { months = pos 0; days = pos 0; microseconds = z })
second_worth_by minus s z true e h = ap (λ r. record {
  months = pos 0;
  days = pos 0;
  microseconds = pos 1000000 *ℤ with_sign minus s +ℤ r;
}) (zero_sign minus ∙ sym (zero_is_zero z e))
second_worth_by minus s z false e h = ap (λ r. record {
  months = pos 0;
  days = pos 0;
  microseconds = pos 1000000 *ℤ with_sign minus s +ℤ r;
}) (ap (with_sign minus) (rounded_six (unsigned_abs z)) ∙ h)

pub second_worth : (minus : Bool) (s : ℕ) (z : ℤ) → with_sign minus (unsigned_abs z) ≡ z
    → worth Second (second_decimal minus s z) ≡ sum_of (unit_worth Second (with_sign minus s)) (record {
      months = pos 0;
      days = pos 0;
      microseconds = z;
    })
unfolding second_decimal
second_worth minus s z h = second_worth_by minus s z (is_zero z) refl h

-- ---- what the time is read as

pub seconds_read : (minus : Bool) (n : ℕ) (z : ℤ) → n < 2 ^ 64 → unsigned_abs z < 1000000
    → seconds_of minus (slice_split is_point (two_digits_of n ++ fraction_of z)) ≡ Some (second_decimal minus n z)
unfolding second_decimal fraction_of
seconds_read minus n z small below =
    elim (is_zero z) as (λ b. seconds_of minus (slice_split is_point (two_digits_of n ++ (if b then []
    else 46 ∷ six_digits (unsigned_abs z)))) ≡ Some (if b then whole_number minus n else record {
      negative = minus;
      whole = n;
      fraction = unsigned_abs z;
      places = 6;
    })) [
      | true ↦
          ap (λ t. seconds_of minus (slice_split is_point t)) (append-nil (two_digits_of n))
          ∙ ap (seconds_of minus) (split_none is_point (two_digits_of n)
          (none_of_digits is_point digit_no_point (two_digits_of n) (all_digits (two_digits_of n) (digits_two n small))))
          ∙ ap (λ b. if b then Some (number_of minus (two_digits_of n) []) else None) (digits_two n small)
          ∙ ap (λ w. Some (whole_number minus w)) (value_two n small)
      | false ↦
          ap (seconds_of minus) (split_at is_point (two_digits_of n) 46 (six_digits (unsigned_abs z))
          (none_of_digits is_point digit_no_point (two_digits_of n) (all_digits (two_digits_of n) (digits_two n small))) refl
          ∙ ap (λ ps. two_digits_of n ∷ ps) (split_none is_point (six_digits (unsigned_abs z))
          (none_of_digits is_point digit_no_point (six_digits (unsigned_abs z)) (six_are_digits (unsigned_abs z)))))
          ∙ ap (λ b. if b && list_all is_digit (six_digits (unsigned_abs z))
          then Some (number_of minus (two_digits_of n) (take 6 (six_digits (unsigned_abs z)))) else None) (digits_two n small)
          ∙ ap (λ b. if b then Some (number_of minus (two_digits_of n) (take 6 (six_digits (unsigned_abs z))))
          else None) (six_are_digits (unsigned_abs z))
          ∙ ap (λ f. Some (number_of minus (two_digits_of n) f)) (six_taken (unsigned_abs z))
          ∙ ap (λ w. Some (record {
            negative = minus;
            whole = w;
            fraction = digits_value 10 (six_digits (unsigned_abs z));
            places = length (six_digits (unsigned_abs z));
          })) (value_two n small)
          ∙ ap (λ f. Some (record {
            negative = minus;
            whole = n;
            fraction = f;
            places = length (six_digits (unsigned_abs z));
          })) (six_value (unsigned_abs z) below)
          ∙ ap (λ p. Some (record { negative = minus; whole = n; fraction = unsigned_abs z; places = p })) (six_length (unsigned_abs z))
    ]

-- after a minus that may be missing, what begins with a digit
time_of_signed : (minus : Bool) (d : ℕ) (ds : List ℕ) → is_digit d ≡ true
    → time_of (minus_if minus ++ (d ∷ ds)) ≡ or_other (time_pairs minus (slice_split is_colon (d ∷ ds)))
time_of_signed true d ds h = refl
time_of_signed false d ds h = ap (λ b. or_other (time_pairs b (slice_split is_colon (if is_sign d then ds else d ∷ ds))))
    (digit_no_minus d h) ∙ ap (λ b. or_other (time_pairs false (slice_split is_colon (if b then ds else d ∷ ds)))) (digit_no_sign d h)

-- the pairs of a time, in front of others
unfoldable pub time_numbers : Bool → IntervalNorm → List Pair
time_numbers minus n = those_not_zero (whole_number minus (unsigned_abs n.hours)) (whole_number minus (unsigned_abs n.minutes))
    (second_decimal minus (unsigned_abs n.seconds) n.microseconds)

time_of_digits : (minus : Bool) (ds : List ℕ) (n : IntervalNorm) → are_digits ds ≡ true
    → time_of (minus_if minus ++ (ds ++ after_hours n)) ≡ or_other (time_pairs minus (slice_split is_colon (ds ++ after_hours n)))
time_of_digits minus [] n h = cc
time_of_digits minus (d ∷ ds) n h = time_of_signed minus d (ds ++ after_hours n)
    (and_left (is_digit d) (list_all is_digit ds) (all_digits (d ∷ ds) h))

after_hours_colon : (n : IntervalNorm) (xs : List ℕ) → list_any is_colon (xs ++ after_hours n) ≡ true
unfolding after_hours
after_hours_colon n xs = list_any-append is_colon xs (after_hours n) ∙ or-true (list_any is_colon xs)

pub time_token : (minus : Bool) (n : IntervalNorm) → unsigned_abs n.hours < 2 ^ 64 → unsigned_abs n.minutes < 2 ^ 64
    → unsigned_abs n.seconds < 2 ^ 64 → unsigned_abs n.microseconds < 1000000
    → token_of (minus_if minus ++ two_digits n.hours ++ after_hours n) ≡ Time (time_numbers minus n)
unfolding time_numbers
time_token minus n hours minutes seconds below =
    let h = two_digits n.hours in
    let m = two_digits n.minutes in
    ap (λ b. if b then time_of (minus_if minus ++ h ++ after_hours n)
    else token_split (take_while is_number_byte (minus_if minus ++ h ++ after_hours n))
    (drop (length (take_while is_number_byte (minus_if minus ++ h ++ after_hours n))) (minus_if minus ++ h ++ after_hours n)))
    (after_hours_colon n (minus_if minus ++ h))
    ∙ ap time_of (append_assoc (minus_if minus) h (after_hours n))
    ∙ time_of_digits minus h n (digits_two (unsigned_abs n.hours) hours)
    ∙ ap (λ ps. or_other (time_pairs minus ps)) (time_cut h n (all_digits h (digits_two (unsigned_abs n.hours) hours)) minutes seconds)
    ∙ ap (λ b. or_other (if b && are_digits m then (seconds_of minus
    (slice_split is_point (two_digits n.seconds ++ fraction_of n.microseconds))
    >>= λ s. Some (those_not_zero (number_of minus h []) (number_of minus m []) s))
    else None)) (digits_two (unsigned_abs n.hours) hours)
    ∙ ap (λ b. or_other (if b then (seconds_of minus (slice_split is_point (two_digits n.seconds ++ fraction_of n.microseconds))
    >>= λ s. Some (those_not_zero (number_of minus h []) (number_of minus m []) s))
    else None)) (digits_two (unsigned_abs n.minutes) minutes)
    ∙ ap (λ o. or_other (o >>= λ s. Some (those_not_zero (number_of minus h []) (number_of minus m []) s)))
    (seconds_read minus (unsigned_abs n.seconds) n.microseconds seconds below)
    ∙ ap (λ w. Time (those_not_zero (whole_number minus w) (number_of minus m [])
    (second_decimal minus (unsigned_abs n.seconds) n.microseconds))) (value_two (unsigned_abs n.hours) hours)
    ∙ ap (λ w. Time (those_not_zero (whole_number minus (unsigned_abs n.hours)) (whole_number minus w)
    (second_decimal minus (unsigned_abs n.seconds) n.microseconds))) (value_two (unsigned_abs n.minutes) minutes)
