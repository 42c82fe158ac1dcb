-- What the style sql_standard prints stands for the interval.
use Rattle.std.proofs.Common.{◌≡◌, ℕ, ◌+◌, ◌^◌, ◌<◌, Bool, true, false, not, ◌&&◌, ◌||◌, List, [], ◌∷◌, ◌++◌, length, take, drop, ap, ◌∙◌, sym, refl, subst, arith, lit<, Some, None, Ok, Err, inl, inr, ℤ, pos, negsuc, ◌+ℤ◌, ◌*ℤ◌, ◌≤ℤ◌}
use mathlib.Core.List.{append_assoc, append-nil}
use Rattle.std.specs.Prelude.{if◌then◌else◌, unsigned_abs, codes, decimal, nat_le, bytes_eq, int_div, int_rem}
use Rattle.std.specs.List.{list_any, list_all, slice_split, before_first, after_first, position_or_len}
use Rattle.std.specs.Int.{is_negative, is_positive}
use Rattle.std.specs.Str.Parse.{digits_value}
use Rattle.std.proofs.lemmas.Int.{ints}
use Rattle.std.proofs.lemmas.List.Folds.{list_any-append}
use Rattle.std.proofs.Math.Seq.{take-append_seam, drop-append-add}
use Rattle.std.proofs.lemmas.Slice.Eq.{bytes_eq-Decides}
use Rattle.std.proofs.Math.Bool.{or-true}
use Rattle.pg_interval.specs.Cell.{IsInterval}
use Rattle.pg_interval.specs.Texts.{◌>>=◌, is_whitespace, is_digit, is_sign, is_point, is_colon, is_minus, is_empty, are_digits, begins, without_sign, tokens}
use Rattle.pg_interval.specs.Decimals.{Decimal, TimeUnit, Year, Month, Day, Hour, Minute, Second, number_of, with_sign, worth, whole_part, rounded}
use Rattle.pg_interval.specs.Pairs.{Pair, pair, total_of, sum_of, nothing, fits_field}
use Rattle.pg_interval.specs.SqlText.{field_pair, fraction_pair, is_field, fields, year_month_pairs, day_pairs, second_pairs, clock_pairs, sql_time_pairs, pairs_of_sql_tokens, sql_pairs}
use Rattle.pg_interval.specs.Reading.{reading, of_shape, out_of_range, SqlStandard}
use Rattle.pg_interval.specs.Printed.{minus_if, sign_of, digits_of, is_zero, is_all_zero, is_time_zero, is_year_month_zero, is_time_negative, is_time_positive, is_year_month_negative, are_opposite, two_digits, two_digits_of, six_digits, fraction_of, after_hours, year_month_text, sql_time_text, day_time_text, signed_days_text, signed_text, fields_text, sql_text, printed}
use Rattle.pg_interval.specs.NormalForm.{normal_form, exact_total, HaveOneSign}
use Rattle.pg_interval.specs.declared.pg_interval.Interval.{Interval}
use Rattle.pg_interval.specs.declared.interval_norm.IntervalNorm.{IntervalNorm}
use Rattle.interval_errors.specs.declared.Reason.TheVariants.{TooLong}
use Rattle.interval_errors.specs.declared.ParseError.{ParseError}
use Rattle.interval_errors.specs.declared.ParseError.TheVariants.{InvalidInterval, ParseIntErr}
use Rattle.interval_errors.specs.declared.IntError.TheVariants.{InvalidDigit}
use Rattle.pg_interval.proofs.DigitTexts.{none_of_digits, digit_no_space, digit_no_colon, digit_no_point, digit_no_sign, digit_no_minus, all_digits, filled_digits, digits_decimal, value_decimal, digits_two, value_two, split_none, split_at, tokens_append, tokens_whole, not_longer, and_left, and_right, or_none_left, or_none_right}
use Rattle.pg_interval.proofs.PartTexts.{whole_number, abs_small, unit_worth, worth_whole, fits_by_mag, whole_worth, with_sign_is, zero_sign, nothing_more}
use Rattle.pg_interval.proofs.TimeTexts.{six_are_digits, six_value, rounded_six, time_cut}
use Rattle.pg_interval.proofs.PrintedLemmas.{zero_is_zero, time_zero_fields}
use Rattle.pg_interval.proofs.NormalFacts.{IsSized, HasTimeSign, normal_sizes, normal_time_sign, same_interval, above, below, not_below, fields_sum}
use Rattle.pg_interval.proofs.PairSums.{judged_interval, time_sum}
use Rattle.pg_interval.proofs.PostgresReads.{zero_interval, after_hours_no_space}
use Rattle.pg_interval.proofs.SqlLengths.{wider, fields_length}

-- ---- fields

six_length : (n : ℕ) → length (six_digits n) ≡ 6
unfolding six_digits
six_length n = refl

test_false : (b : Bool) → (b ≡ true → ⊥) → b ≡ false
test_false true h = absurd (h refl)
test_false false h = refl

true_is_not : true ≡ false → ⊥
true_is_not h = cc

pub digits_field : (ds : List ℕ) → are_digits ds ≡ true → is_field ds ≡ true
digits_field [] h = refl
digits_field (d ∷ ds) h = ap not (digit_no_sign d (and_left (is_digit d) (list_all is_digit ds) (all_digits (d ∷ ds) h)))

pub digits_number : (minus : Bool) (u : TimeUnit) (ds : List ℕ) → are_digits ds ≡ true
    → field_pair minus u ds ≡ pair u (whole_number minus (digits_value 10 ds))
digits_number minus u [] h = cc
digits_number minus u (d ∷ ds) h = rw (all_digits (d ∷ ds) h) refl

-- a sign that is printed: none, `-` or `+`
pub data Sign : Type 0 where
  none : Sign
  minus_sign : Sign
  plus_sign : Sign

unfoldable pub sign_text : Sign → List ℕ
sign_text none = []
sign_text minus_sign = 45 ∷ []
sign_text plus_sign = 43 ∷ []

unfoldable pub is_minus_sign : Sign → Bool
is_minus_sign none = false
is_minus_sign minus_sign = true
is_minus_sign plus_sign = false

-- what begins with digits has the sign before it, and is the text without it
pub sign_before : (s : Sign) (ds xs : List ℕ) → are_digits ds ≡ true
    → (begins is_minus (sign_text s ++ (ds ++ xs)) ≡ is_minus_sign s) × (without_sign (sign_text s ++ (ds ++ xs)) ≡ ds ++ xs)
unfolding sign_text is_minus_sign
sign_before none [] xs h = cc
sign_before none (d ∷ ds) xs h =
    let digit = and_left (is_digit d) (list_all is_digit ds) (all_digits (d ∷ ds) h) in
    (digit_no_minus d digit, ap (λ b. if b then ds ++ xs else d ∷ (ds ++ xs)) (digit_no_sign d digit))
sign_before minus_sign ds xs h = (refl, refl)
sign_before plus_sign ds xs h = (refl, refl)

unfoldable pub has_sign : Sign → Bool
has_sign none = false
has_sign minus_sign = true
has_sign plus_sign = true

pub begins_sign : (s : Sign) (ds xs : List ℕ) → are_digits ds ≡ true → begins is_sign (sign_text s ++ (ds ++ xs)) ≡ has_sign s
unfolding sign_text has_sign
begins_sign none [] xs h = cc
begins_sign none (d ∷ ds) xs h = digit_no_sign d (and_left (is_digit d) (list_all is_digit ds) (all_digits (d ∷ ds) h))
begins_sign minus_sign ds xs h = refl
begins_sign plus_sign ds xs h = refl

pub sign_bare : (q : ℕ → Bool) (s : Sign) (xs : List ℕ) → q 45 ≡ false → q 43 ≡ false → list_any q xs ≡ false
    → list_any q (sign_text s ++ xs) ≡ false
unfolding sign_text
sign_bare q none xs h k e = e
sign_bare q minus_sign xs h k e = rw h e
sign_bare q plus_sign xs h k e = rw k e

pub digits_bare : (q : ℕ → Bool) (apart : (c : ℕ) → is_digit c ≡ true → q c ≡ false) (ds : List ℕ) → are_digits ds ≡ true
    → list_any q ds ≡ false
digits_bare q apart ds h = none_of_digits q apart ds (all_digits ds h)

pub append_bare : (q : ℕ → Bool) (xs ys : List ℕ) → list_any q xs ≡ false → list_any q ys ≡ false → list_any q (xs ++ ys) ≡ false
append_bare q xs ys h k = list_any-append q xs ys ∙ (rw (h, k) refl)

pub filled_after : (xs ys : List ℕ) → is_empty ys ≡ false → is_empty (xs ++ ys) ≡ false
filled_after [] ys h = h
filled_after (x ∷ xs) ys h = refl

pub filled_before : (xs ys : List ℕ) → is_empty xs ≡ false → is_empty (xs ++ ys) ≡ false
filled_before [] ys h = cc
filled_before (x ∷ xs) ys h = refl

-- ---- year and month

place_of : (q : ℕ → Bool) (xs : List ℕ) (y : ℕ) (ys : List ℕ) → list_any q xs ≡ false → q y ≡ true
    → position_or_len q (xs ++ y ∷ ys) ≡ length xs
place_of q [] y ys h k = rw k refl
place_of q (x ∷ xs) y ys h k = rw (
  or_none_left (q x) (list_any q xs) h,
  place_of q xs y ys (or_none_right (q x) (list_any q xs) h) k,
) (omega arith)

before_is : (q : ℕ → Bool) (xs : List ℕ) (y : ℕ) (ys : List ℕ) → list_any q xs ≡ false → q y ≡ true → before_first q (xs ++ y ∷ ys) ≡ xs
before_is q xs y ys h k = ap (λ p. take p (xs ++ y ∷ ys)) (place_of q xs y ys h k) ∙ take-append_seam xs (y ∷ ys)

after_is : (q : ℕ → Bool) (xs : List ℕ) (y : ℕ) (ys : List ℕ) → list_any q xs ≡ false → q y ≡ true → after_first q (xs ++ y ∷ ys) ≡ ys
after_is q xs y ys h k = ap (λ p. drop (p + 1) (xs ++ y ∷ ys)) (place_of q xs y ys h k) ∙ drop-append-add xs (y ∷ ys) 1

-- the numbers of years and months
pub date_list : Bool → IntervalNorm → List Pair
date_list minus n = pair Year (whole_number minus (unsigned_abs n.years)) ∷ pair Month (whole_number minus (unsigned_abs n.months)) ∷ []

number_of_decimal : (minus : Bool) (u : TimeUnit) (k : ℕ) → k < 2 ^ 64 → field_pair minus u (decimal k) ≡ pair u (whole_number minus k)
number_of_decimal minus u k small = digits_number minus u (decimal k) (digits_decimal k small)
    ∙ ap (λ w. pair u (whole_number minus w)) (value_decimal k small)

pub fields_read : (minus : Bool) (y m : List ℕ) → are_digits y ≡ true → are_digits m ≡ true
    → fields minus (y ++ 45 ∷ m) ≡ Some (field_pair minus Year y ∷ field_pair minus Month m ∷ [])
fields_read minus y m hy hm =
    let bare : list_any is_minus y ≡ false = digits_bare is_minus digit_no_minus y hy in
    let some : list_any is_minus (y ++ 45 ∷ m) ≡ true = list_any-append is_minus y (45 ∷ m) ∙ or-true (list_any is_minus y) in
    ap (λ b. if b && is_field (before_first is_minus (y ++ 45 ∷ m))
    && is_field (after_first is_minus (y ++ 45 ∷ m)) then Some (field_pair minus Year (before_first is_minus (y ++ 45 ∷ m))
    ∷ field_pair minus Month (after_first is_minus (y ++ 45 ∷ m)) ∷ []) else None) some
    ∙ ap (λ f. if is_field f && is_field (after_first is_minus (y ++ 45 ∷ m)) then Some (field_pair minus Year f
    ∷ field_pair minus Month (after_first is_minus (y ++ 45 ∷ m)) ∷ []) else None) (before_is is_minus y 45 m bare refl)
    ∙ ap (λ f. if is_field y && is_field f then Some (field_pair minus Year y ∷ field_pair minus Month f ∷ [])
    else None) (after_is is_minus y 45 m bare refl)
    ∙ ap (λ b. if b && is_field m then Some (field_pair minus Year y ∷ field_pair minus Month m ∷ []) else None) (digits_field y hy)
    ∙ ap (λ b. if b then Some (field_pair minus Year y ∷ field_pair minus Month m ∷ []) else None) (digits_field m hm)

date_read : (s : Sign) (n : IntervalNorm) → IsSized n
    → year_month_pairs (sign_text s ++ year_month_text n) ≡ Some (date_list (is_minus_sign s) n)
unfolding year_month_text date_list
date_read s n size =
    let y = digits_of n.years in
    let m = digits_of n.months in
    let years : unsigned_abs n.years < 2 ^ 64 = abs_small n.years (wider n.years size.years) in
    let months : unsigned_abs n.months < 2 ^ 64 = abs_small n.months (wider n.months size.months) in
    let cut = sign_before s y (45 ∷ m) (digits_decimal (unsigned_abs n.years) years) in
    ap (λ b. fields b (without_sign (sign_text s ++ (y ++ 45 ∷ m)))) cut.0
    ∙ ap (fields (is_minus_sign s)) cut.1
    ∙ fields_read (is_minus_sign s) y m (digits_decimal (unsigned_abs n.years) years) (digits_decimal (unsigned_abs n.months) months)
    ∙ ap (λ p. Some (p ∷ field_pair (is_minus_sign s) Month m ∷ [])) (number_of_decimal (is_minus_sign s) Year (unsigned_abs n.years) years)
    ∙ ap (λ p. Some (pair Year (whole_number (is_minus_sign s) (unsigned_abs n.years)) ∷ p ∷ []))
    (number_of_decimal (is_minus_sign s) Month (unsigned_abs n.months) months)

-- ---- days

pub day_list : Bool → IntervalNorm → List Pair
day_list minus n = pair Day (whole_number minus (unsigned_abs n.days)) ∷ []

day_read : (s : Sign) (n : IntervalNorm) → IsSized n → day_pairs (sign_text s ++ digits_of n.days) ≡ Some (day_list (is_minus_sign s) n)
unfolding day_list
day_read s n size =
    let d = digits_of n.days in
    let days : unsigned_abs n.days < 2 ^ 64 = abs_small n.days (wider n.days size.days) in
    let ds = digits_decimal (unsigned_abs n.days) days in
    let cut = sign_before s d [] ds in
    ap (λ t. day_pairs (sign_text s ++ t)) (sym (append-nil d))
    ∙ ap (λ b. if is_field (without_sign (sign_text s ++ (d ++ []))) then Some (field_pair b Day (without_sign (sign_text s ++ (d ++ [])))
    ∷ []) else None) cut.0
    ∙ ap (λ t. if is_field t then Some (field_pair (is_minus_sign s) Day t ∷ []) else None) (cut.1 ∙ append-nil d)
    ∙ ap (λ b. if b then Some (field_pair (is_minus_sign s) Day d ∷ []) else None) (digits_field d ds)
    ∙ ap (λ p. Some (p ∷ [])) (number_of_decimal (is_minus_sign s) Day (unsigned_abs n.days) days)

-- ---- the time

abbrev pub fraction_number : Bool → ℕ → Decimal
fraction_number minus us = record { negative = minus; whole = 0; fraction = us; places = 6 }

unfoldable pub second_list : Bool → IntervalNorm → List Pair
second_list minus n = pair Second (whole_number minus (unsigned_abs n.seconds)) ∷ (if is_zero n.microseconds then []
    else pair Second (fraction_number minus (unsigned_abs n.microseconds)) ∷ [])

unfoldable pub time_list : Bool → IntervalNorm → List Pair
time_list minus n = pair Hour (whole_number minus (unsigned_abs n.hours)) ∷ pair Minute (whole_number minus (unsigned_abs n.minutes))
    ∷ second_list minus n

two_number : (minus : Bool) (u : TimeUnit) (k : ℕ) → k < 2 ^ 64 → field_pair minus u (two_digits_of k) ≡ pair u (whole_number minus k)
two_number minus u k small = digits_number minus u (two_digits_of k) (digits_two k small)
    ∙ ap (λ w. pair u (whole_number minus w)) (value_two k small)

fraction_read : (minus : Bool) (us : ℕ) → us < 1000000 → fraction_pair minus (six_digits us) ≡ pair Second (fraction_number minus us)
fraction_read minus us small =
    ap (λ b. record {
      number = if b then Ok (number_of minus [] (six_digits us)) else Err (ParseIntErr InvalidDigit);
      unit = Second;
    }) (six_are_digits us)
    ∙ ap (λ f. pair Second (record { negative = minus; whole = 0; fraction = f; places = length (six_digits us) })) (six_value us small)
    ∙ ap (λ p. pair Second (record { negative = minus; whole = 0; fraction = us; places = p })) (six_length us)

seconds_read : (minus : Bool) (n : IntervalNorm) → IsSized n
    → second_pairs minus (slice_split is_point (two_digits n.seconds ++ fraction_of n.microseconds)) ≡ Some (second_list minus n)
unfolding second_list fraction_of
seconds_read minus n size =
    let s = two_digits n.seconds in
    let us = unsigned_abs n.microseconds in
    let small : unsigned_abs n.seconds < 2 ^ 64 = abs_small n.seconds size.seconds in
    let ds = digits_two (unsigned_abs n.seconds) small in
    elim (is_zero n.microseconds) as (λ b. second_pairs minus (slice_split is_point (s ++ (if b then [] else 46 ∷ six_digits us)))
    ≡ Some (pair Second (whole_number minus (unsigned_abs n.seconds)) ∷ (if b then []
    else pair Second (fraction_number minus us) ∷ []))) [
      | true ↦
          ap (λ t. second_pairs minus (slice_split is_point t)) (append-nil s)
          ∙ ap (second_pairs minus) (split_none is_point s (digits_bare is_point digit_no_point s ds))
          ∙ ap (λ b. if b then Some (field_pair minus Second s ∷ []) else None) (digits_field s ds)
          ∙ ap (λ p. Some (p ∷ [])) (two_number minus Second (unsigned_abs n.seconds) small)
      | false ↦
          ap (second_pairs minus) (split_at is_point s 46 (six_digits us) (digits_bare is_point digit_no_point s ds) refl
          ∙ ap (λ ps. s ∷ ps) (split_none is_point (six_digits us)
          (none_of_digits is_point digit_no_point (six_digits us) (six_are_digits us))))
          ∙ ap (λ b. if b && nat_le (length (six_digits us))
          6 then Some (field_pair minus Second s ∷ fraction_pair minus (six_digits us) ∷ []) else None) (digits_field s ds)
          ∙ ap (λ k. if nat_le k 6 then Some (field_pair minus Second s ∷ fraction_pair minus (six_digits us) ∷ [])
          else None) (six_length us)
          ∙ ap (λ p. Some (p ∷ fraction_pair minus (six_digits us) ∷ [])) (two_number minus Second (unsigned_abs n.seconds) small)
          ∙ ap (λ p. Some (pair Second (whole_number minus (unsigned_abs n.seconds)) ∷ p ∷ [])) (fraction_read minus us size.microseconds)
    ]

time_read : (minus : Bool) (s : Sign) (n : IntervalNorm) → IsSized n
    → sql_time_pairs minus (sign_text s ++ sql_time_text n) ≡ Some (time_list minus n)
unfolding sql_time_text time_list
time_read minus s n size =
    let h = digits_of n.hours in
    let m = two_digits n.minutes in
    let hours : unsigned_abs n.hours < 2 ^ 64 = abs_small n.hours size.hours in
    let minutes : unsigned_abs n.minutes < 2 ^ 64 = abs_small n.minutes size.minutes in
    let hs = digits_decimal (unsigned_abs n.hours) hours in
    let cut = sign_before s h (after_hours n) hs in
    ap (λ t. clock_pairs minus (slice_split is_colon t)) cut.1
    ∙ ap (clock_pairs minus) (time_cut h n (all_digits h hs) minutes (abs_small n.seconds size.seconds))
    ∙ ap (λ b. if b && is_field m then (second_pairs minus (slice_split is_point (two_digits n.seconds ++ fraction_of n.microseconds))
    >>= λ ps. Some (field_pair minus Hour h ∷ field_pair minus Minute m ∷ ps)) else None) (digits_field h hs)
    ∙ ap (λ b. if b then (second_pairs minus (slice_split is_point (two_digits n.seconds ++ fraction_of n.microseconds))
    >>= λ ps. Some (field_pair minus Hour h ∷ field_pair minus Minute m ∷ ps))
    else None) (digits_field m (digits_two (unsigned_abs n.minutes) minutes))
    ∙ ap (λ o. o >>= λ ps. Some (field_pair minus Hour h ∷ field_pair minus Minute m ∷ ps)) (seconds_read minus n size)
    ∙ ap (λ p. Some (p ∷ field_pair minus Minute m ∷ second_list minus n)) (number_of_decimal minus Hour (unsigned_abs n.hours) hours)
    ∙ ap (λ p. Some (pair Hour (whole_number minus (unsigned_abs n.hours)) ∷ p ∷ second_list minus n))
    (two_number minus Minute (unsigned_abs n.minutes) minutes)

-- ---- tokens

time_bare : (s : Sign) (n : IntervalNorm) → IsSized n → list_any is_whitespace (sign_text s ++ sql_time_text n) ≡ false
unfolding sql_time_text
time_bare s n size = sign_bare is_whitespace s (digits_of n.hours ++ after_hours n) refl refl
    (append_bare is_whitespace (digits_of n.hours) (after_hours n)
    (digits_bare is_whitespace digit_no_space (digits_of n.hours) (digits_decimal (unsigned_abs n.hours) (abs_small n.hours size.hours)))
    (after_hours_no_space n size))

time_filled : (s : Sign) (n : IntervalNorm) → is_empty (sign_text s ++ sql_time_text n) ≡ false
unfolding sql_time_text after_hours
time_filled s n = filled_after (sign_text s) (digits_of n.hours ++ after_hours n) (filled_after (digits_of n.hours) (after_hours n) refl)

time_colon : (s : Sign) (n : IntervalNorm) → list_any is_colon (sign_text s ++ sql_time_text n) ≡ true
unfolding sql_time_text after_hours
time_colon s n = list_any-append is_colon (sign_text s) (digits_of n.hours ++ after_hours n)
    ∙ ap (λ b. list_any is_colon (sign_text s) || b) (list_any-append is_colon (digits_of n.hours) (after_hours n)
    ∙ or-true (list_any is_colon (digits_of n.hours))) ∙ or-true (list_any is_colon (sign_text s))

date_bare : (q : ℕ → Bool) (apart : (c : ℕ) → is_digit c ≡ true → q c ≡ false) (s : Sign) (n : IntervalNorm) → q 45 ≡ false → q 43 ≡ false
    → IsSized n → list_any q (sign_text s ++ year_month_text n) ≡ false
unfolding year_month_text
date_bare q apart s n h k size = sign_bare q s (digits_of n.years ++ 45 ∷ digits_of n.months) h k
    (append_bare q (digits_of n.years) (45 ∷ digits_of n.months)
    (digits_bare q apart (digits_of n.years) (digits_decimal (unsigned_abs n.years) (abs_small n.years (wider n.years size.years))))
    (rw h (digits_bare q apart (digits_of n.months)
    (digits_decimal (unsigned_abs n.months) (abs_small n.months (wider n.months size.months))))))

date_filled : (s : Sign) (n : IntervalNorm) → is_empty (sign_text s ++ year_month_text n) ≡ false
unfolding year_month_text
date_filled s n = filled_after (sign_text s) (digits_of n.years ++ 45 ∷ digits_of n.months)
    (filled_after (digits_of n.years) (45 ∷ digits_of n.months) refl)

date_minus : (s : Sign) (n : IntervalNorm) → list_any is_minus (sign_text s ++ year_month_text n) ≡ true
unfolding year_month_text
date_minus s n = list_any-append is_minus (sign_text s) (digits_of n.years ++ 45 ∷ digits_of n.months)
    ∙ ap (λ b. list_any is_minus (sign_text s) || b) (list_any-append is_minus (digits_of n.years) (45 ∷ digits_of n.months)
    ∙ or-true (list_any is_minus (digits_of n.years))) ∙ or-true (list_any is_minus (sign_text s))

day_bare : (s : Sign) (n : IntervalNorm) → IsSized n → list_any is_whitespace (sign_text s ++ digits_of n.days) ≡ false
day_bare s n size = sign_bare is_whitespace s (digits_of n.days) refl refl
    (digits_bare is_whitespace digit_no_space (digits_of n.days)
    (digits_decimal (unsigned_abs n.days) (abs_small n.days (wider n.days size.days))))

day_filled : (s : Sign) (n : IntervalNorm) → IsSized n → is_empty (sign_text s ++ digits_of n.days) ≡ false
day_filled s n size = filled_after (sign_text s) (digits_of n.days)
    (filled_digits (digits_of n.days) (digits_decimal (unsigned_abs n.days) (abs_small n.days (wider n.days size.days))))

-- a text with such a byte isn't `0`
pub not_zero_text : (q : ℕ → Bool) (text : List ℕ) → q 48 ≡ false → list_any q text ≡ true → bytes_eq text (codes "0") ≡ false
not_zero_text q text h k = test_false (bytes_eq text (codes "0")) (λ t. let same : text
    ≡ codes "0" = (bytes_eq-Decides text (codes "0")).0 t in true_is_not (sym k ∙ ap (list_any q) same ∙ (rw h refl)))

-- ---- signs of the date

pub record HasDateSign (minus : Bool) (n : IntervalNorm) : Type 0 where
  pub years : with_sign minus (unsigned_abs n.years) ≡ n.years
  pub months : with_sign minus (unsigned_abs n.months) ≡ n.months

date_above : (n : IntervalNorm) → is_year_month_negative n ≡ false → HasDateSign false n
date_above n h = record {
  years = above n.years (or_none_left (is_negative n.years) (is_negative n.months) h);
  months = above n.months (or_none_right (is_negative n.years) (is_negative n.months) h);
}

one_date_sign : (z : ℤ) → HaveOneSign (int_div z (pos 12) ∷ int_rem z (pos 12) ∷ [])
one_date_sign (pos a) = inl (search (arith, ints))
one_date_sign (negsuc a) = inr (search (arith, ints))

date_sign_by : (n : IntervalNorm) (b : Bool) → is_year_month_negative n ≡ b → HaveOneSign (n.years ∷ n.months ∷ []) → HasDateSign b n
date_sign_by n false e h = date_above n e
date_sign_by n true e (inr h) = record { years = below n.years (h 0 (pos 1) (lit< tt)); months = below n.months (h 1 (pos 1) (lit< tt)) }
date_sign_by n true e (inl h) = let no : is_year_month_negative n ≡ false =
    rw (not_below n.years (h 0 (pos 1) (lit< tt)), not_below n.months (h 1 (pos 1) (lit< tt))) refl in cc

date_sign : (i : Interval) → HasDateSign (is_year_month_negative (normal_form i)) (normal_form i)
unfolding normal_form
date_sign i = date_sign_by (normal_form i) _ refl (one_date_sign i.months)

-- ---- sums

no_more : (i : Interval) → sum_of i nothing ≡ i
no_more i = same_interval _ _ (omega (arith, ints)) (omega (arith, ints)) (omega (arith, ints))

whole_total : (range : ParseError) (u : TimeUnit) (minus : Bool) (z : ℤ) (ps : List Pair) (i : Interval)
    → with_sign minus (unsigned_abs z) ≡ z → fits_field u z ≡ true → total_of range ps ≡ Ok i
    → total_of range (pair u (whole_number minus (unsigned_abs z)) ∷ ps) ≡ Ok (sum_of (unit_worth u z) i)
whole_total range u minus z ps i sign fits h =
    whole_worth range u (whole_number minus (unsigned_abs z)) ps i (ap (fits_field u) sign ∙ fits) h
    ∙ ap (λ w. Ok (sum_of w i)) (worth_whole u minus (unsigned_abs z) ∙ ap (unit_worth u) sign)

zero_left : (z : ℤ) → pos 0 +ℤ z ≡ z
zero_left z = omega (arith, ints)

fraction_worth : (minus : Bool) (z : ℤ) → with_sign minus (unsigned_abs z) ≡ z
    → worth Second (fraction_number minus (unsigned_abs z)) ≡ record { months = pos 0; days = pos 0; microseconds = z }
fraction_worth minus z sign =
    ap (λ w. record {
      months = pos 0;
      days = pos 0;
      microseconds = pos 1000000 *ℤ w +ℤ rounded 1000000 (fraction_number minus (unsigned_abs z));
    }) (zero_sign minus)
    ∙ ap (λ r. record {
      months = pos 0;
      days = pos 0;
      microseconds = pos 0 +ℤ r;
    }) (ap (with_sign minus) (rounded_six (unsigned_abs z)) ∙ sign)
    ∙ ap (λ u. record { months = pos 0; days = pos 0; microseconds = u }) (zero_left z)

fraction_fits : (minus : Bool) (us : ℕ) → fits_field Second (whole_part (fraction_number minus us)) ≡ true
fraction_fits true us = refl
fraction_fits false us = refl

fraction_total_by : (range : ParseError) (minus : Bool) (z : ℤ) (b : Bool) → is_zero z ≡ b → with_sign minus (unsigned_abs z) ≡ z
    → total_of range (if b then [] else pair Second (fraction_number minus (unsigned_abs z)) ∷ [])
    ≡ Ok (record { months = pos 0; days = pos 0; microseconds = z })
fraction_total_by range minus z true e sign = ap (λ u. Ok (record {
  months = pos 0;
  days = pos 0;
  microseconds = u;
})) (sym (zero_is_zero z e))
fraction_total_by range minus z false e sign = whole_worth range Second (fraction_number minus (unsigned_abs z)) [] nothing
    (fraction_fits minus (unsigned_abs z)) refl ∙ ap Ok (no_more (worth Second (fraction_number minus (unsigned_abs z)))
    ∙ fraction_worth minus z sign)

time_total : (range : ParseError) (minus : Bool) (n : IntervalNorm) → HasTimeSign minus n → IsSized n
    → total_of range (time_list minus n) ≡ Ok (time_sum n)
unfolding time_list second_list
time_total range minus n sign size =
    let rest = if is_zero n.microseconds then [] else pair Second (fraction_number minus (unsigned_abs n.microseconds)) ∷ [] in
    let seconds = pair Second (whole_number minus (unsigned_abs n.seconds)) ∷ rest in
    whole_total range Hour minus n.hours (pair Minute (whole_number minus (unsigned_abs n.minutes)) ∷ seconds) _ sign.hours
    (fits_by_mag 63 n.hours size.hours)
    (whole_total range Minute minus n.minutes seconds _ sign.minutes (fits_by_mag 63 n.minutes size.minutes)
    (whole_total range Second minus n.seconds rest _ sign.seconds (fits_by_mag 63 n.seconds size.seconds)
    (fraction_total_by range minus n.microseconds (is_zero n.microseconds) refl sign.microseconds)))

no_time : (n : IntervalNorm) → is_time_zero n ≡ true → time_sum n ≡ nothing
no_time n h = let f = time_zero_fields n h in rw (
  f 0 (pos 1) (lit< tt),
  f 1 (pos 1) (lit< tt),
  f 2 (pos 1) (lit< tt),
  f 3 (pos 1) (lit< tt),
) refl

day_sign : (n : IntervalNorm) → with_sign (is_negative n.days) (unsigned_abs n.days) ≡ n.days
day_sign n = with_sign_is n.days

-- all three, in front of one another
three_total : (range : ParseError) (n : IntervalNorm) (a b c : Bool) → HasDateSign a n → with_sign b (unsigned_abs n.days) ≡ n.days
    → HasTimeSign c n → IsSized n → total_of range (date_list a n ++ (day_list b n ++ time_list c n)) ≡ Ok (exact_total n)
unfolding date_list day_list
three_total range n a b c date day time size =
    let d = pair Day (whole_number b (unsigned_abs n.days)) ∷ time_list c n in
    whole_total range Year a n.years (pair Month (whole_number a (unsigned_abs n.months)) ∷ d) _ date.years
    (fits_by_mag 31 n.years size.years)
    (whole_total range Month a n.months d _ date.months (fits_by_mag 31 n.months size.months)
    (whole_total range Day b n.days (time_list c n) _ day (fits_by_mag 31 n.days size.days) (time_total range c n time size)))
    ∙ ap Ok (fields_sum n)

-- years and months alone
date_total : (range : ParseError) (n : IntervalNorm) (a : Bool) → HasDateSign a n → is_zero n.days ≡ true → is_time_zero n ≡ true
    → IsSized n → total_of range (date_list a n) ≡ Ok (exact_total n)
unfolding date_list
date_total range n a date day time size =
    whole_total range Year a n.years (pair Month (whole_number a (unsigned_abs n.months)) ∷ []) _ date.years
    (fits_by_mag 31 n.years size.years) (whole_total range Month a n.months [] nothing date.months (fits_by_mag 31 n.months size.months)
    refl)
    ∙ ap (λ i. Ok (sum_of (unit_worth Year n.years) (sum_of (unit_worth Month n.months) i)))
    (sym (ap (λ d. sum_of (unit_worth Day d) (time_sum n)) (zero_is_zero n.days day)
    ∙ ap (sum_of (unit_worth Day (pos 0))) (no_time n time)))
    ∙ ap Ok (fields_sum n)

no_date : (n : IntervalNorm) (i : Interval) → is_year_month_zero n ≡ true
    → i ≡ sum_of (unit_worth Year n.years) (sum_of (unit_worth Month n.months) i)
unfolding is_year_month_zero
no_date n i h = sym (rw (
  zero_is_zero n.years (and_left _ _ h),
  zero_is_zero n.months (and_right (is_zero n.years) _ h),
) (nothing_more (sum_of nothing i) ∙ nothing_more i))

-- days and time alone
day_time_total : (range : ParseError) (n : IntervalNorm) (b c : Bool) → is_year_month_zero n ≡ true
    → with_sign b (unsigned_abs n.days) ≡ n.days → HasTimeSign c n → IsSized n
    → total_of range (day_list b n ++ time_list c n) ≡ Ok (exact_total n)
unfolding day_list
day_time_total range n b c date day time size =
    whole_total range Day b n.days (time_list c n) _ day (fits_by_mag 31 n.days size.days) (time_total range c n time size)
    ∙ ap Ok (no_date n (sum_of (unit_worth Day n.days) (time_sum n)) date ∙ fields_sum n)

only_time_total : (range : ParseError) (n : IntervalNorm) (c : Bool) → is_year_month_zero n ≡ true → is_zero n.days ≡ true → HasTimeSign c n
    → IsSized n → total_of range (time_list c n) ≡ Ok (exact_total n)
only_time_total range n c date day time size =
    time_total range c n time size
    ∙ ap Ok (sym (ap (λ d. sum_of (unit_worth Day d) (time_sum n)) (zero_is_zero n.days day) ∙ nothing_more (time_sum n)))
    ∙ ap Ok (no_date n (sum_of (unit_worth Day n.days) (time_sum n)) date ∙ fields_sum n)

-- ---- the four forms

minus_sign_if : Bool → Sign
minus_sign_if b = if b then minus_sign else none

either_sign : Bool → Sign
either_sign b = if b then minus_sign else plus_sign

minus_is : (b : Bool) → sign_text (minus_sign_if b) ≡ minus_if b
unfolding sign_text minus_sign_if
minus_is true = refl
minus_is false = refl

either_is : (b : Bool) → sign_text (either_sign b) ≡ sign_of b
unfolding sign_text either_sign
either_is true = refl
either_is false = refl

minus_tells : (b : Bool) → is_minus_sign (minus_sign_if b) ≡ b
unfolding is_minus_sign minus_sign_if
minus_tells true = refl
minus_tells false = refl

either_tells : (b : Bool) → is_minus_sign (either_sign b) ≡ b
unfolding is_minus_sign either_sign
either_tells true = refl
either_tells false = refl

date_form : (s : Sign) (n : IntervalNorm) → IsSized n → sql_pairs (sign_text s ++ year_month_text n) ≡ Some (date_list (is_minus_sign s) n)
unfolding sql_pairs
date_form s n size =
    let text = sign_text s ++ year_month_text n in
    ap pairs_of_sql_tokens (tokens_whole text (date_filled s n) (date_bare is_whitespace digit_no_space s n refl refl size))
    ∙ ap (λ b. if b then Some [] else (if list_any is_colon text then sql_time_pairs (begins is_minus text) text
    else year_month_pairs text)) (not_zero_text is_minus text refl (date_minus s n))
    ∙ ap (λ b. if b then sql_time_pairs (begins is_minus text) text
    else year_month_pairs text) (date_bare is_colon digit_no_colon s n refl refl size)
    ∙ date_read s n size

time_sign_is : (s : Sign) (n : IntervalNorm) → IsSized n → begins is_minus (sign_text s ++ sql_time_text n) ≡ is_minus_sign s
unfolding sql_time_text
time_sign_is s n size = (sign_before s (digits_of n.hours) (after_hours n)
    (digits_decimal (unsigned_abs n.hours) (abs_small n.hours size.hours))).0

time_form : (s : Sign) (n : IntervalNorm) → IsSized n → sql_pairs (sign_text s ++ sql_time_text n) ≡ Some (time_list (is_minus_sign s) n)
unfolding sql_pairs
time_form s n size =
    let text = sign_text s ++ sql_time_text n in
    ap pairs_of_sql_tokens (tokens_whole text (time_filled s n) (time_bare s n size))
    ∙ ap (λ b. if b then Some [] else (if list_any is_colon text then sql_time_pairs (begins is_minus text) text
    else year_month_pairs text)) (not_zero_text is_colon text refl (time_colon s n))
    ∙ ap (λ b. if b then sql_time_pairs (begins is_minus text) text else year_month_pairs text) (time_colon s n)
    ∙ ap (λ b. sql_time_pairs b text) (time_sign_is s n size)
    ∙ time_read (is_minus_sign s) s n size

day_sign_is : (s : Sign) (n : IntervalNorm) → IsSized n → begins is_minus (sign_text s ++ digits_of n.days) ≡ is_minus_sign s
day_sign_is s n size =
    ap (λ t. begins is_minus (sign_text s ++ t)) (sym (append-nil (digits_of n.days)))
    ∙ (sign_before s (digits_of n.days) [] (digits_decimal (unsigned_abs n.days) (abs_small n.days (wider n.days size.days)))).0

no_time_sign : (n : IntervalNorm) → IsSized n → begins is_sign (sql_time_text n) ≡ false
unfolding sql_time_text sign_text has_sign
no_time_sign n size = begins_sign none (digits_of n.hours) (after_hours n)
    (digits_decimal (unsigned_abs n.hours) (abs_small n.hours size.hours))

plain_time : (minus : Bool) (n : IntervalNorm) → IsSized n → sql_time_pairs minus (sql_time_text n) ≡ Some (time_list minus n)
unfolding sign_text
plain_time minus n size = time_read minus none n size

day_time_form : (s : Sign) (n : IntervalNorm) → IsSized n
    → sql_pairs ((sign_text s ++ digits_of n.days) ++ 32 ∷ sql_time_text n)
    ≡ Some (day_list (is_minus_sign s) n ++ time_list (is_minus_sign s) n)
unfolding sql_pairs sign_text
day_time_form s n size =
    let a = sign_text s ++ digits_of n.days in
    let b = sql_time_text n in
    ap pairs_of_sql_tokens (tokens_append a b ∙ ap (λ ts. ts ++ tokens b) (tokens_whole a (day_filled s n size) (day_bare s n size))
    ∙ ap (λ ts. a ∷ ts) (tokens_whole b (time_filled none n) (time_bare none n size)))
    ∙ ap (λ o. o >>= λ day. sql_time_pairs (begins is_minus (if begins is_sign b then b else a)) b
    >>= λ time. Some (day ++ time)) (day_read s n size)
    ∙ ap (λ t. sql_time_pairs (begins is_minus (if t then b else a)) b
    >>= λ time. Some (day_list (is_minus_sign s) n ++ time)) (no_time_sign n size)
    ∙ ap (λ m. sql_time_pairs m b >>= λ time. Some (day_list (is_minus_sign s) n ++ time)) (day_sign_is s n size)
    ∙ ap (λ o. o >>= λ time. Some (day_list (is_minus_sign s) n ++ time)) (plain_time (is_minus_sign s) n size)

three_form : (r s t : Sign) (n : IntervalNorm) → IsSized n
    → sql_pairs ((sign_text r ++ year_month_text n) ++ 32 ∷ ((sign_text s ++ digits_of n.days) ++ 32 ∷ (sign_text t ++ sql_time_text n)))
    ≡ Some (date_list (is_minus_sign r) n ++ (day_list (is_minus_sign s) n ++ time_list (is_minus_sign t) n))
unfolding sql_pairs
three_form r s t n size =
    let a = sign_text r ++ year_month_text n in
    let b = sign_text s ++ digits_of n.days in
    let c = sign_text t ++ sql_time_text n in
    ap pairs_of_sql_tokens
    (tokens_append a (b ++ 32 ∷ c)
    ∙ ap (λ ts. ts ++ tokens (b ++ 32 ∷ c)) (tokens_whole a (date_filled r n) (date_bare is_whitespace digit_no_space r n refl refl size))
    ∙ ap (λ ts. a ∷ ts) (tokens_append b c ∙ ap (λ ts. ts ++ tokens c) (tokens_whole b (day_filled s n size) (day_bare s n size))
    ∙ ap (λ ts. b ∷ ts) (tokens_whole c (time_filled t n) (time_bare t n size))))
    ∙ ap (λ o. o >>= λ year_month. day_pairs b >>= λ day. sql_time_pairs (begins is_minus c) c
    >>= λ time. Some (year_month ++ day ++ time)) (date_read r n size)
    ∙ ap (λ o. o >>= λ day. sql_time_pairs (begins is_minus c) c
    >>= λ time. Some (date_list (is_minus_sign r) n ++ day ++ time)) (day_read s n size)
    ∙ ap (λ m. sql_time_pairs m c >>= λ time. Some (date_list (is_minus_sign r) n ++ day_list (is_minus_sign s) n ++ time))
    (time_sign_is t n size)
    ∙ ap (λ o. o >>= λ time. Some (date_list (is_minus_sign r) n ++ day_list (is_minus_sign s) n ++ time))
    (time_read (is_minus_sign t) t n size)
    ∙ ap Some (append_assoc (date_list (is_minus_sign r) n) (day_list (is_minus_sign s) n) (time_list (is_minus_sign t) n))

-- ---- the whole text

-- the text is these pairs, which add up to the fields, and it is short
pub record IsSqlRead (text : List ℕ) (n : IntervalNorm) : Type 0 where
  pub all : List Pair
  pub read : sql_pairs text ≡ Some all
  pub total : total_of (out_of_range SqlStandard) all ≡ Ok (exact_total n)

retold : (text other : List ℕ) (n : IntervalNorm) → text ≡ other → IsSqlRead text n → IsSqlRead other n
retold text other n e r = subst (λ t. IsSqlRead t n) e r

date_case : (n : IntervalNorm) → HasDateSign (is_year_month_negative n) n → is_zero n.days ≡ true → is_time_zero n ≡ true → IsSized n
    → IsSqlRead (minus_if (is_year_month_negative n) ++ year_month_text n) n
date_case n date day time size =
    let s = minus_sign_if (is_year_month_negative n) in
    retold (sign_text s ++ year_month_text n) _ n (ap (λ t. t ++ year_month_text n) (minus_is (is_year_month_negative n))) (record {
      all = date_list (is_minus_sign s) n;
      read = date_form s n size;
      total = date_total (out_of_range SqlStandard) n (is_minus_sign s)
          (subst (λ b. HasDateSign b n) (sym (minus_tells (is_year_month_negative n))) date) day time size;
    })

three_text : (x y s d t c : List ℕ) → (x ++ y) ++ 32 ∷ ((s ++ d) ++ 32 ∷ (t ++ c)) ≡ (((x ++ y) ++ 32 ∷ (s ++ d)) ++ 32 ∷ t) ++ c
three_text x y s d t c = simp append_assoc

three_case : (n : IntervalNorm) → HasDateSign (is_year_month_negative n) n → HasTimeSign (is_time_negative n) n → IsSized n
    → IsSqlRead (signed_text n) n
unfolding signed_text signed_days_text
three_case n date time size =
    let r = either_sign (is_year_month_negative n) in
    let s = either_sign (is_negative n.days) in
    let t = either_sign (is_time_negative n) in
    retold ((sign_text r ++ year_month_text n) ++ 32 ∷ ((sign_text s ++ digits_of n.days) ++ 32 ∷ (sign_text t ++ sql_time_text n))) _ n
    (rw (
      either_is (is_year_month_negative n),
      either_is (is_negative n.days),
      either_is (is_time_negative n),
    ) (three_text (sign_of (is_year_month_negative n)) (year_month_text n)
    (sign_of (is_negative n.days)) (digits_of n.days) (sign_of (is_time_negative n)) (sql_time_text n)))
    (record {
      all = date_list (is_minus_sign r) n ++ (day_list (is_minus_sign s) n ++ time_list (is_minus_sign t) n);
      read = three_form r s t n size;
      total = three_total (out_of_range SqlStandard) n (is_minus_sign r) (is_minus_sign s) (is_minus_sign t)
          (subst (λ b. HasDateSign b n) (sym (either_tells (is_year_month_negative n))) date)
          (subst (λ b. with_sign b (unsigned_abs n.days) ≡ n.days) (sym (either_tells (is_negative n.days))) (day_sign n))
          (subst (λ b. HasTimeSign b n) (sym (either_tells (is_time_negative n))) time) size;
    })

only_time_case : (n : IntervalNorm) → is_year_month_zero n ≡ true → is_zero n.days ≡ true → HasTimeSign (is_time_negative n) n → IsSized n
    → IsSqlRead (minus_if (is_time_negative n) ++ sql_time_text n) n
only_time_case n date day time size =
    let s = minus_sign_if (is_time_negative n) in
    retold (sign_text s ++ sql_time_text n) _ n (ap (λ t. t ++ sql_time_text n) (minus_is (is_time_negative n))) (record {
      all = time_list (is_minus_sign s) n;
      read = time_form s n size;
      total = only_time_total (out_of_range SqlStandard) n (is_minus_sign s) date day
          (subst (λ b. HasTimeSign b n) (sym (minus_tells (is_time_negative n))) time) size;
    })

days_case : (n : IntervalNorm) → is_year_month_zero n ≡ true → HasTimeSign (is_negative n.days) n → IsSized n
    → IsSqlRead (minus_if (is_negative n.days) ++ digits_of n.days ++ 32 ∷ sql_time_text n) n
days_case n date time size =
    let s = minus_sign_if (is_negative n.days) in
    retold ((sign_text s ++ digits_of n.days) ++ 32 ∷ sql_time_text n) _ n
    (ap (λ t. (t ++ digits_of n.days) ++ 32 ∷ sql_time_text n) (minus_is (is_negative n.days))) (record {
      all = day_list (is_minus_sign s) n ++ time_list (is_minus_sign s) n;
      read = day_time_form s n size;
      total = day_time_total (out_of_range SqlStandard) n (is_minus_sign s) (is_minus_sign s) date
          (subst (λ b. with_sign b (unsigned_abs n.days) ≡ n.days) (sym (minus_tells (is_negative n.days))) (day_sign n))
          (subst (λ b. HasTimeSign b n) (sym (minus_tells (is_negative n.days))) time) size;
    })

not_positive : (z : ℤ) → is_positive z ≡ false → z ≤ℤ pos 0
not_positive z h = grind (arith, ints)

positive_is : (z : ℤ) → is_zero z ≡ false → is_negative z ≡ false → is_positive z ≡ true
unfolding is_zero
positive_is z h k = grind (arith, ints)

and_none : (a b : Bool) → a ≡ true → (a && b) ≡ false → b ≡ false
and_none true b h k = k
and_none false b h k = cc

none_positive : (n : IntervalNorm) → is_time_positive n ≡ false → HasTimeSign true n
none_positive n h =
    let hms = or_none_left ((is_positive n.hours || is_positive n.minutes) || is_positive n.seconds) (is_positive n.microseconds) h in
    let hm = or_none_left (is_positive n.hours || is_positive n.minutes) (is_positive n.seconds) hms in
    record {
      hours = below n.hours (not_positive n.hours (or_none_left (is_positive n.hours) (is_positive n.minutes) hm));
      minutes = below n.minutes (not_positive n.minutes (or_none_right (is_positive n.hours) (is_positive n.minutes) hm));
      seconds = below n.seconds (not_positive n.seconds
          (or_none_right (is_positive n.hours || is_positive n.minutes) (is_positive n.seconds) hms));
      microseconds = below n.microseconds (not_positive n.microseconds
          (or_none_right ((is_positive n.hours || is_positive n.minutes) || is_positive n.seconds) (is_positive n.microseconds) h));
    }

-- where no two signs are opposite, the time has the sign of the days
days_sign_by : (n : IntervalNorm) (b : Bool) → is_negative n.days ≡ b → is_zero n.days ≡ false → are_opposite n ≡ false
    → HasTimeSign (is_time_negative n) n → HasTimeSign b n
days_sign_by n true e some apart time = none_positive n
    (and_none (is_negative n.days) (is_time_positive n) e
    (or_none_left (is_negative n.days && is_time_positive n) (is_positive n.days && is_time_negative n) apart))
days_sign_by n false e some apart time = subst (λ b. HasTimeSign b n)
    (and_none (is_positive n.days) (is_time_negative n) (positive_is n.days some e)
    (or_none_right (is_negative n.days && is_time_positive n) (is_positive n.days && is_time_negative n) apart)) time

not_is : (b : Bool) → not b ≡ true → b ≡ false
not_is true h = cc
not_is false h = refl

day_time_by : (n : IntervalNorm) (b : Bool) → is_zero n.days ≡ b → is_year_month_zero n ≡ true → are_opposite n ≡ false
    → HasTimeSign (is_time_negative n) n → IsSized n
    → IsSqlRead (if b then minus_if (is_time_negative n) ++ sql_time_text n
    else minus_if (is_negative n.days) ++ digits_of n.days ++ 32 ∷ sql_time_text n) n
day_time_by n true e date apart time size = only_time_case n date e time size
day_time_by n false e date apart time size = days_case n date (days_sign_by n (is_negative n.days) refl e apart time) size

day_time_case : (n : IntervalNorm) → is_year_month_zero n ≡ true → are_opposite n ≡ false → HasTimeSign (is_time_negative n) n → IsSized n
    → IsSqlRead (day_time_text n) n
unfolding day_time_text
day_time_case n date apart time size = day_time_by n (is_zero n.days) refl date apart time size

second_choice : (n : IntervalNorm) (c : Bool) → (is_year_month_zero n && not (are_opposite n)) ≡ c
    → HasDateSign (is_year_month_negative n) n → HasTimeSign (is_time_negative n) n → IsSized n
    → IsSqlRead (if c then day_time_text n else signed_text n) n
second_choice n true e date time size = day_time_case n (and_left (is_year_month_zero n) (not (are_opposite n)) e)
    (not_is (are_opposite n) (and_right (is_year_month_zero n) (not (are_opposite n)) e)) time size
second_choice n false e date time size = three_case n date time size

first_choice : (n : IntervalNorm) (b : Bool) → (is_zero n.days && is_time_zero n) ≡ b → HasDateSign (is_year_month_negative n) n
    → HasTimeSign (is_time_negative n) n → IsSized n
    → IsSqlRead (if b then minus_if (is_year_month_negative n) ++ year_month_text n
    else (if is_year_month_zero n && not (are_opposite n) then day_time_text n else signed_text n)) n
first_choice n true e date time size = date_case n date (and_left (is_zero n.days) (is_time_zero n) e)
    (and_right (is_zero n.days) (is_time_zero n) e) size
first_choice n false e date time size = second_choice n (is_year_month_zero n && not (are_opposite n)) refl date time size

all_read : (n : IntervalNorm) → HasDateSign (is_year_month_negative n) n → HasTimeSign (is_time_negative n) n → IsSized n
    → IsSqlRead (fields_text n) n
unfolding fields_text
all_read n date time size = first_choice n (is_zero n.days && is_time_zero n) refl date time size

sql_zero : reading SqlStandard (codes "0") ≡ Ok nothing
unfolding reading sql_pairs
sql_zero = refl

sql_by : (i : Interval) (b : Bool) → is_all_zero (normal_form i) ≡ b → IsInterval i
    → reading SqlStandard (if b then codes "0" else fields_text (normal_form i)) ≡ Ok i
unfolding reading
sql_by i true e within = sql_zero ∙ ap Ok (sym (zero_interval i e))
sql_by i false e within =
    let n = normal_form i in
    let size = normal_sizes i within in
    let text = fields_text n in
    let r = all_read n (date_sign i) (normal_time_sign i) size in
    ap (λ b. if b then Err (InvalidInterval TooLong)
    else of_shape SqlStandard (sql_pairs text)) (not_longer 4096 (length text) (fields_length n size))
    ∙ ap (of_shape SqlStandard) r.read
    ∙ judged_interval (out_of_range SqlStandard) r.all i within r.total

-- what is printed stands for the interval
pub sql_stands : (i : Interval) → IsInterval i → reading SqlStandard (printed SqlStandard i) ≡ Ok i
unfolding sql_text
sql_stands i within = sql_by i (is_all_zero (normal_form i)) refl within
