-- What the style postgres_verbose prints stands for the interval.
use Rattle.std.proofs.Common.{◌≡◌, ℕ, zero, suc, ◌+◌, ◌*◌, ◌/◌, ◌^◌, ◌<◌, ◌≤◌, Bool, true, false, not, ◌&&◌, ◌||◌, List, [], ◌∷◌, ◌++◌, length, map, ap, ◌∙◌, sym, refl, subst, arith, lit≤, zero-le, Some, None, Ok, Err, ◌⊎◌, inl, inr, ℤ, pos, ◌+ℤ◌, ◌*ℤ◌}
use mathlib.Core.List.{append_assoc, append-nil, map-append}
use Rattle.std.specs.Prelude.{if◌then◌else◌, ◌==◌, unsigned_abs, codes, decimal, bytes_eq}
use Rattle.std.specs.List.{list_any, list_all, flat_map}
use Rattle.std.specs.Int.{is_negative}
use Rattle.std.specs.Int.Signed.{mag}
use Rattle.std.specs.Str.Parse.{digits_value, digits_value_after}
use Rattle.std.specs.Char.{digit_value}
use Rattle.std.proofs.lemmas.Int.{ints}
use Rattle.std.proofs.lemmas.List.Folds.{list_any-append, list_all-append}
use Rattle.std.proofs.lemmas.Bool.{eqb-true}
use Rattle.std.proofs.Math.ListN.{length-append}
use Rattle.std.proofs.Math.Nat.{pow-succ'}
use Rattle.pg_interval.specs.Cell.{IsInterval}
use Rattle.pg_interval.specs.Texts.{◌>>=◌, is_whitespace, is_digit, is_colon, is_empty, are_digits, tokens}
use Rattle.pg_interval.specs.Decimals.{Decimal, TimeUnit, Year, Month, Day, Hour, Minute, Second, with_sign, worth, whole_part, rounded}
use Rattle.pg_interval.specs.Pairs.{Pair, pair, decimal_pair, checked, turned, total_of, sum_of, nothing, fits_above}
use Rattle.pg_interval.specs.PostgresText.{Token, token_of, is_number_byte, pairs_of_tokens, pairs_by_words, each_unit_once, unit_of_verbose_word, verbose_pairs}
use Rattle.pg_interval.specs.Reading.{reading, of_shape, out_of_range, PostgresVerbose}
use Rattle.pg_interval.specs.Printed.{Part, part_of, part_text, word_end, minus_if, digits_of, is_zero, is_all_zero, is_year_month_zero, is_time_zero, is_second_zero, is_second_negative, six_digits, decimals_of, second_digits, second_parts, date_parts, verbose_time_parts, verbose_parts, verbose_part_text, without_last_zeros, is_ago, ago_end, verbose_text, verbose_text_of, printed}
use Rattle.pg_interval.specs.NormalForm.{normal_form, exact_total}
use Rattle.pg_interval.specs.declared.pg_interval.Interval.{Interval}
use Rattle.pg_interval.specs.declared.interval_norm.IntervalNorm.{IntervalNorm}
use Rattle.interval_errors.specs.declared.Reason.TheVariants.{TooLong}
use Rattle.interval_errors.specs.declared.ParseError.{ParseError}
use Rattle.interval_errors.specs.declared.ParseError.TheVariants.{InvalidInterval}
use Rattle.pg_interval.proofs.DigitTexts.{none_of_digits, digit_no_space, digit_no_colon, all_digits, digits_decimal, value_decimal, decimal_point, not_longer, and_left, and_right}
use Rattle.pg_interval.proofs.PartTexts.{Names, IsPartRead, spaced_part, pair_first, number_token, whole_number, number_pairs, number_total, abs_small, unit_worth, decimal_pair_whole, fits_by_mag, whole_worth, zero_sign}
use Rattle.pg_interval.proofs.TimeTexts.{six_value, six_are_digits}
use Rattle.pg_interval.proofs.PrintedLemmas.{zero_is_zero}
use Rattle.pg_interval.proofs.NormalFacts.{IsSized, normal_sizes, normal_time_sign, same_interval}
use Rattle.pg_interval.proofs.PairSums.{date_total, judged_interval, six_once}
use Rattle.pg_interval.proofs.PostgresReads.{zero_interval, decimal_length, part_length}
use Rattle.pg_interval.proofs.IsoReads.{HasSecondSign, second_sign, second_sum}
use Rattle.pg_interval.proofs.VerboseTexts.{EndsWell, ends_after, after_at, verbose_read, spaced_tokens}

-- ---- parts and the pairs that they are read as

-- the sign that is printed
abbrev pub printed_sign : Bool → Bool → Bool
printed_sign ago negative = if ago then not negative else negative

abbrev pub text_of_part : Bool → Part → List ℕ
text_of_part ago p = part_text (printed_sign ago p.negative) p.digits p.word

-- a part's text is read as a pair, begins with no space and ends well
pub record IsRead (ago : Bool) (p : Part) (q : Pair) : Type 0 where
  pub number : List ℕ
  pub tokens_are : IsPartRead unit_of_verbose_word (text_of_part ago p) number q.unit
  pub pair_is : decimal_pair q.unit number ≡ q
  pub first : ℕ
  pub others : List ℕ
  pub begins : text_of_part ago p ≡ first ∷ others
  pub solid : is_whitespace first ≡ false
  pub ends : EndsWell (text_of_part ago p)
  pub short : length (text_of_part ago p) ≤ 60

pub data AreRead (ago : Bool) : List Part → List Pair → Type 0 where
  none : AreRead ago [] []
  more : {p : Part} {q : Pair} {ps : List Part} {qs : List Pair} → IsRead ago p q → AreRead ago ps qs → AreRead ago (p ∷ ps) (q ∷ qs)

read_append : {ago : Bool} {ps rs : List Part} {qs ss : List Pair} → AreRead ago ps qs → AreRead ago rs ss
    → AreRead ago (ps ++ rs) (qs ++ ss)
read_append none s = s
read_append (more h r) s = more h (read_append r s)

tokens_of : Bool → List Part → List Token
tokens_of ago ps = map token_of (flat_map (λ p. tokens (text_of_part ago p)) ps)

pairs_of_read : {ago : Bool} {ps : List Part} {qs : List Pair} → AreRead ago ps qs
    → pairs_of_tokens unit_of_verbose_word (tokens_of ago ps) ≡ Some qs
unfolding tokens_of
pairs_of_read none = refl
pairs_of_read {ago} (more {p} {q} {ps} {qs} h r) =
    ap (pairs_of_tokens unit_of_verbose_word) (map-append token_of (tokens (text_of_part ago p))
    (flat_map (λ p. tokens (text_of_part ago p)) ps)
    ∙ ap (λ ts. ts ++ map token_of (flat_map (λ p. tokens (text_of_part ago p)) ps)) h.tokens_are.read)
    ∙ pair_first unit_of_verbose_word h.number h.tokens_are.word q.unit (map token_of (flat_map (λ p. tokens (text_of_part ago p)) ps)) qs
    h.tokens_are.unit_is (pairs_of_read r)
    ∙ ap (λ p. Some (p ∷ qs)) h.pair_is

parts_end : {ago : Bool} {ps : List Part} {qs : List Pair} (xs : List ℕ) → EndsWell xs → AreRead ago ps qs
    → EndsWell (xs ++ flat_map (λ p. 32 ∷ text_of_part ago p) ps)
parts_end {ago} xs e none = subst EndsWell (sym (append-nil xs)) e
parts_end {ago} xs e (more {p} {q} {ps} h r) = ends_after xs ((32 ∷ text_of_part ago p) ++ flat_map (λ p. 32 ∷ text_of_part ago p) ps)
    (parts_end (32 ∷ text_of_part ago p) (ends_after (32 ∷ []) (text_of_part ago p) h.ends) r)

parts_length : {ago : Bool} {ps : List Part} {qs : List Pair} → AreRead ago ps qs
    → length (flat_map (λ p. 32 ∷ text_of_part ago p) ps) ≤ 61 * length ps
parts_length none = zero-le
parts_length {ago} (more {p} {q} {ps} h r) = let rest : length (flat_map (λ p. 32 ∷ text_of_part ago p) ps) ≤ 61 * length ps =
    parts_length r in let short : length (text_of_part ago p) ≤ 60 = h.short in
    omega (arith, length-append (32 ∷ text_of_part ago p) (flat_map (λ p. 32 ∷ text_of_part ago p) ps))

-- ---- one part

-- what the digits of a part have to be
pub record IsNumberText (digits : List ℕ) : Type 0 where
  pub first : ℕ
  pub others : List ℕ
  pub whole : digits ≡ first ∷ others
  pub digit : is_digit first ≡ true
  pub no_space : list_any is_whitespace digits ≡ false
  pub no_colon : list_any is_colon digits ≡ false
  pub bytes : list_all is_number_byte digits ≡ true
  pub short : length digits ≤ 30

part_begins : (minus : Bool) (d : ℕ) (ds name : List ℕ) → is_digit d ≡ true
    → (first : ℕ) × (others : List ℕ) × (part_text minus (d ∷ ds) name ≡ first ∷ others) × (is_whitespace first ≡ false)
unfolding part_text
part_begins true d ds name h = (45, ((d ∷ ds) ++ 32 ∷ name) ++ word_end (45 ∷ (d ∷ ds)), refl, refl)
part_begins false d ds name h = (d, (ds ++ 32 ∷ name) ++ word_end (d ∷ ds), refl, digit_no_space d h)

digits_begin : (minus : Bool) (digits name : List ℕ) → IsNumberText digits
    → (first : ℕ) × (others : List ℕ) × (part_text minus digits name ≡ first ∷ others) × (is_whitespace first ≡ false)
digits_begin minus digits name t =
    let b = part_begins minus t.first t.others name t.digit in
    (b.0, b.1, ap (λ ds. part_text minus ds name) t.whole ∙ b.2, b.3)

word_end_cases : (number : List ℕ) → (word_end number ≡ []) ⊎ (word_end number ≡ codes "s")
unfolding word_end
word_end_cases number = elim (bytes_eq number (codes "1")) as (λ b. ((if b then [] else codes "s") ≡ [])
    ⊎ ((if b then [] else codes "s") ≡ codes "s")) [ true ↦ inl refl | false ↦ inr refl ]

s_ends : EndsWell (codes "s")
s_ends = record { front = []; last = 115; whole = refl; solid = refl; not_o = λ e. omega arith; not_zero = λ e. omega arith }

word_ends : (xs name e : List ℕ) → (e ≡ []) ⊎ (e ≡ codes "s") → EndsWell name → EndsWell ((xs ++ 32 ∷ name) ++ e)
word_ends xs name e (inl empty) ends = subst (λ w. EndsWell ((xs ++ 32 ∷ name) ++ w)) (sym empty)
    (subst EndsWell (sym (append-nil (xs ++ 32 ∷ name))) (ends_after xs (32 ∷ name) (ends_after (32 ∷ []) name ends)))
word_ends xs name e (inr full) ends = subst (λ w. EndsWell ((xs ++ 32 ∷ name) ++ w)) (sym full)
    (ends_after (xs ++ 32 ∷ name) (codes "s") s_ends)

part_ends : (minus : Bool) (digits name : List ℕ) → EndsWell name → EndsWell (part_text minus digits name)
unfolding part_text
part_ends minus digits name ends = word_ends (minus_if minus ++ digits) name (word_end (minus_if minus ++ digits))
    (word_end_cases (minus_if minus ++ digits)) ends

minus_before : (q : ℕ → Bool) (minus : Bool) (xs : List ℕ) → q 45 ≡ false → list_any q xs ≡ false
    → list_any q (minus_if minus ++ xs) ≡ false
minus_before q true xs h k = rw h k
minus_before q false xs h k = k

minus_number : (minus : Bool) (xs : List ℕ) → list_all is_number_byte xs ≡ true → list_all is_number_byte (minus_if minus ++ xs) ≡ true
minus_number true xs h = h
minus_number false xs h = h

number_filled : (minus : Bool) (digits : List ℕ) → IsNumberText digits → is_empty (minus_if minus ++ digits) ≡ false
number_filled true digits t = refl
number_filled false digits t = ap is_empty t.whole

spaced_number : {u : TimeUnit} {name : List ℕ} (minus : Bool) (digits : List ℕ) → Names unit_of_verbose_word name u → IsNumberText digits
    → IsPartRead unit_of_verbose_word (part_text minus digits name) (minus_if minus ++ digits) u
unfolding part_text
spaced_number minus digits names t = spaced_part (minus_if minus ++ digits) names (number_filled minus digits t)
    (minus_before is_whitespace minus digits refl t.no_space)
    (number_token (minus_if minus ++ digits) (minus_before is_colon minus digits refl t.no_colon) (minus_number minus digits t.bytes))

read_part : {u : TimeUnit} (ago negative : Bool) (digits name : List ℕ) (d : Decimal) → Names unit_of_verbose_word name u → EndsWell name
    → length name ≤ 6 → IsNumberText digits → decimal_pair u (minus_if (printed_sign ago negative) ++ digits) ≡ pair u d
    → IsRead ago (record { negative = negative; digits = digits; word = name }) (pair u d)
read_part {u} ago negative digits name d names ends small t read =
    let minus = printed_sign ago negative in
    let b = digits_begin minus digits name t in
    let l : length (part_text minus digits name) ≤ 39 = part_length minus digits name t.short small in
    record {
      number = minus_if minus ++ digits;
      tokens_are = spaced_number minus digits names t;
      pair_is = read;
      first = b.0;
      others = b.1;
      begins = b.2;
      solid = b.3;
      ends = part_ends minus digits name ends;
      short = omega arith;
    }

-- ---- whole numbers

digit_is_number : (c : ℕ) → is_digit c ≡ true → is_number_byte c ≡ true
digit_is_number c h = rw h refl

pub digits_are_number : (ds : List ℕ) → list_all is_digit ds ≡ true → list_all is_number_byte ds ≡ true
digits_are_number [] h = refl
digits_are_number (d ∷ ds) h = rw (
  digit_is_number d (and_left (is_digit d) (list_all is_digit ds) h),
  digits_are_number ds (and_right (is_digit d) (list_all is_digit ds) h),
) refl

digits_text : (ds : List ℕ) → are_digits ds ≡ true → length ds ≤ 30 → IsNumberText ds
digits_text [] h k = cc
digits_text (d ∷ ds) h k =
    let all = all_digits (d ∷ ds) h in
    record {
      first = d;
      others = ds;
      whole = refl;
      digit = and_left (is_digit d) (list_all is_digit ds) all;
      no_space = none_of_digits is_whitespace digit_no_space (d ∷ ds) all;
      no_colon = none_of_digits is_colon digit_no_colon (d ∷ ds) all;
      bytes = digits_are_number (d ∷ ds) all;
      short = k;
    }

unfoldable pub printed_pairs : Bool → TimeUnit → ℤ → List Pair
printed_pairs ago u z = if is_zero z then [] else pair u (whole_number (printed_sign ago (is_negative z)) (unsigned_abs z)) ∷ []

decimal_text : (n : ℕ) → n < 2 ^ 64 → IsNumberText (decimal n)
decimal_text n small = let short : length (decimal n) ≤ 20 = decimal_length n small in
    digits_text (decimal n) (digits_decimal n small) (omega arith)

number_read : {u : TimeUnit} (ago : Bool) (z : ℤ) (name : List ℕ) → mag z < 2 ^ 63 → Names unit_of_verbose_word name u → EndsWell name
    → length name ≤ 6 → AreRead ago (part_of z name) (printed_pairs ago u z)
unfolding part_of printed_pairs
number_read {u} ago z name small names ends short =
    let wide = abs_small z small in
    elim (is_zero z) as (λ b. AreRead ago (if b then [] else record {
      negative = is_negative z;
      digits = digits_of z;
      word = name;
    } ∷ []) (if b then [] else pair u (whole_number (printed_sign ago (is_negative z)) (unsigned_abs z)) ∷ [])) [
      | true ↦ none
      | false ↦ more (read_part ago (is_negative z) (digits_of z) name (whole_number (printed_sign ago (is_negative z)) (unsigned_abs z))
          names ends short (decimal_text (unsigned_abs z) wide)
          (decimal_pair_whole u (printed_sign ago (is_negative z)) (unsigned_abs z) wide)) none
    ]

-- ---- seconds

strip_digits : (ds : List ℕ) → list_all is_digit ds ≡ true → list_all is_digit (without_last_zeros ds) ≡ true
unfolding without_last_zeros
strip_digits [] h = refl
strip_digits (d ∷ ds) h = elim (list_all (λ c. c == 48) (d ∷ ds)) as (λ b. list_all is_digit (if b then [] else d ∷ without_last_zeros ds)
    ≡ true) [
      | true ↦ refl
      | false ↦ rw (and_left (is_digit d) (list_all is_digit ds) h, strip_digits ds (and_right (is_digit d) (list_all is_digit ds) h)) refl
    ]

strip_length : (ds : List ℕ) → length (without_last_zeros ds) ≤ length ds
unfolding without_last_zeros
strip_length [] = zero-le
strip_length (d ∷ ds) = let rest : length (without_last_zeros ds) ≤ length ds = strip_length ds in
    elim (list_all (λ c. c == 48) (d ∷ ds)) as (λ b. length (if b then [] else d ∷ without_last_zeros ds)
    ≤ length (d ∷ ds)) [ true ↦ zero-le | false ↦ omega arith ]

zeros_step : (acc c : ℕ) → (acc * 10 + 0) * c ≡ acc * (10 * c)
zeros_step acc c = omega arith

zeros_value : (ds : List ℕ) (acc : ℕ) → list_all (λ c. c == 48) ds ≡ true → digits_value_after 10 acc ds ≡ acc * 10 ^ length ds
zeros_value [] acc h = omega arith
zeros_value (d ∷ ds) acc h =
    let zero_digit : d ≡ 48 = eqb-true d 48 (and_left (d == 48) _ h) in
    ap (λ c. digits_value_after 10 (acc * 10 + digit_value c) ds) zero_digit
    ∙ zeros_value ds (acc * 10 + 0) (and_right (d == 48) _ h)
    ∙ zeros_step acc (10 ^ length ds)
    ∙ ap (λ c. acc * c) (sym (pow-succ' 10 (length ds)))

-- the zeros at the end count for a power of ten
pub record IsStripped (ds kept : List ℕ) (acc : ℕ) : Type 0 where
  pub zeros : ℕ
  pub length_is : length kept + zeros ≡ length ds
  pub value : digits_value_after 10 acc ds ≡ digits_value_after 10 acc kept * 10 ^ zeros

strip_by : (d : ℕ) (ds : List ℕ) (acc : ℕ) (b : Bool) → list_all (λ c. c == 48) (d ∷ ds) ≡ b
    → IsStripped ds (without_last_zeros ds) (acc * 10 + digit_value d)
    → IsStripped (d ∷ ds) (if b then [] else d ∷ without_last_zeros ds) acc
strip_by d ds acc true e rest = record { zeros = length (d ∷ ds); length_is = omega arith; value = zeros_value (d ∷ ds) acc e }
strip_by d ds acc false e rest = let total : length (without_last_zeros ds) + rest.zeros ≡ length ds = rest.length_is in
    record { zeros = rest.zeros; length_is = omega arith; value = rest.value }

stripped : (ds : List ℕ) (acc : ℕ) → IsStripped ds (without_last_zeros ds) acc
unfolding without_last_zeros
stripped [] acc = record { zeros = 0; length_is = refl; value = omega arith }
stripped (d ∷ ds) acc = strip_by d ds acc (list_all (λ c. c == 48) (d ∷ ds)) refl (stripped ds (acc * 10 + digit_value d))

rounded_places : (k j f us : ℕ) → k + j ≡ 6 → us ≡ f * 10 ^ j → (2 * 1000000 * f + 10 ^ k) / (2 * 10 ^ k) ≡ us
rounded_places zero j f us h e = let six : j ≡ 6 = omega arith in rw (e, six) (omega arith)
rounded_places (suc zero) j f us h e = let six : j ≡ 5 = omega arith in rw (e, six) (omega arith)
rounded_places (suc (suc zero)) j f us h e = let six : j ≡ 4 = omega arith in rw (e, six) (omega arith)
rounded_places (suc (suc (suc zero))) j f us h e = let six : j ≡ 3 = omega arith in rw (e, six) (omega arith)
rounded_places (suc (suc (suc (suc zero)))) j f us h e = let six : j ≡ 2 = omega arith in rw (e, six) (omega arith)
rounded_places (suc (suc (suc (suc (suc zero))))) j f us h e = let six : j ≡ 1 = omega arith in rw (e, six) (omega arith)
rounded_places (suc (suc (suc (suc (suc (suc zero)))))) j f us h e = let six : j ≡ 0 = omega arith in rw (e, six) (omega arith)
rounded_places (suc (suc (suc (suc (suc (suc (suc k))))))) j f us h e = absurd (omega arith)

-- the seconds with decimals that end with no zero
abbrev pub point_number : Bool → ℕ → ℕ → Decimal
point_number minus s us = record {
  negative = minus;
  whole = s;
  fraction = digits_value 10 (without_last_zeros (six_digits us));
  places = length (without_last_zeros (six_digits us));
}

unfoldable pub point_decimal : Bool → ℕ → ℤ → Decimal
point_decimal minus s z = if is_zero z then whole_number minus s else point_number minus s (unsigned_abs z)

six_length : (n : ℕ) → length (six_digits n) ≡ 6
unfolding six_digits
six_length n = refl

rounded_point : (minus : Bool) (s us : ℕ) → us < 1000000 → rounded 1000000 (point_number minus s us) ≡ with_sign minus us
rounded_point minus s us small =
    let t = stripped (six_digits us) 0 in
    ap (with_sign minus) (rounded_places (length (without_last_zeros (six_digits us))) t.zeros
    (digits_value 10 (without_last_zeros (six_digits us))) us (t.length_is ∙ six_length us) (sym (six_value us small) ∙ t.value))

point_worth_by : (minus : Bool) (s : ℕ) (z : ℤ) (b : Bool) → is_zero z ≡ b → unsigned_abs z < 1000000 → with_sign minus (unsigned_abs z) ≡ z
    → worth Second (if b then whole_number minus s else point_number minus s (unsigned_abs z))
    ≡ sum_of (unit_worth Second (with_sign minus s)) (record { months = pos 0; days = pos 0; microseconds = z })
point_worth_by minus s z true e small h = ap (λ r. record {
  months = pos 0;
  days = pos 0;
  microseconds = pos 1000000 *ℤ with_sign minus s +ℤ r;
}) (zero_sign minus ∙ sym (zero_is_zero z e))
point_worth_by minus s z false e small h = ap (λ r. record {
  months = pos 0;
  days = pos 0;
  microseconds = pos 1000000 *ℤ with_sign minus s +ℤ r;
}) (rounded_point minus s (unsigned_abs z) small ∙ h)

point_worth : (minus : Bool) (s : ℕ) (z : ℤ) → unsigned_abs z < 1000000 → with_sign minus (unsigned_abs z) ≡ z
    → worth Second (point_decimal minus s z) ≡ sum_of (unit_worth Second (with_sign minus s)) (record {
      months = pos 0;
      days = pos 0;
      microseconds = z;
    })
unfolding point_decimal
point_worth minus s z small h = point_worth_by minus s z (is_zero z) refl small h

point_whole_by : (minus : Bool) (s us : ℕ) (b : Bool)
    → whole_part (if b then whole_number minus s else point_number minus s us) ≡ with_sign minus s
point_whole_by minus s us true = refl
point_whole_by minus s us false = refl

point_whole : (minus : Bool) (s : ℕ) (z : ℤ) → whole_part (point_decimal minus s z) ≡ with_sign minus s
unfolding point_decimal
point_whole minus s z = point_whole_by minus s (unsigned_abs z) (is_zero z)

-- ---- the text of the seconds

kept_digits : (us : ℕ) → list_all is_digit (without_last_zeros (six_digits us)) ≡ true
kept_digits us = strip_digits (six_digits us) (six_are_digits us)

kept_length : (us : ℕ) → length (without_last_zeros (six_digits us)) ≤ 6
kept_length us = let all : length (six_digits us) ≡ 6 = six_length us in omega (arith, strip_length (six_digits us))

point_read : (minus : Bool) (s : ℕ) (z : ℤ) → s < 2 ^ 64
    → decimal_pair Second (minus_if minus ++ (decimal s ++ decimals_of z)) ≡ pair Second (point_decimal minus s z)
unfolding decimals_of point_decimal
point_read minus s z small = elim (is_zero z) as
    (λ b. decimal_pair Second (minus_if minus ++ (decimal s ++ (if b then [] else 46 ∷ without_last_zeros (six_digits (unsigned_abs z)))))
    ≡ pair Second (if b then whole_number minus s else point_number minus s (unsigned_abs z))) [
      | true ↦ ap (λ t. decimal_pair Second (minus_if minus ++ t)) (append-nil (decimal s)) ∙ decimal_pair_whole Second minus s small
      | false ↦
          let short : length (without_last_zeros (six_digits (unsigned_abs z))) ≤ 6 = kept_length (unsigned_abs z) in
          ap (λ r. record { number = checked r; unit = Second })
          (decimal_point minus (decimal s) (without_last_zeros (six_digits (unsigned_abs z))) (digits_decimal s small)
          (kept_digits (unsigned_abs z)) (omega arith))
          ∙ ap (λ w. pair Second (record {
            negative = minus;
            whole = w;
            fraction = digits_value 10 (without_last_zeros (six_digits (unsigned_abs z)));
            places =
                length (without_last_zeros (six_digits (unsigned_abs z)));
          })) (value_decimal s small)
    ]

more_text : (xs ys : List ℕ) → IsNumberText xs → list_any is_whitespace ys ≡ false → list_any is_colon ys ≡ false
    → list_all is_number_byte ys ≡ true → length (xs ++ ys) ≤ 30 → IsNumberText (xs ++ ys)
more_text xs ys t space colon bytes short = record {
  first = t.first;
  others = t.others ++ ys;
  whole = ap (λ x. x ++ ys) t.whole;
  digit = t.digit;
  no_space = list_any-append is_whitespace xs ys ∙ (rw (t.no_space, space) refl);
  no_colon = list_any-append is_colon xs ys ∙ (rw (t.no_colon, colon) refl);
  bytes = list_all-append is_number_byte xs ys ∙ (rw (t.bytes, bytes) refl);
  short = short;
}

point_text : (s : ℕ) (z : ℤ) → s < 2 ^ 64 → IsNumberText (decimal s ++ decimals_of z)
unfolding decimals_of
point_text s z small =
    let us = unsigned_abs z in
    let kept = without_last_zeros (six_digits us) in
    let whole : length (decimal s) ≤ 20 = decimal_length s small in
    let short : length kept ≤ 6 = kept_length us in
    elim (is_zero z) as (λ b. IsNumberText (decimal s ++ (if b then [] else 46 ∷ kept))) [
      | true ↦ subst IsNumberText (sym (append-nil (decimal s))) (decimal_text s small)
      | false ↦ more_text (decimal s) (46 ∷ kept) (decimal_text s small)
          (none_of_digits is_whitespace digit_no_space kept (kept_digits us))
          (none_of_digits is_colon digit_no_colon kept (kept_digits us))
          (digits_are_number kept (kept_digits us))
          (omega (arith, length-append (decimal s) (46 ∷ kept)))
    ]

-- ---- all parts

year_ends : EndsWell (codes "year")
year_ends = record { front = codes "yea"; last = 114; whole = refl; solid = refl; not_o = λ e. omega arith; not_zero = λ e. omega arith }

mon_ends : EndsWell (codes "mon")
mon_ends = record { front = codes "mo"; last = 110; whole = refl; solid = refl; not_o = λ e. omega arith; not_zero = λ e. omega arith }

day_ends : EndsWell (codes "day")
day_ends = record { front = codes "da"; last = 121; whole = refl; solid = refl; not_o = λ e. omega arith; not_zero = λ e. omega arith }

hour_ends : EndsWell (codes "hour")
hour_ends = record { front = codes "hou"; last = 114; whole = refl; solid = refl; not_o = λ e. omega arith; not_zero = λ e. omega arith }

min_ends : EndsWell (codes "min")
min_ends = record { front = codes "mi"; last = 110; whole = refl; solid = refl; not_o = λ e. omega arith; not_zero = λ e. omega arith }

sec_ends : EndsWell (codes "sec")
sec_ends = record { front = codes "se"; last = 99; whole = refl; solid = refl; not_o = λ e. omega arith; not_zero = λ e. omega arith }

years_named : Names unit_of_verbose_word (codes "year") Year
years_named = record { one = refl; many = refl; word = refl; words = refl; filled = refl; unbroken = refl }

months_named : Names unit_of_verbose_word (codes "mon") Month
months_named = record { one = refl; many = refl; word = refl; words = refl; filled = refl; unbroken = refl }

days_named : Names unit_of_verbose_word (codes "day") Day
days_named = record { one = refl; many = refl; word = refl; words = refl; filled = refl; unbroken = refl }

hours_named : Names unit_of_verbose_word (codes "hour") Hour
hours_named = record { one = refl; many = refl; word = refl; words = refl; filled = refl; unbroken = refl }

minutes_named : Names unit_of_verbose_word (codes "min") Minute
minutes_named = record { one = refl; many = refl; word = refl; words = refl; filled = refl; unbroken = refl }

seconds_named : Names unit_of_verbose_word (codes "sec") Second
seconds_named = record { one = refl; many = refl; word = refl; words = refl; filled = refl; unbroken = refl }

unfoldable pub printed_seconds : Bool → IntervalNorm → List Pair
printed_seconds ago n = if is_second_zero n then []
    else pair Second (point_decimal (printed_sign ago (is_second_negative n)) (unsigned_abs n.seconds) n.microseconds) ∷ []

seconds_read : (ago : Bool) (n : IntervalNorm) → IsSized n → AreRead ago (second_parts n) (printed_seconds ago n)
unfolding second_parts printed_seconds second_digits
seconds_read ago n size =
    let minus = printed_sign ago (is_second_negative n) in
    let wide = abs_small n.seconds size.seconds in
    elim (is_second_zero n) as (λ b. AreRead ago (if b then [] else record {
      negative = is_second_negative n;
      digits = digits_of n.seconds ++ decimals_of n.microseconds;
      word =
          codes "sec";
    } ∷ []) (if b then [] else pair Second (point_decimal minus (unsigned_abs n.seconds) n.microseconds) ∷ [])) [
      | true ↦ none
      | false ↦ more (read_part ago (is_second_negative n) (digits_of n.seconds ++ decimals_of n.microseconds) (codes "sec")
          (point_decimal minus (unsigned_abs n.seconds) n.microseconds) seconds_named sec_ends (lit≤ tt)
          (point_text (unsigned_abs n.seconds) n.microseconds wide) (point_read minus (unsigned_abs n.seconds) n.microseconds wide)) none
    ]

-- all pairs, as printed
unfoldable pub printed_all : Bool → IntervalNorm → List Pair
printed_all ago n = printed_pairs ago Year n.years
    ++ (printed_pairs ago Month n.months ++ (printed_pairs ago Day n.days
    ++ (printed_pairs ago Hour n.hours ++ (printed_pairs ago Minute n.minutes ++ printed_seconds ago n))))

wider : (z : ℤ) → mag z < 2 ^ 31 → mag z < 2 ^ 63
wider z h = omega arith

regroup : (a b c d e f : List Part) → ((a ++ b) ++ c) ++ ((d ++ e) ++ f) ≡ a ++ (b ++ (c ++ (d ++ (e ++ f))))
regroup a b c d e f = simp append_assoc

not_not : (b : Bool) → not (not b) ≡ b
not_not true = refl
not_not false = refl

no_more : (i : Interval) → sum_of i nothing ≡ i
no_more i = same_interval _ _ (omega (arith, ints)) (omega (arith, ints)) (omega (arith, ints))

is_some_part : List Part → Bool
is_some_part [] = false
is_some_part (p ∷ ps) = true

all_read : (ago : Bool) (n : IntervalNorm) → IsSized n → AreRead ago (verbose_parts n) (printed_all ago n)
unfolding date_parts verbose_time_parts printed_all
all_read ago n size =
    let y = number_read ago n.years (codes "year") (wider n.years size.years) years_named year_ends (lit≤ tt) in
    let m = number_read ago n.months (codes "mon") (wider n.months size.months) months_named mon_ends (lit≤ tt) in
    let d = number_read ago n.days (codes "day") (wider n.days size.days) days_named day_ends (lit≤ tt) in
    let h = number_read ago n.hours (codes "hour") size.hours hours_named hour_ends (lit≤ tt) in
    let i = number_read ago n.minutes (codes "min") size.minutes minutes_named min_ends (lit≤ tt) in
    subst (λ ps. AreRead ago ps (printed_pairs ago Year n.years
    ++ (printed_pairs ago Month n.months ++ (printed_pairs ago Day n.days
    ++ (printed_pairs ago Hour n.hours ++ (printed_pairs ago Minute n.minutes ++ printed_seconds ago n))))))
    (sym (regroup (part_of n.years (codes "year")) (part_of n.months (codes "mon")) (part_of n.days (codes "day"))
    (part_of n.hours (codes "hour")) (part_of n.minutes (codes "min")) (second_parts n)))
    (read_append y (read_append m (read_append d (read_append h (read_append i (seconds_read ago n size))))))

-- ---- the other sign back

back_number : (u : TimeUnit) (z : ℤ) → map turned (printed_pairs true u z) ≡ number_pairs u z
unfolding printed_pairs number_pairs
back_number u z = elim (is_zero z) as (λ b. map turned (if b then [] else pair u (whole_number (not (is_negative z)) (unsigned_abs z)) ∷ [])
    ≡ (if b then [] else pair u (whole_number (is_negative z) (unsigned_abs z)) ∷ [])) [
      | true ↦ refl
      | false ↦ ap (λ s. pair u (whole_number s (unsigned_abs z)) ∷ []) (not_not (is_negative z))
    ]

same_number : (u : TimeUnit) (z : ℤ) → printed_pairs false u z ≡ number_pairs u z
unfolding printed_pairs number_pairs
same_number u z = refl

unfoldable pub seconds_pairs : IntervalNorm → List Pair
seconds_pairs n = if is_second_zero n then [] else pair Second
    (point_decimal (is_second_negative n) (unsigned_abs n.seconds) n.microseconds) ∷ []

turned_point : (minus : Bool) (s : ℕ) (z : ℤ) → turned (pair Second (point_decimal (not minus) s z)) ≡ pair Second (point_decimal minus s z)
unfolding point_decimal
turned_point minus s z = elim (is_zero z) as (λ b. turned (pair Second (if b then whole_number (not minus) s
    else point_number (not minus) s (unsigned_abs z)))
    ≡ pair Second (if b then whole_number minus s else point_number minus s (unsigned_abs z))) [
      | true ↦ ap (λ m. pair Second (whole_number m s)) (not_not minus)
      | false ↦ ap (λ m. pair Second (point_number m s (unsigned_abs z))) (not_not minus)
    ]

back_seconds : (n : IntervalNorm) → map turned (printed_seconds true n) ≡ seconds_pairs n
unfolding printed_seconds seconds_pairs
back_seconds n = elim (is_second_zero n) as (λ b. map turned (if b then []
    else pair Second (point_decimal (not (is_second_negative n)) (unsigned_abs n.seconds) n.microseconds) ∷ [])
    ≡ (if b then [] else pair Second (point_decimal (is_second_negative n) (unsigned_abs n.seconds) n.microseconds) ∷ [])) [
      | true ↦ refl
      | false ↦ ap (λ p. p ∷ []) (turned_point (is_second_negative n) (unsigned_abs n.seconds) n.microseconds)
    ]

same_seconds : (n : IntervalNorm) → printed_seconds false n ≡ seconds_pairs n
unfolding printed_seconds seconds_pairs
same_seconds n = refl

unfoldable pub verbose_all : IntervalNorm → List Pair
verbose_all n = number_pairs Year n.years ++ (number_pairs Month n.months
    ++ (number_pairs Day n.days ++ (number_pairs Hour n.hours ++ (number_pairs Minute n.minutes ++ seconds_pairs n))))

map_six : (a b c d e f : List Pair) → map turned (a ++ (b ++ (c ++ (d ++ (e ++ f)))))
    ≡ map turned a ++ (map turned b ++ (map turned c ++ (map turned d ++ (map turned e ++ map turned f))))
map_six a b c d e f = simp map-append

back_all : (n : IntervalNorm) → map turned (printed_all true n) ≡ verbose_all n
unfolding printed_all verbose_all
back_all n = map_six (printed_pairs true Year n.years) (printed_pairs true Month n.months) (printed_pairs true Day n.days)
    (printed_pairs true Hour n.hours) (printed_pairs true Minute n.minutes) (printed_seconds true n)
    ∙ (rw (
      back_number Year n.years,
      back_number Month n.months,
      back_number Day n.days,
      back_number Hour n.hours,
      back_number Minute n.minutes,
      back_seconds n,
    ) refl)

same_all : (n : IntervalNorm) → printed_all false n ≡ verbose_all n
unfolding printed_all verbose_all
same_all n = rw (
  same_number Year n.years,
  same_number Month n.months,
  same_number Day n.days,
  same_number Hour n.hours,
  same_number Minute n.minutes,
  same_seconds n,
) refl

once : (ago : Bool) (n : IntervalNorm) → each_unit_once (printed_all ago n) ≡ true
unfolding printed_all printed_pairs printed_seconds
once ago n =
    ap (λ ps. each_unit_once (printed_pairs ago Year n.years
    ++ (printed_pairs ago Month n.months ++ (printed_pairs ago Day n.days
    ++ (printed_pairs ago Hour n.hours ++ (printed_pairs ago Minute n.minutes ++ ps))))))
    (sym (append-nil (printed_seconds ago n)))
    ∙ six_once (is_zero n.years) (is_zero n.months) (is_zero n.days) (is_zero n.hours) (is_zero n.minutes) (is_second_zero n)
    (whole_number (printed_sign ago (is_negative n.years)) (unsigned_abs n.years))
    (whole_number (printed_sign ago (is_negative n.months)) (unsigned_abs n.months))
    (whole_number (printed_sign ago (is_negative n.days)) (unsigned_abs n.days))
    (whole_number (printed_sign ago (is_negative n.hours)) (unsigned_abs n.hours))
    (whole_number (printed_sign ago (is_negative n.minutes)) (unsigned_abs n.minutes))
    (point_decimal (printed_sign ago (is_second_negative n)) (unsigned_abs n.seconds) n.microseconds)

-- ---- sums

seconds_total_by : (range : ParseError) (n : IntervalNorm) (b : Bool) → is_second_zero n ≡ b → IsSized n
    → HasSecondSign (is_second_negative n) n → total_of range (if b then []
    else pair Second (point_decimal (is_second_negative n) (unsigned_abs n.seconds) n.microseconds) ∷ []) ≡ Ok (second_sum n)
unfolding is_second_zero
seconds_total_by range n true e size sign = ap Ok (sym (rw (
  zero_is_zero n.seconds (and_left _ _ e),
  zero_is_zero n.microseconds (and_right (is_zero n.seconds) _ e),
) refl))
seconds_total_by range n false e size sign =
    let minus = is_second_negative n in
    let d = point_decimal minus (unsigned_abs n.seconds) n.microseconds in
    whole_worth range Second d [] nothing (ap (fits_above 63) (point_whole minus (unsigned_abs n.seconds) n.microseconds ∙ sign.seconds)
    ∙ fits_by_mag 63 n.seconds size.seconds) refl
    ∙ ap Ok (no_more (worth Second d) ∙ point_worth minus (unsigned_abs n.seconds) n.microseconds size.microseconds sign.microseconds
    ∙ ap (λ y. sum_of (unit_worth Second y) (record { months = pos 0; days = pos 0; microseconds = n.microseconds })) sign.seconds)

verbose_total : (range : ParseError) (n : IntervalNorm) → IsSized n → HasSecondSign (is_second_negative n) n
    → total_of range (verbose_all n) ≡ Ok (exact_total n)
unfolding verbose_all seconds_pairs
verbose_total range n size sign =
    date_total range n (number_pairs Hour n.hours ++ (number_pairs Minute n.minutes ++ seconds_pairs n)) size
    (number_total range Hour n.hours _ _ (fits_by_mag 63 n.hours size.hours)
    (number_total range Minute n.minutes _ _ (fits_by_mag 63 n.minutes size.minutes)
    (seconds_total_by range n (is_second_zero n) refl size sign)))

-- ---- the whole text

words_read : (n : IntervalNorm) (ago : Bool) (text : List ℕ) → IsSized n → map token_of (tokens text) ≡ tokens_of ago (verbose_parts n)
    → pairs_by_words unit_of_verbose_word text ≡ Some (printed_all ago n)
words_read n ago text size e =
    ap (λ ts. pairs_of_tokens unit_of_verbose_word ts >>= λ ps. if each_unit_once ps then Some ps else None) e
    ∙ ap (λ o. o >>= λ ps. if each_unit_once ps then Some ps else None) (pairs_of_read (all_read ago n size))
    ∙ ap (λ b. if b then Some (printed_all ago n) else None) (once ago n)

after_read : (n : IntervalNorm) (ago : Bool) (text : List ℕ) → pairs_by_words unit_of_verbose_word text ≡ Some (printed_all ago n)
    → after_at ago text ≡ Some (verbose_all n)
unfolding after_at
after_read n true text e = ap (λ o. o >>= λ ps. Some (map turned ps)) e ∙ ap Some (back_all n)
after_read n false text e = e ∙ ap Some (same_all n)

-- parts, the first of them behind `@ `
parts_read : (n : IntervalNorm) (ago : Bool) (ps : List Part) (qs : List Pair) → AreRead ago ps qs → is_some_part ps ≡ true → IsSized n
    → ps ≡ verbose_parts n → verbose_pairs (verbose_text_of ago ps) ≡ Some (verbose_all n)
unfolding verbose_part_text tokens_of is_some_part
parts_read n ago [] qs none h size e = cc
parts_read n ago (p ∷ ps) [] r h size e = elim r [ ]
parts_read n ago (p ∷ ps) (q ∷ qs) (more r rest) h size e =
    let text = text_of_part ago p ++ flat_map (λ p. 32 ∷ text_of_part ago p) ps in
    let ends : EndsWell text = parts_end (text_of_part ago p) r.ends rest in
    let begun : text ≡ r.first ∷ (r.others ++ flat_map (λ p. 32 ∷ text_of_part ago p) ps) =
    ap (λ t. t ++ flat_map (λ p. 32 ∷ text_of_part ago p) ps) r.begins in
    let tokens_are : map token_of (tokens text) ≡ tokens_of ago (verbose_parts n) =
    ap (map token_of) (spaced_tokens (text_of_part ago) (text_of_part ago p) ps) ∙ ap (tokens_of ago) e in
    ap (λ t. verbose_pairs (64 ∷ 32 ∷ (t ++ ago_end ago))) begun
    ∙ verbose_read ago r.first (r.others ++ flat_map (λ p. 32 ∷ text_of_part ago p) ps) r.solid (subst EndsWell begun ends)
    ∙ ap (after_at ago) (sym begun)
    ∙ after_read n ago text (words_read n ago text size tokens_are)

some_append : (ps qs : List Part) → is_some_part (ps ++ qs) ≡ (is_some_part ps || is_some_part qs)
unfolding is_some_part
some_append [] qs = refl
some_append (p ∷ ps) qs = refl

some_part : (z : ℤ) (name : List ℕ) → is_some_part (part_of z name) ≡ not (is_zero z)
unfolding is_some_part part_of
some_part z name = elim (is_zero z) as (λ b. is_some_part (if b then [] else record {
  negative = is_negative z;
  digits = digits_of z;
  word = name;
} ∷ []) ≡ not b) [ true ↦ refl | false ↦ refl ]

some_second : (n : IntervalNorm) → is_some_part (second_parts n) ≡ not (is_second_zero n)
unfolding is_some_part second_parts
some_second n = elim (is_second_zero n) as (λ b. is_some_part (if b then [] else record {
  negative = is_second_negative n;
  digits = second_digits n;
  word = codes "sec";
} ∷ []) ≡ not b) [ true ↦ refl | false ↦ refl ]

some_of_seven : (y m d h i s u : Bool) → (((not y || not m) || not d) || ((not h || not i) || not (s && u)))
    ≡ not (((y && m) && d) && (((h && i) && s) && u))
some_of_seven false m d h i s u = refl
some_of_seven true false d h i s u = refl
some_of_seven true true false h i s u = refl
some_of_seven true true true false i s u = refl
some_of_seven true true true true false s u = refl
some_of_seven true true true true true false u = refl
some_of_seven true true true true true true u = refl

some_of_all : (n : IntervalNorm) → is_some_part (verbose_parts n) ≡ not (is_all_zero n)
unfolding date_parts verbose_time_parts is_all_zero is_year_month_zero is_time_zero is_second_zero
some_of_all n =
    some_append (part_of n.years (codes "year") ++ part_of n.months (codes "mon") ++ part_of n.days (codes "day"))
    (part_of n.hours (codes "hour") ++ part_of n.minutes (codes "min") ++ second_parts n)
    ∙ (rw (
      some_append (part_of n.years (codes "year") ++ part_of n.months (codes "mon")) (part_of n.days (codes "day")),
      some_append (part_of n.years (codes "year")) (part_of n.months (codes "mon")),
      some_append (part_of n.hours (codes "hour") ++ part_of n.minutes (codes "min")) (second_parts n),
      some_append (part_of n.hours (codes "hour")) (part_of n.minutes (codes "min")),
      some_part n.years (codes "year"),
      some_part n.months (codes "mon"),
      some_part n.days (codes "day"),
      some_part n.hours (codes "hour"),
      some_part n.minutes (codes "min"),
      some_second n,
    )
    (some_of_seven (is_zero n.years) (is_zero n.months) (is_zero n.days) (is_zero n.hours) (is_zero n.minutes) (is_zero n.seconds)
    (is_zero n.microseconds)))

one_part : (z : ℤ) (name : List ℕ) → length (part_of z name) ≤ 1
unfolding part_of
one_part z name = elim (is_zero z) as (λ b. length {A = Part} (if b then [] else record {
  negative = is_negative z;
  digits = digits_of z;
  word = name;
} ∷ []) ≤ 1) [ true ↦ zero-le | false ↦ lit≤ tt ]

one_second : (n : IntervalNorm) → length (second_parts n) ≤ 1
unfolding second_parts
one_second n = elim (is_second_zero n) as (λ b. length {A = Part} (if b then [] else record {
  negative = is_second_negative n;
  digits = second_digits n;
  word = codes "sec";
} ∷ []) ≤ 1) [ true ↦ zero-le | false ↦ lit≤ tt ]

six_parts : (n : IntervalNorm) → length (verbose_parts n) ≤ 6
unfolding date_parts verbose_time_parts
six_parts n =
    let y = part_of n.years (codes "year") in
    let m = part_of n.months (codes "mon") in
    let d = part_of n.days (codes "day") in
    let h = part_of n.hours (codes "hour") in
    let i = part_of n.minutes (codes "min") in
    let s = second_parts n in
    omega (
      arith,
      one_part n.years (codes "year"),
      one_part n.months (codes "mon"),
      one_part n.days (codes "day"),
      one_part n.hours (codes "hour"),
      one_part n.minutes (codes "min"),
      one_second n,
      length-append (y ++ m ++ d) (h ++ i ++ s),
      length-append (y ++ m) d,
      length-append y m,
      length-append (h ++ i) s,
      length-append h i,
    )

ago_length : (ago : Bool) → length (ago_end ago) ≤ 4
ago_length true = lit≤ tt
ago_length false = zero-le

verbose_length : (ago : Bool) (n : IntervalNorm) → IsSized n → length (verbose_text_of ago (verbose_parts n)) ≤ 4096
unfolding verbose_part_text
verbose_length ago n size =
    let parts : length (flat_map (λ p. 32 ∷ text_of_part ago p) (verbose_parts n)) ≤ 61 * length (verbose_parts n) =
    parts_length (all_read ago n size) in
    let six : length (verbose_parts n) ≤ 6 = six_parts n in
    let last : length (ago_end ago) ≤ 4 = ago_length ago in
    omega (arith, length-append (flat_map (λ p. 32 ∷ text_of_part ago p) (verbose_parts n)) (ago_end ago))

verbose_zero : reading PostgresVerbose (codes "@ 0") ≡ Ok nothing
unfolding reading verbose_pairs
verbose_zero = refl

verbose_by : (i : Interval) (b : Bool) → is_all_zero (normal_form i) ≡ b → IsInterval i
    → reading PostgresVerbose (if b then codes "@ 0"
    else verbose_text_of (is_ago (verbose_parts (normal_form i))) (verbose_parts (normal_form i))) ≡ Ok i
unfolding reading
verbose_by i true e within = verbose_zero ∙ ap Ok (sym (zero_interval i e))
verbose_by i false e within =
    let n = normal_form i in
    let size = normal_sizes i within in
    let ago = is_ago (verbose_parts n) in
    let text = verbose_text_of ago (verbose_parts n) in
    ap (λ b. if b then Err (InvalidInterval TooLong)
    else of_shape PostgresVerbose (verbose_pairs text)) (not_longer 4096 (length text) (verbose_length ago n size))
    ∙ ap (of_shape PostgresVerbose) (parts_read n ago (verbose_parts n) (printed_all ago n) (all_read ago n size) (some_of_all n
    ∙ ap not e) size refl)
    ∙ judged_interval (out_of_range PostgresVerbose) (verbose_all n) i within
    (verbose_total (out_of_range PostgresVerbose) n size (second_sign n (normal_time_sign i)))

-- what is printed stands for the interval
pub verbose_stands : (i : Interval) → IsInterval i → reading PostgresVerbose (printed PostgresVerbose i) ≡ Ok i
unfolding verbose_text
verbose_stands i within = verbose_by i (is_all_zero (normal_form i)) refl within
