-- Texts of digits: how they are cut, and the number that they are.
use Rattle.std.proofs.Common.{◌≡◌, ℕ, ◌+◌, ◌%◌, ◌^◌, ◌<◌, ◌≤◌, Bool, true, false, not, ◌&&◌, ◌||◌, List, [], ◌∷◌, ◌++◌, length, ap, ◌∙◌, sym, refl, arith, lit≤, Ok, Err}
use mathlib.Core.List.{append-nil}
use Rattle.std.specs.Prelude.{if◌then◌else◌, nat_lt, decimal, filter}
use Rattle.std.specs.List.{list_all, list_any, slice_split, onto_first, take_while}
use Rattle.std.specs.Str.Parse.{digits_value}
use Rattle.std.proofs.lemmas.Fmt.{decimal_by_steps, decimal_is_IsNumeral}
use Rattle.std.proofs.lemmas.List.Folds.{list_all-append}
use Rattle.std.proofs.lemmas.List.Sums.{take_while-cons}
use Rattle.std.proofs.lemmas.List.Elements.{filter-append}
use Rattle.pg_interval.specs.Texts.{is_whitespace, is_digit, is_sign, is_point, is_colon, is_minus, is_empty, are_digits, tokens}
use Rattle.pg_interval.specs.Decimals.{number_of, decimal_of, decimal_of_parts, decimal_between}
use Rattle.pg_interval.specs.Printed.{minus_if, two_digits_of}
use Rattle.interval_errors.specs.declared.DecimalError.TheVariants.{Malformed, TooManyDigits}

-- ---- tests

pub and_left : (a b : Bool) → (a && b) ≡ true → a ≡ true
and_left true b h = refl
and_left false b h = h

pub and_right : (a b : Bool) → (a && b) ≡ true → b ≡ true
and_right true b h = h
and_right false b h = cc

pub or_none_left : (a b : Bool) → (a || b) ≡ false → a ≡ false
or_none_left true b h = cc
or_none_left false b h = refl

pub or_none_right : (a b : Bool) → (a || b) ≡ false → b ≡ false
or_none_right true b h = cc
or_none_right false b h = h

pub not_longer : (m n : ℕ) → n ≤ m → nat_lt m n ≡ false
not_longer m n h = grind arith

-- ---- cuts

pub split_none : (q : ℕ → Bool) (xs : List ℕ) → list_any q xs ≡ false → slice_split q xs ≡ xs ∷ []
split_none q [] h = refl
split_none q (x ∷ xs) h = rw (or_none_left (q x) (list_any q xs) h, split_none q xs (or_none_right (q x) (list_any q xs) h)) refl

pub split_at : (q : ℕ → Bool) (xs : List ℕ) (y : ℕ) (ys : List ℕ) → list_any q xs ≡ false → q y ≡ true
    → slice_split q (xs ++ y ∷ ys) ≡ xs ∷ slice_split q ys
split_at q [] y ys h k = rw k refl
split_at q (x ∷ xs) y ys h k = rw (or_none_left (q x) (list_any q xs) h, split_at q xs y ys (or_none_right (q x) (list_any q xs) h) k) refl

onto_first_append : (x : ℕ) (p : List ℕ) (ps qs : List (List ℕ)) → onto_first x ((p ∷ ps) ++ qs) ≡ onto_first x (p ∷ ps) ++ qs
onto_first_append x p ps qs = refl

-- the parts of a text, never none
split_parts : (q : ℕ → Bool) (xs : List ℕ) → (p : List ℕ) × (ps : List (List ℕ)) × (slice_split q xs ≡ p ∷ ps)
split_parts q [] = ([], [], refl)
split_parts q (x ∷ xs) =
    let rest = split_parts q xs in
    elim (q x) as (λ b. (p : List ℕ) × (ps : List (List ℕ))
    × ((if b then [] ∷ slice_split q xs else onto_first x (slice_split q xs)) ≡ p ∷ ps)) [
      | true ↦ ([], slice_split q xs, refl)
      | false ↦ (x ∷ rest.0, rest.1, ap (onto_first x) rest.2)
    ]

pub split_append : (q : ℕ → Bool) (xs : List ℕ) (y : ℕ) (ys : List ℕ) → q y ≡ true
    → slice_split q (xs ++ y ∷ ys) ≡ slice_split q xs ++ slice_split q ys
split_append q [] y ys k = rw k refl
split_append q (x ∷ xs) y ys k =
    let whole = split_append q xs y ys k in
    let first = split_parts q xs in
    elim (q x) as (λ b. (if b then [] ∷ slice_split q (xs ++ y ∷ ys) else onto_first x (slice_split q (xs ++ y ∷ ys)))
    ≡ (if b then [] ∷ slice_split q xs else onto_first x (slice_split q xs)) ++ slice_split q ys) [
      | true ↦ ap (λ ps. [] ∷ ps) whole
      | false ↦ ap (onto_first x) (whole ∙ ap (λ ps. ps ++ slice_split q ys) first.2)
          ∙ onto_first_append x first.0 first.1 (slice_split q ys) ∙ ap (λ ps. onto_first x ps ++ slice_split q ys) (sym first.2)
    ]

-- a space parts the tokens before it from those after it
pub tokens_append : (xs ys : List ℕ) → tokens (xs ++ 32 ∷ ys) ≡ tokens xs ++ tokens ys
tokens_append xs ys = ap (filter (λ token. not (is_empty token))) (split_append is_whitespace xs 32 ys refl)
    ∙ filter-append (λ token. not (is_empty token)) (slice_split is_whitespace xs) (slice_split is_whitespace ys)

pub tokens_one : (x : ℕ) (xs : List ℕ) → list_any is_whitespace (x ∷ xs) ≡ false → tokens (x ∷ xs) ≡ (x ∷ xs) ∷ []
tokens_one x xs h = ap (filter (λ token. not (is_empty token))) (split_none is_whitespace (x ∷ xs) h)

pub tokens_whole : (xs : List ℕ) → is_empty xs ≡ false → list_any is_whitespace xs ≡ false → tokens xs ≡ xs ∷ []
tokens_whole [] e h = cc
tokens_whole (x ∷ xs) e h = tokens_one x xs h

pub take_while_all : (p : ℕ → Bool) (xs : List ℕ) → list_all p xs ≡ true → take_while p xs ≡ xs
take_while_all p [] h = refl
take_while_all p (x ∷ xs) h = take_while-cons p x xs
    ∙ (rw (and_left (p x) (list_all p xs) h, take_while_all p xs (and_right (p x) (list_all p xs) h)) refl)

-- ---- digits

-- what no digit passes, no byte of a text of digits passes
pub none_of_digits : (q : ℕ → Bool) (apart : (c : ℕ) → is_digit c ≡ true → q c ≡ false) (ds : List ℕ) → list_all is_digit ds ≡ true
    → list_any q ds ≡ false
none_of_digits q apart [] h = refl
none_of_digits q apart (d ∷ ds) h = rw (apart d (and_left (is_digit d) (list_all is_digit ds) h))
    (none_of_digits q apart ds (and_right (is_digit d) (list_all is_digit ds) h))

pub digit_no_space : (c : ℕ) → is_digit c ≡ true → is_whitespace c ≡ false
digit_no_space c h = grind arith

pub digit_no_colon : (c : ℕ) → is_digit c ≡ true → is_colon c ≡ false
digit_no_colon c h = grind arith

pub digit_no_point : (c : ℕ) → is_digit c ≡ true → is_point c ≡ false
digit_no_point c h = grind arith

pub digit_no_sign : (c : ℕ) → is_digit c ≡ true → is_sign c ≡ false
digit_no_sign c h = grind arith

pub digit_no_minus : (c : ℕ) → is_digit c ≡ true → is_minus c ≡ false
digit_no_minus c h = grind arith

pub digit_glyph_is : (n : ℕ) → n < 10 → is_digit (48 + n) ≡ true
digit_glyph_is n h = grind arith

AreDigits : List ℕ → Type 0
AreDigits ds = are_digits ds ≡ true

pub all_digits : (ds : List ℕ) → are_digits ds ≡ true → list_all is_digit ds ≡ true
all_digits ds h = and_right (not (is_empty ds)) _ h

pub filled_digits : (ds : List ℕ) → are_digits ds ≡ true → is_empty ds ≡ false
filled_digits [] h = sym h
filled_digits (d ∷ ds) h = refl

digits_push : (ds : List ℕ) (d : ℕ) → d < 10 → are_digits ds ≡ true → are_digits (ds ++ (48 + d) ∷ []) ≡ true
digits_push [] d small h = cc
digits_push (e ∷ ds) d small h = list_all-append is_digit (e ∷ ds) ((48 + d) ∷ [])
    ∙ (rw (all_digits (e ∷ ds) h, digit_glyph_is d small) refl)

pub digits_decimal : (n : ℕ) → n < 2 ^ 64 → are_digits (decimal n) ≡ true
digits_decimal n small = decimal_by_steps (λ _ ds. are_digits ds
    ≡ true) (λ m h. rw (digit_glyph_is m h) refl) (λ m ds h k. digits_push ds (m % 10) (omega arith) k) n small

pub value_decimal : (n : ℕ) → n < 2 ^ 64 → digits_value 10 (decimal n) ≡ n
value_decimal n small = (decimal_is_IsNumeral n small).1

pub digits_two : (n : ℕ) → n < 2 ^ 64 → are_digits (two_digits_of n) ≡ true
unfolding two_digits_of
digits_two n small = elim (nat_lt n 10) as (λ b. are_digits (if b then 48 ∷ decimal n else decimal n) ≡ true) [
  | true ↦ all_digits (decimal n) (digits_decimal n small)
  | false ↦ digits_decimal n small
]

pub value_two : (n : ℕ) → n < 2 ^ 64 → digits_value 10 (two_digits_of n) ≡ n
unfolding two_digits_of
value_two n small = elim (nat_lt n 10) as (λ b. digits_value 10 (if b then 48 ∷ decimal n else decimal n) ≡ n) [
  | true ↦ value_decimal n small
  | false ↦ value_decimal n small
]

-- ---- decimals

-- after a minus that may be missing, what begins with a digit
pub decimal_of_signed : (minus : Bool) (d : ℕ) (ds : List ℕ) → is_digit d ≡ true
    → decimal_of (minus_if minus ++ (d ∷ ds)) ≡ decimal_of_parts minus (slice_split is_point (d ∷ ds))
decimal_of_signed true d ds h = refl
decimal_of_signed false d ds h = ap (λ b. decimal_of_parts b (slice_split is_point (if is_sign d then ds else d ∷ ds))) (digit_no_minus d h)
    ∙ ap (λ b. decimal_of_parts false (slice_split is_point (if b then ds else d ∷ ds))) (digit_no_sign d h)

between_digits : (minus : Bool) (ds fs : List ℕ) → are_digits (ds ++ fs) ≡ true → length fs ≤ 18
    → decimal_between minus ds fs ≡ Ok (number_of minus ds fs)
between_digits minus ds fs h short = ap (λ b. if not b then Err Malformed
    else (if nat_lt 18 (length fs) then Err TooManyDigits else Ok (number_of minus ds fs))) h
    ∙ ap (λ b. if b then Err TooManyDigits else Ok (number_of minus ds fs)) (not_longer 18 (length fs) short)

pub decimal_whole : (minus : Bool) (ds : List ℕ) → are_digits ds ≡ true → decimal_of (minus_if minus ++ ds) ≡ Ok (number_of minus ds [])
decimal_whole minus [] h = cc
decimal_whole minus (d ∷ ds) h =
    let all : list_all is_digit (d ∷ ds) ≡ true = all_digits (d ∷ ds) h in
    decimal_of_signed minus d ds (and_left (is_digit d) (list_all is_digit ds) all)
    ∙ ap (decimal_of_parts minus) (split_none is_point (d ∷ ds) (none_of_digits is_point digit_no_point (d ∷ ds) all))
    ∙ between_digits minus (d ∷ ds) [] (ap are_digits (append-nil (d ∷ ds)) ∙ h) (lit≤ tt)

pub decimal_point : (minus : Bool) (ds fs : List ℕ) → are_digits ds ≡ true → list_all is_digit fs ≡ true → length fs ≤ 18
    → decimal_of (minus_if minus ++ (ds ++ 46 ∷ fs)) ≡ Ok (number_of minus ds fs)
decimal_point minus [] fs h k short = cc
decimal_point minus (d ∷ ds) fs h k short =
    let all : list_all is_digit (d ∷ ds) ≡ true = all_digits (d ∷ ds) h in
    decimal_of_signed minus d (ds ++ 46 ∷ fs) (and_left (is_digit d) (list_all is_digit ds) all)
    ∙ ap (decimal_of_parts minus) (split_at is_point (d ∷ ds) 46 fs (none_of_digits is_point digit_no_point (d ∷ ds) all) refl
    ∙ ap (λ ps. (d ∷ ds) ∷ ps) (split_none is_point fs (none_of_digits is_point digit_no_point fs k)))
    ∙ between_digits minus (d ∷ ds) fs (list_all-append is_digit (d ∷ ds) fs ∙ (rw (all, k) refl)) short
