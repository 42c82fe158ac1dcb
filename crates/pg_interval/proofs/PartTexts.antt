-- The parts of a printed text, and the tokens and pairs that they are read as.
use Rattle.std.proofs.Common.{◌≡◌, ℕ, ◌^◌, ◌<◌, Bool, true, false, List, [], ◌∷◌, ◌++◌, length, drop, map, ap, ◌∙◌, sym, refl, arith, Option, Some, Ok, ◌⊎◌, inl, inr, subst, ℤ, pos, negsuc, ◌+ℤ◌, ◌*ℤ◌, ltb}
use mathlib.Core.List.{append_assoc, append-nil}
use Rattle.std.specs.Prelude.{if◌then◌else◌, decimal, codes, unsigned_abs, bytes_eq}
use Rattle.std.specs.List.{list_all, list_any, take_while, flat_map}
use Rattle.std.specs.Int.{is_negative}
use Rattle.std.specs.Int.Signed.{mag}
use Rattle.std.proofs.lemmas.List.Folds.{list_any-append}
use Rattle.std.proofs.lemmas.Int.{ints}
use Rattle.std.proofs.lemmas.List.{drop_all}
use Rattle.pg_interval.specs.Texts.{is_whitespace, is_digit, is_colon, is_empty, are_digits, tokens}
use Rattle.pg_interval.specs.Decimals.{Decimal, TimeUnit, Year, Month, Day, Hour, Minute, Second, with_sign, whole_part, worth}
use Rattle.pg_interval.specs.Pairs.{Pair, pair, decimal_pair, checked, fits_field, fits_above, total_of, sum_of, nothing}
use Rattle.pg_interval.specs.PostgresText.{Token, Number, Word, token_of, time_of, token_split, is_number_byte, pairs_of_tokens}
use Rattle.pg_interval.specs.Printed.{Part, part_of, part_text, own_text, word_end, minus_if, digits_of, is_zero}
use Rattle.pg_interval.specs.declared.pg_interval.Interval.{Interval}
use Rattle.interval_errors.specs.declared.ParseError.{ParseError}
use Rattle.pg_interval.proofs.PrintedLemmas.{zero_is_zero}
use Rattle.pg_interval.proofs.DigitTexts.{none_of_digits, digit_no_space, digit_no_colon, all_digits, filled_digits, digits_decimal, value_decimal, decimal_whole, tokens_append, tokens_whole, take_while_all, and_left, and_right}

-- a whole number with its sign
abbrev pub whole_number : Bool → ℕ → Decimal
whole_number minus n = record { negative = minus; whole = n; fraction = 0; places = 0 }

-- the pair of a number that isn't zero
unfoldable pub number_pairs : TimeUnit → ℤ → List Pair
number_pairs u z = if is_zero z then [] else pair u (whole_number (is_negative z) (unsigned_abs z)) ∷ []

-- a word with or without `s` at its end is this unit
pub record Names (unit : List ℕ → Option TimeUnit) (name : List ℕ) (u : TimeUnit) : Type 0 where
  pub one : unit name ≡ Some u
  pub many : unit (name ++ codes "s") ≡ Some u
  pub word : token_of name ≡ Word name
  pub words : token_of (name ++ codes "s") ≡ Word (name ++ codes "s")
  pub filled : is_empty name ≡ false
  pub unbroken : list_any is_whitespace name ≡ false

word_end_cases : (number : List ℕ) → (word_end number ≡ []) ⊎ (word_end number ≡ codes "s")
unfolding word_end
word_end_cases number = elim (bytes_eq number (codes "1")) as (λ b. ((if b then [] else codes "s") ≡ [])
    ⊎ ((if b then [] else codes "s") ≡ codes "s")) [ true ↦ inl refl | false ↦ inr refl ]

minus_no_space : (minus : Bool) → list_any is_whitespace (minus_if minus) ≡ false
minus_no_space true = refl
minus_no_space false = refl

minus_no_colon : (minus : Bool) → list_any is_colon (minus_if minus) ≡ false
minus_no_colon true = refl
minus_no_colon false = refl

digit_is_number : (c : ℕ) → is_digit c ≡ true → is_number_byte c ≡ true
digit_is_number c h = rw h refl

digits_are_number : (ds : List ℕ) → list_all is_digit ds ≡ true → list_all is_number_byte ds ≡ true
digits_are_number [] h = refl
digits_are_number (d ∷ ds) h = rw (digit_is_number d (and_left (is_digit d) _ h), digits_are_number ds (and_right (is_digit d) _ h)) refl

signed_are_number : (minus : Bool) (ds : List ℕ) → list_all is_digit ds ≡ true → list_all is_number_byte (minus_if minus ++ ds) ≡ true
signed_are_number true ds h = digits_are_number ds h
signed_are_number false ds h = digits_are_number ds h

signed_no_colon : (minus : Bool) (ds : List ℕ) → list_all is_digit ds ≡ true → list_any is_colon (minus_if minus ++ ds) ≡ false
signed_no_colon true ds h = none_of_digits is_colon digit_no_colon ds h
signed_no_colon false ds h = none_of_digits is_colon digit_no_colon ds h

signed_no_space : (minus : Bool) (ds : List ℕ) → list_all is_digit ds ≡ true → list_any is_whitespace (minus_if minus ++ ds) ≡ false
signed_no_space true ds h = none_of_digits is_whitespace digit_no_space ds h
signed_no_space false ds h = none_of_digits is_whitespace digit_no_space ds h

-- number bytes alone are a number
pub number_token : (text : List ℕ) → list_any is_colon text ≡ false → list_all is_number_byte text ≡ true → token_of text ≡ Number text
number_token text h k =
    ap (λ b. if b then time_of text else token_split (take_while is_number_byte text) (drop (length (take_while is_number_byte text)) text))
    h
    ∙ ap (λ front. token_split front (drop (length front) text)) (take_while_all is_number_byte text k)
    ∙ ap (token_split text) (drop_all (length text) text (omega arith))

signed_filled : (minus : Bool) (ds : List ℕ) → are_digits ds ≡ true → is_empty (minus_if minus ++ ds) ≡ false
signed_filled true ds h = refl
signed_filled false ds h = filled_digits ds h

-- what a word is with its end
pub record IsWord (unit : List ℕ → Option TimeUnit) (word : List ℕ) (u : TimeUnit) : Type 0 where
  pub token : token_of word ≡ Word word
  pub unit_is : unit word ≡ Some u
  pub filled : is_empty word ≡ false
  pub unbroken : list_any is_whitespace word ≡ false

filled_more : (xs ys : List ℕ) → is_empty xs ≡ false → is_empty (xs ++ ys) ≡ false
filled_more [] ys h = cc
filled_more (x ∷ xs) ys h = refl

whole_word : {unit : List ℕ → Option TimeUnit} {name : List ℕ} {u : TimeUnit} → Names unit name u → (e : List ℕ)
    → (e ≡ []) ⊎ (e ≡ codes "s") → IsWord unit (name ++ e) u
whole_word {unit} {name} {u} names e (inl none) =
    let same : name ≡ name ++ e = sym (ap (λ x. name ++ x) none ∙ append-nil name) in
    subst (λ w. IsWord unit w u) same (record { token = names.word; unit_is = names.one; filled = names.filled; unbroken = names.unbroken })
whole_word {unit} {name} {u} names e (inr many) =
    subst (λ x. IsWord unit (name ++ x) u) (sym many) (record {
      token = names.words;
      unit_is = names.many;
      filled = filled_more name (codes "s") names.filled;
      unbroken =
          list_any-append is_whitespace name (codes "s") ∙ (rw names.unbroken refl);
    })

-- the tokens of a number, a space and a word
pub record IsPartRead (unit : List ℕ → Option TimeUnit) (text number : List ℕ) (u : TimeUnit) : Type 0 where
  pub word : List ℕ
  pub read : map token_of (tokens text) ≡ Number number ∷ Word word ∷ []
  pub unit_is : unit word ≡ Some u

pub spaced_part : {unit : List ℕ → Option TimeUnit} {name : List ℕ} {u : TimeUnit} (number : List ℕ) → Names unit name u
    → is_empty number ≡ false → list_any is_whitespace number ≡ false → token_of number ≡ Number number
    → IsPartRead unit (number ++ 32 ∷ name ++ word_end number) number u
spaced_part {unit} {name} {u} number names filled unbroken token =
    let whole : IsWord unit (name ++ word_end number) u = whole_word names (word_end number) (word_end_cases number) in
    record {
      word = name ++ word_end number;
      read =
          ap (λ t. map token_of (tokens t)) (append_assoc number (32 ∷ name) (word_end number))
          ∙ ap (map token_of) (tokens_append number (name ++ word_end number))
          ∙ ap (λ ts. map token_of (ts ++ tokens (name ++ word_end number))) (tokens_whole number filled unbroken)
          ∙ ap (λ ts. token_of number ∷ map token_of ts) (tokens_whole (name ++ word_end number) whole.filled whole.unbroken)
          ∙ ap (λ t. t ∷ token_of (name ++ word_end number) ∷ []) token
          ∙ ap (λ t. Number number ∷ t ∷ []) whole.token;
      unit_is = whole.unit_is;
    }

pub part_read : {unit : List ℕ → Option TimeUnit} {name : List ℕ} {u : TimeUnit} (minus : Bool) (ds : List ℕ) → Names unit name u
    → are_digits ds ≡ true → IsPartRead unit (part_text minus ds name) (minus_if minus ++ ds) u
unfolding part_text
part_read minus ds names h = spaced_part (minus_if minus ++ ds) names (signed_filled minus ds h)
    (signed_no_space minus ds (all_digits ds h)) (number_token (minus_if minus ++ ds) (signed_no_colon minus ds (all_digits ds h))
    (signed_are_number minus ds (all_digits ds h)))

-- a number and a word in front of other tokens
pub pair_first : (unit : List ℕ → Option TimeUnit) (number word : List ℕ) (u : TimeUnit) (rest : List Token) (ps : List Pair)
    → unit word ≡ Some u → pairs_of_tokens unit rest ≡ Some ps
    → pairs_of_tokens unit (Number number ∷ Word word ∷ rest) ≡ Some (decimal_pair u number ∷ ps)
pair_first unit number word u rest ps h k = rw (h, k) refl

pub decimal_pair_whole : (u : TimeUnit) (minus : Bool) (n : ℕ) → n < 2 ^ 64
    → decimal_pair u (minus_if minus ++ decimal n) ≡ pair u (whole_number minus n)
decimal_pair_whole u minus n small =
    ap (λ r. record { number = checked r; unit = u }) (decimal_whole minus (decimal n) (digits_decimal n small))
    ∙ ap (λ w. pair u (whole_number minus w)) (value_decimal n small)

pub abs_small : (z : ℤ) → mag z < 2 ^ 63 → unsigned_abs z < 2 ^ 64
abs_small (pos n) h = omega arith
abs_small (negsuc n) h = omega arith

-- the tokens of a text's parts
unfoldable pub tokens_of_parts : List Part → List Token
tokens_of_parts ps = map token_of (flat_map (λ p. tokens (own_text p)) ps)

pub number_first : {unit : List ℕ → Option TimeUnit} {name : List ℕ} {u : TimeUnit} (z : ℤ) (rest : List Token) (ps : List Pair)
    → Names unit name u → mag z < 2 ^ 63 → pairs_of_tokens unit rest ≡ Some ps
    → pairs_of_tokens unit (tokens_of_parts (part_of z name) ++ rest) ≡ Some (number_pairs u z ++ ps)
unfolding part_of number_pairs tokens_of_parts
number_first {unit} {name} {u} z rest ps names small h =
    let wide : unsigned_abs z < 2 ^ 64 = abs_small z small in
    let read = part_read (is_negative z) (digits_of z) names (digits_decimal (unsigned_abs z) wide) in
    elim (is_zero z) as (λ b. pairs_of_tokens unit
    (map token_of (flat_map (λ p. tokens (own_text p)) (if b then [] else record {
      negative = is_negative z;
      digits = digits_of z;
      word = name;
    } ∷ [])) ++ rest) ≡ Some ((if b then []
    else pair u (whole_number (is_negative z) (unsigned_abs z)) ∷ []) ++ ps)) [
      | true ↦ h
      | false ↦
          ap (λ ts. pairs_of_tokens unit (map token_of ts ++ rest)) (append-nil (tokens (part_text (is_negative z) (digits_of z) name)))
          ∙ ap (λ ts. pairs_of_tokens unit (ts ++ rest)) read.read
          ∙ pair_first unit (minus_if (is_negative z) ++ digits_of z) read.word u rest ps read.unit_is h
          ∙ ap (λ p. Some (p ∷ ps)) (decimal_pair_whole u (is_negative z) (unsigned_abs z) wide)
    ]

-- ---- what the pairs are worth

lt-ltb' : (m n : ℕ) → m < n → ltb m n ≡ true
lt-ltb' m n h = grind arith

zero_add : (z : ℤ) → pos 0 +ℤ z ≡ z
zero_add z = omega (arith, ints)

pub nothing_more : (i : Interval) → sum_of nothing i ≡ i
nothing_more i = ap (λ m. record { months = m; days = pos 0 +ℤ i.days; microseconds = pos 0 +ℤ i.microseconds }) (zero_add i.months)
    ∙ ap (λ d. record { months = i.months; days = d; microseconds = pos 0 +ℤ i.microseconds }) (zero_add i.days)
    ∙ ap (λ t. record { months = i.months; days = i.days; microseconds = t }) (zero_add i.microseconds)

-- a whole number of a unit that fits its field, in front of the other pairs
pub whole_worth : (range : ParseError) (u : TimeUnit) (d : Decimal) (ps : List Pair) (i : Interval) → fits_field u (whole_part d) ≡ true
    → total_of range ps ≡ Ok i → total_of range (pair u d ∷ ps) ≡ Ok (sum_of (worth u d) i)
whole_worth range u d ps i h k = rw (h, k) refl

ltb_zero : (n : ℕ) → ltb n 0 ≡ false
ltb_zero n = grind arith

pub with_sign_is : (z : ℤ) → with_sign (is_negative z) (unsigned_abs z) ≡ z
with_sign_is (pos n) = ap (λ b. with_sign b n) (ltb_zero n)
with_sign_is (negsuc n) = refl

pub zero_sign : (b : Bool) → with_sign b 0 ≡ pos 0
zero_sign true = refl
zero_sign false = refl

-- what a number of a unit is worth
abbrev pub unit_worth : TimeUnit → ℤ → Interval
unit_worth Year z = record { months = pos 12 *ℤ z; days = pos 0; microseconds = pos 0 }
unit_worth Month z = record { months = z; days = pos 0; microseconds = pos 0 }
unit_worth Day z = record { months = pos 0; days = z; microseconds = pos 0 }
unit_worth Hour z = record { months = pos 0; days = pos 0; microseconds = pos 3600000000 *ℤ z }
unit_worth Minute z = record { months = pos 0; days = pos 0; microseconds = pos 60000000 *ℤ z }
unit_worth Second z = record { months = pos 0; days = pos 0; microseconds = pos 1000000 *ℤ z }

add_zero : (z : ℤ) → z +ℤ pos 0 ≡ z
add_zero z = omega (arith, ints)

pub worth_whole : (u : TimeUnit) (b : Bool) (n : ℕ) → worth u (whole_number b n) ≡ unit_worth u (with_sign b n)
worth_whole Year b n = ap (λ r. record { months = pos 12 *ℤ with_sign b n +ℤ r; days = pos 0; microseconds = pos 0 }) (zero_sign b)
    ∙ ap (λ m. record { months = m; days = pos 0; microseconds = pos 0 }) (add_zero (pos 12 *ℤ with_sign b n))
worth_whole Month b n = ap (λ r. record { months = with_sign b n; days = r; microseconds = pos 0 }) (zero_sign b)
worth_whole Day b n = ap (λ r. record { months = pos 0; days = with_sign b n; microseconds = pos 3600000000 *ℤ r }) (zero_sign b)
worth_whole Hour b n = ap (λ r. record {
  months = pos 0;
  days = pos 0;
  microseconds = pos 3600000000 *ℤ with_sign b n +ℤ pos 60000000 *ℤ r;
}) (zero_sign b)
    ∙ ap (λ t. record { months = pos 0; days = pos 0; microseconds = t }) (add_zero (pos 3600000000 *ℤ with_sign b n))
worth_whole Minute b n = ap (λ r. record {
  months = pos 0;
  days = pos 0;
  microseconds = pos 60000000 *ℤ with_sign b n +ℤ pos 1000000 *ℤ r;
}) (zero_sign b)
    ∙ ap (λ t. record { months = pos 0; days = pos 0; microseconds = t }) (add_zero (pos 60000000 *ℤ with_sign b n))
worth_whole Second b n = ap (λ r. record { months = pos 0; days = pos 0; microseconds = pos 1000000 *ℤ with_sign b n +ℤ r }) (zero_sign b)
    ∙ ap (λ t. record { months = pos 0; days = pos 0; microseconds = t }) (add_zero (pos 1000000 *ℤ with_sign b n))

zero_worth : (u : TimeUnit) → unit_worth u (pos 0) ≡ nothing
zero_worth Year = refl
zero_worth Month = refl
zero_worth Day = refl
zero_worth Hour = refl
zero_worth Minute = refl
zero_worth Second = refl

number_total_by : (range : ParseError) (u : TimeUnit) (z : ℤ) (ps : List Pair) (i : Interval) (b : Bool) → is_zero z ≡ b
    → fits_field u z ≡ true → total_of range ps ≡ Ok i → total_of range (number_pairs u z ++ ps) ≡ Ok (sum_of (unit_worth u z) i)
unfolding number_pairs
number_total_by range u z ps i true e h k =
    ap (λ b. total_of range ((if b then [] else pair u (whole_number (is_negative z) (unsigned_abs z)) ∷ []) ++ ps)) e
    ∙ k
    ∙ ap Ok (sym (ap (λ y. sum_of (unit_worth u y) i) (zero_is_zero z e) ∙ ap (λ w. sum_of w i) (zero_worth u) ∙ nothing_more i))
number_total_by range u z ps i false e h k =
    ap (λ b. total_of range ((if b then [] else pair u (whole_number (is_negative z) (unsigned_abs z)) ∷ []) ++ ps)) e
    ∙ whole_worth range u (whole_number (is_negative z) (unsigned_abs z)) ps i (ap (fits_field u) (with_sign_is z) ∙ h) k
    ∙ ap (λ w. Ok (sum_of w i)) (worth_whole u (is_negative z) (unsigned_abs z) ∙ ap (unit_worth u) (with_sign_is z))

-- a number of a unit in front of the other pairs adds what it is worth
pub number_total : (range : ParseError) (u : TimeUnit) (z : ℤ) (ps : List Pair) (i : Interval) → fits_field u z ≡ true
    → total_of range ps ≡ Ok i → total_of range (number_pairs u z ++ ps) ≡ Ok (sum_of (unit_worth u z) i)
number_total range u z ps i h k = number_total_by range u z ps i (is_zero z) refl h k

-- ---- fields

pub fits_by_mag : (k : ℕ) (z : ℤ) → mag z < 2 ^ k → fits_above k z ≡ true
fits_by_mag k (pos n) h = lt-ltb' n (2 ^ k) h
fits_by_mag k (negsuc n) h = lt-ltb' n (2 ^ k) h
