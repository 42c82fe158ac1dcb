-- What the first try of a reader finds in front of a text.
use Rattle.std.proofs.Common.{◌≡◌, ℕ, ◌+◌, ◌-◌, ◌*◌, ◌%◌, ◌^◌, ◌<◌, ◌≤◌, min, Bool, true, false, not, ◌&&◌, ◌||◌, List, [], ◌∷◌, ◌++◌, length, get_or, take, ap, ◌∙◌, sym, refl, arith, Option, None, Some, Result, Ok}
use mathlib.Core.List.{append_assoc}
use Rattle.std.specs.Prelude.{IfSome, if◌then◌else◌}
use Rattle.std.specs.List.{list_all, list_any}
use Rattle.std.specs.Str.Parse.{digits_value}
use Rattle.std.proofs.lemmas.Int.Digits.{digits_value_more}
use Rattle.std.proofs.lemmas.List.{take_more}
use Rattle.std.proofs.lemmas.List.Folds.{list_all-append}
use Rattle.std.proofs.Math.ListN.{length-append, length-take}
use Rattle.pg_interval.specs.Texts.{is_whitespace, is_digit, is_letter, is_sign, is_point, is_colon, is_minus, are_digits, begins, without_sign}
use Rattle.pg_interval.specs.Decimals.{Decimal, number_of}
use Rattle.pg_interval.specs.Pairs.{interval_of_sums}
use Rattle.pg_interval.specs.PostgresText.{is_number_byte, trimmed_start}
use Rattle.pg_interval.specs.Reader.{capped_decimal, fraction_after}
use Rattle.pg_interval.specs.WordReader.{State, left, worded_left}
use Rattle.pg_interval.specs.FrontReader.{IsNumberFront, IsDecimalFront, IsPairFront, is_solid}
use Rattle.pg_interval.specs.declared.pg_interval.Interval.{Interval}
use Rattle.interval_errors.specs.declared.DecimalError.{DecimalError}
use Rattle.interval_errors.specs.declared.ParseError.{ParseError}
use Rattle.pg_interval.proofs.DigitTexts.{and_left, and_right, all_digits}
use Rattle.pg_interval.proofs.ReadNumbers.{digit_is, digits_below, decimal_is, good_read}
use Rattle.pg_interval.proofs.ReadTokens.{spaced_left, word_held}
use Rattle.pg_interval.proofs.SqlReads.{Sign, none, minus_sign, plus_sign, sign_text, sign_before}
use Rattle.pg_interval.proofs.FrontSigns.{signed_front}

-- ---- digits

both : (a b : Bool) → a ≡ true → b ≡ true → (a && b) ≡ true
both a b h k = ap (λ x. x && b) h ∙ k

all_more : (p : ℕ → Bool) (xs : List ℕ) (i : ℕ) → i < length xs → list_all p (take i xs) ≡ true → p (get_or xs i 0) ≡ true
    → list_all p (take (i + 1) xs) ≡ true
all_more p xs i lt all one =
    ap (list_all p) (take_more xs i 0 lt)
    ∙ list_all-append p (take i xs) (get_or xs i 0 ∷ [])
    ∙ both (list_all p (take i xs)) (p (get_or xs i 0) && true) all (both (p (get_or xs i 0)) true one refl)

-- one digit more, in the arithmetic of words
pub record IsStep (xs : List ℕ) (i n : ℕ) : Type 0 where
  pub value : i ≤ 18 → n ≡ digits_value 10 (take i xs)
  pub digits : list_all is_digit (take i xs) ≡ true

in_word : (v d : ℕ) → v < 10 ^ 18 → d < 10 → (v * 10 % 18446744073709551616 + d) % 18446744073709551616 ≡ v * 10 + d
in_word v d h k = omega arith

pub digit_more : (xs : List ℕ) (i value digit : ℕ) → i < length xs → (i ≤ 18 → value ≡ digits_value 10 (take i xs))
    → list_all is_digit (take i xs) ≡ true → is_digit (get_or xs i 0) ≡ true → digit ≡ get_or xs i 0 - 48
    → IsStep xs (i + 1) ((value * 10 % 18446744073709551616 + digit) % 18446744073709551616)
digit_more xs i value digit lt v all one d =
    let at = digit_is (get_or xs i 0) one in
    let more = digits_value_more 10 xs i lt in
    let below : get_or xs i 0 - 48 < 10 = grind arith in
    record {
      value = λ few.
          let now : value ≡ digits_value 10 (take i xs) = v (omega arith) in
          let short : length (take i xs) ≤ 18 = omega (arith, length-take i xs) in
          let small : value < 10 ^ 18 = let b = digits_below (take i xs) all short in omega arith in
          in_word value digit small (omega arith) ∙ omega (arith, at, more);
      digits = all_more is_digit xs i lt all one;
    }

-- ---- the interval of sums

-- what is read where the sums are known, and lie in their types
pub read_within : (answer : Result Interval ParseError) (o : Option Interval) (i j : Interval) → answer ≡ interval_of_sums i → i ≡ j
    → IfSome o (λ k. interval_of_sums j ≡ Ok k) → IfSome o (λ k. answer ≡ Ok k)
read_within answer None i j e same h = tt
read_within answer (Some k) i j e same h = e ∙ ap interval_of_sums same ∙ h

-- ---- a decimal in front of a text

front_begins : (q : ℕ → Bool) (xs ys : List ℕ) → 0 < length xs → begins q (xs ++ ys) ≡ begins q xs
front_begins q [] ys h = absurd (omega arith)
front_begins q (x ∷ xs) ys h = refl

small_is : (b : Bool) (n f p : ℕ) → n < 2 ^ 31
    → capped_decimal (record { negative = b; whole = n; fraction = f; places = p }) ≡ record
    { negative = b; whole = n; fraction = f; places = p }
small_is b n f p h = let e : min n 18446744073709551615 ≡ n = omega arith in ap
    (λ w. let d : Decimal = record { negative = b; whole = w; fraction = f; places = p } in d) e

digit_number : (c : ℕ) → is_digit c ≡ true → is_number_byte c ≡ true
digit_number c h = ap (λ b. b || is_sign c || is_point c) h

digits_numbers : (ds : List ℕ) → list_all is_digit ds ≡ true → list_all is_number_byte ds ≡ true
digits_numbers [] h = refl
digits_numbers (d ∷ ds) h = rw (
  digit_number d (and_left (is_digit d) (list_all is_digit ds) h),
  digits_numbers ds
      (and_right (is_digit d) (list_all is_digit ds) h),
) refl

signed_numbers : (s : Sign) (xs : List ℕ) → list_all is_number_byte xs ≡ true → list_all is_number_byte (sign_text s ++ xs) ≡ true
unfolding sign_text
signed_numbers none xs h = h
signed_numbers minus_sign xs h = h
signed_numbers plus_sign xs h = h

filled_some : (ds : List ℕ) → are_digits ds ≡ true → 0 < length ds
filled_some [] h = cc
filled_some (d ∷ ds) h = omega arith

-- a sign, digits and what stands behind them, in front of a text
decimal_at : (turn : Bool) (text ds r f rest : List ℕ) (d : Decimal) → are_digits ds ≡ true → without_sign text ≡ ds ++ (r ++ rest)
    → begins is_digit r ≡ false → fraction_after r ≡ Some f → list_all is_number_byte r ≡ true → length f ≤ 18
    → d ≡ capped_decimal (number_of (if turn then not (begins is_minus text) else begins is_minus text) ds f)
    → IsDecimalFront turn d text rest
decimal_at turn text ds r f rest d are e stop some bytes few is =
    let split = signed_front text ds (r ++ rest) are e in
    let s = split.sign in
    let number = sign_text s ++ (ds ++ r) in
    let all = all_digits ds are in
    let long : 0 < length ds = filled_some ds are in
    let filled : 0 < length number = omega (arith, length-append (sign_text s) (ds ++ r), length-append ds r) in
    let cut = sign_before s ds r are in
    let parts : text ≡ number ++ rest = split.parts ∙ (simp append_assoc) in
    let minus : begins is_minus number ≡ begins is_minus text = sym (ap (begins is_minus) parts
    ∙ front_begins is_minus number rest filled) in
    record {
      number = number;
      bytes = signed_numbers s (ds ++ r) (list_all-append is_number_byte ds r
          ∙ both (list_all is_number_byte ds) (list_all is_number_byte r) (digits_numbers ds all) bytes);
      filled = filled;
      read = good_read turn (begins is_minus number) ds r f number d (decimal_is number ds r filled cut.1 all stop) some all few
          (omega arith) (is ∙ ap (λ m. capped_decimal (number_of (if turn then not m else m) ds f)) (sym minus));
      parts = parts;
    }

pub whole_at : (turn : Bool) (text bare rest : List ℕ) (n : ℕ) (b : Bool) → bare ≡ without_sign text → IsNumberFront n bare rest
    → b ≡ (if turn then not (begins is_minus text) else begins is_minus text)
    → IsDecimalFront turn (record { negative = b; whole = n; fraction = 0; places = 0 }) text rest
whole_at turn text bare rest n b e f sign =
    let ds = f.digits in
    let is : (let d : Decimal = record { negative = b; whole = n; fraction = 0; places = 0 } in d) ≡ capped_decimal
    (number_of (if turn then not (begins is_minus text) else begins is_minus text) ds []) =
    sym (small_is b n 0 0 f.small)
    ∙ ap (λ v. capped_decimal (record { negative = b; whole = v; fraction = 0; places = 0 })) (sym f.value)
    ∙ ap (λ m. capped_decimal (number_of m ds [])) sign in
    decimal_at turn text ds [] [] rest _ f.are (sym e ∙ f.parts) refl refl refl (omega arith) is

pub point_at : (turn : Bool) (text bare behind digits rest : List ℕ) (n m p : ℕ) (b : Bool) → bare ≡ without_sign text
    → IsNumberFront n bare behind → behind ≡ 46 ∷ digits → IsNumberFront m digits rest → length digits ≡ p + length rest → p ≤ 6
    → b ≡ (if turn then not (begins is_minus text) else begins is_minus text)
    → IsDecimalFront turn (record { negative = b; whole = n; fraction = m; places = p }) text rest
point_at turn text bare behind digits rest n m p b e f point g long few sign =
    let ds = f.digits in
    let fs = g.digits in
    let all = all_digits fs g.are in
    let places : length fs ≡ p = omega (arith, long, ap length g.parts, length-append fs rest) in
    let is : (let d : Decimal = record { negative = b; whole = n; fraction = m; places = p } in d) ≡ capped_decimal
    (number_of (if turn then not (begins is_minus text) else begins is_minus text) ds fs) =
    sym (small_is b n m p f.small)
    ∙ ap (λ v. capped_decimal (record { negative = b; whole = v; fraction = m; places = p })) (sym f.value)
    ∙ ap (λ v. capped_decimal (record { negative = b; whole = digits_value 10 ds; fraction = v; places = p })) (sym g.value)
    ∙ ap (λ v. capped_decimal (record { negative = b; whole = digits_value 10 ds; fraction = digits_value 10 fs; places = v })) (sym places)
    ∙ ap (λ m. capped_decimal (number_of m ds fs)) sign in
    let behind_is : ds ++ behind ≡ ds ++ ((46 ∷ fs) ++ rest) = ap (λ t. ds ++ t) (point ∙ ap (λ t. 46 ∷ t) g.parts) in
    decimal_at turn text ds (46 ∷ fs) fs rest _ f.are (sym e ∙ f.parts
    ∙ behind_is) refl (ap (λ b. if b then Some fs else None) all) (digits_numbers fs all) (omega arith) is

-- ---- a number and its word in front of a text

number_solid : (c : ℕ) → is_number_byte c ≡ true → is_solid c ≡ true
number_solid c h = grind arith

number_no_colon : (c : ℕ) → is_number_byte c ≡ true → is_colon c ≡ false
number_no_colon c h = grind arith

letter_solid : (c : ℕ) → is_letter c ≡ true → is_solid c ≡ true
letter_solid c h = grind arith

all_through : (p q : ℕ → Bool) (through : (c : ℕ) → p c ≡ true → q c ≡ true) (xs : List ℕ) → list_all p xs ≡ true → list_all q xs ≡ true
all_through p q through [] h = refl
all_through p q through (x ∷ xs) h = rw
    (through x (and_left (p x) (list_all p xs) h), all_through p q through xs (and_right (p x) (list_all p xs) h)) refl

numbers_no_colon : (xs : List ℕ) → list_all is_number_byte xs ≡ true → list_any is_colon xs ≡ false
numbers_no_colon [] h = refl
numbers_no_colon (x ∷ xs) h = rw (
  number_no_colon x (and_left (is_number_byte x) (list_all is_number_byte xs) h),
  numbers_no_colon xs
      (and_right (is_number_byte x) (list_all is_number_byte xs) h),
) refl

not_space : (c : ℕ) → is_letter c ≡ true → is_whitespace c ≡ false
not_space c h = grind arith

space_off : (c : ℕ) (xs : List ℕ) → is_whitespace c ≡ false → trimmed_start (32 ∷ (c ∷ xs)) ≡ c ∷ xs
space_off c xs h = rw h refl

begins_word : (word rest : List ℕ) → 0 < length word → list_all is_letter word ≡ true → trimmed_start (32 ∷ (word ++ rest)) ≡ word ++ rest
begins_word [] rest h all = absurd (omega arith)
begins_word (c ∷ cs) rest h all = space_off c (cs ++ rest) (not_space c (and_left (is_letter c) (list_all is_letter cs) all))

word_begins : (word rest : List ℕ) → 0 < length word → list_all is_letter word ≡ true → begins is_whitespace (word ++ rest) ≡ false
word_begins [] rest h all = absurd (omega arith)
word_begins (c ∷ cs) rest h all = not_space c (and_left (is_letter c) (list_all is_letter cs) all)

pub pair_at : (verbose turn : Bool) (s : State) (d : Decimal) (n : Result Decimal DecimalError) (text word rest : List ℕ)
    → IsPairFront turn d text word rest → n ≡ Ok d → worded_left verbose turn s n word rest ≡ left verbose turn s text
pair_at verbose turn s d n text word rest f is =
    let g = f.decimal in
    let number = g.number in
    let whole : text ≡ number ++ 32 ∷ (word ++ rest) = g.parts ∙ ap (λ t. number ++ t) f.parts in
    word_held verbose turn s n number word rest (is ∙ g.read)
    ∙ sym (ap (left verbose turn s) whole
    ∙ spaced_left verbose turn s number (32 ∷ (word ++ rest)) word rest g.filled (numbers_no_colon number g.bytes) g.bytes
    (all_through is_number_byte is_solid number_solid number g.bytes) refl
    (begins_word word rest f.filled f.letters)
    (all_through is_letter is_solid letter_solid word f.letters) f.stop
    (ap (begins is_whitespace) (begins_word word rest f.filled f.letters) ∙ word_begins word rest f.filled f.letters))
