-- What `parse` reads from a numeral.
use Rattle.std.proofs.Common.{◌≡◌, ℕ, ◌^◌, ◌<◌, Bool, true, false, not, ◌&&◌, ◌==◌, nat_lt, if◌then◌else◌, List, [], ◌∷◌, length, Option, Some, None, Result, Ok, Err, refl, sym, ap, ◌∙◌, arith}
use Rattle.std.specs.Char.{is_ascii_digit}
use Rattle.std.specs.List.{list_all}
use Rattle.std.specs.Result.{OkIff, result_ok}
use Rattle.std.specs.Str.{all_ascii_digits}
use Rattle.std.specs.Str.Parse.{digits_value, ParsesUnsigned}
use Rattle.std.proofs.lemmas.Bool.{lt-ltb, ltb-true}
use Rattle.std.proofs.lemmas.Str.Parse.{numerals_by_value, tells_all_ascii_digits, parse_digits}
use Rattle.relation_words.specs.Numbers.{has_leading_zero, is_numeral, number_of}

and_left : (a b : Bool) → (a && b) ≡ true → a ≡ true
and_left true b h = refl
and_left false b h = h

and_right : (a b : Bool) → (a && b) ≡ true → b ≡ true
and_right true b h = h
and_right false b h = cc

same_digits : (word : List ℕ) → list_all is_ascii_digit word ≡ all_ascii_digits word
same_digits [] = refl
same_digits (c ∷ cs) = ap (λ b. is_ascii_digit c && b) (same_digits cs)

filled : (word : List ℕ) → not (length word == 0) ≡ true → 0 < length word
filled [] h = cc
filled (c ∷ cs) h = omega arith

unless : {A : Type 0} (b : Bool) (x : A) → (b ≡ true → ⊥) → ◌≡◌ {A = Option A} None (if b then Some x else None)
unless true x h = absurd (h refl)
unless false x h = refl

and_where : {A : Type 0} (b c : Bool) (x : A) (o : Option A) → b ≡ true → o ≡ (if c then Some x else None)
    → o ≡ (if b && c then Some x else None)
and_where true c x o h e = e
and_where false c x o h e = cc

below : {E : Type 0} (P : Type 0) (top value : ℕ) (r : Result ℕ E) → P → OkIff r (P × (value < top)) value
    → result_ok r ≡ (if nat_lt value top then Some value else None)
below P top value (Ok x) p h = rw (lt-ltb value top h.0.1) (ap Some h.1)
below P top value (Err e) p h = unless (nat_lt value top) value (λ lt. h (p, ltb-true value top lt))

-- `parse` reads the number of a numeral
pub result_ok-numeral : {E : Type 0} (word : List ℕ) (r : Result ℕ E) → ParsesUnsigned 64 10 word r → is_numeral word ≡ true
    → result_ok r ≡ number_of word
result_ok-numeral word r parses numeral =
    let front = and_left (not (length word == 0) && list_all is_ascii_digit word) (not (has_leading_zero word)) numeral in
    let some = filled word (and_left (not (length word == 0)) (list_all is_ascii_digit word) front) in
    let digits = sym (same_digits word) ∙ and_right (not (length word == 0)) (list_all is_ascii_digit word) front in
    let read = parse_digits (numerals_by_value (λ ds. all_ascii_digits ds ≡ true) tells_all_ascii_digits) 64 word r parses digits in
    and_where (is_numeral word) (nat_lt (digits_value 10 word) (2 ^ 64)) (digits_value 10 word) (result_ok r) numeral
    (below (0 < length word) (2 ^ 64) (digits_value 10 word) r some read)
