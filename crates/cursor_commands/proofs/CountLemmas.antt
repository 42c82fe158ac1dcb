-- What `parse` reads from a count.
use Rattle.std.proofs.Common.{◌≡◌, ℕ, ℤ, pos, ◌^◌, ◌<◌, Bool, true, false, not, ◌&&◌, ◌==◌, nat_lt, if◌then◌else◌, List, [], ◌∷◌, length, slice_index, Option, Some, None, Result, Ok, Err, refl, sym, ap, ◌∙◌, arith}
use Rattle.std.specs.Char.{is_ascii_digit}
use Rattle.std.specs.Int.{w32}
use Rattle.std.specs.List.{list_all}
use Rattle.std.specs.Result.{OkIff, result_ok}
use Rattle.std.specs.Str.{all_ascii_digits}
use Rattle.std.specs.Str.Parse.{digits_value, ParsesSigned}
use Rattle.std.proofs.lemmas.Bool.{lt-ltb, ltb-true}
use Rattle.std.proofs.lemmas.Str.Parse.{numerals_by_value, tells_all_ascii_digits, parse_signed_digits}
use Rattle.cursor_commands.specs.Limits.{is_count, count_of}

pub and_left : (a b : Bool) → (a && b) ≡ true → a ≡ true
and_left true b h = refl
and_left false b h = h

pub and_right : (a b : Bool) → (a && b) ≡ true → b ≡ true
and_right true b h = h
and_right false b h = cc

same_digits : (word : List ℕ) → list_all is_ascii_digit word ≡ all_ascii_digits word
same_digits [] = refl
same_digits (c ∷ cs) = ap (λ b. is_ascii_digit c && b) (same_digits cs)

filled : (word : List ℕ) → not (length word == 0) ≡ true → 0 < length word
filled [] h = cc
filled (c ∷ cs) h = omega arith

unless : {A : Type 0} (b : Bool) (x : A) → (b ≡ true → ⊥) → ◌≡◌ {A = Option A} None (if b then Some x else None)
unless true x h = absurd (h refl)
unless false x h = refl

and_where : {A : Type 0} (b c : Bool) (x : A) (o : Option A) → b ≡ true → o ≡ (if c then Some x else None)
    → o ≡ (if b && c then Some x else None)
and_where true c x o h e = e
and_where false c x o h e = cc

below : {E : Type 0} (P : Type 0) (top value : ℕ) (r : Result ℤ E) → P → OkIff r (P × (value < top)) (pos value)
    → result_ok r ≡ (if nat_lt value top then Some (pos value) else None)
below P top value (Ok x) p h = rw (lt-ltb value top h.0.1) (ap Some h.1)
below P top value (Err e) p h = unless (nat_lt value top) (pos value) (λ lt. h (p, ltb-true value top lt))

-- `parse` reads the number of a count
pub result_ok-count : {E : Type 0} (word : List ℕ) (r : Result ℤ E) → ParsesSigned w32 10 word r → is_count word ≡ true
    → result_ok r ≡ count_of word
result_ok-count word r parses count =
    let front = and_left (not (length word == 0) && list_all is_ascii_digit word) (not (slice_index word 0 == 48)) count in
    let some = filled word (and_left (not (length word == 0)) (list_all is_ascii_digit word) front) in
    let digits = sym (same_digits word) ∙ and_right (not (length word == 0)) (list_all is_ascii_digit word) front in
    let read = parse_signed_digits (numerals_by_value (λ ds. all_ascii_digits ds ≡ true) tells_all_ascii_digits) w32 word r parses digits in
    and_where (is_count word) (nat_lt (digits_value 10 word) (2 ^ 31)) (pos (digits_value 10 word)) (result_ok r) count
    (below (0 < length word) (2 ^ 31) (digits_value 10 word) r some read)
