-- The number of unready polls.
use Rattle.std.proofs.Common.{◌≡◌, ℕ, ◌^◌, ◌<◌, Bool, true, false, if◌then◌else◌, ◌&&◌, nat_le, List, [], ◌∷◌, Some, None, Result, Ok, Err, length, refl, sym, ap, ◌∙◌, arith}
use Rattle.std.specs.Result.{OkIff, result_ok}
use Rattle.std.specs.List.{list_all}
use Rattle.std.specs.Str.{all_ascii_digits}
use Rattle.std.specs.Str.Parse.{digits_value, ParsesUnsigned}
use Rattle.std.proofs.lemmas.Str.Parse.{numerals_by_value, tells_all_ascii_digits, parse_digits}
use Rattle.std.proofs.lemmas.Bool.{leb-true, leb-false, le-leb, lt-leb}
use Rattle.pg_interval.specs.Texts.{is_digit, are_digits}
use Rattle.relation_files.specs.Told.{polls_of}

same_digits : (bytes : List ℕ) → list_all is_digit bytes ≡ all_ascii_digits bytes
same_digits [] = refl
same_digits (byte ∷ bytes) = ap (λ b. is_digit byte && b) (same_digits bytes)

digits_parts : (bytes : List ℕ) → are_digits bytes ≡ true → (list_all is_digit bytes ≡ true) × (0 < length bytes)
digits_parts [] h = (cc, cc)
digits_parts (byte ∷ bytes) h = (h, omega arith)

-- bytes that are there
pub are_digits-some : (bytes : List ℕ) → (length bytes ≡ 0 → ⊥) → list_all is_digit bytes ≡ are_digits bytes
are_digits-some [] h = absurd (h refl)
are_digits-some (byte ∷ bytes) h = refl

read : {E : Type 0} (r : Result ℕ E) (n : ℕ) (some : Type 0) → some → OkIff r (some × (n < 2 ^ 32)) n
    → result_ok r ≡ (if nat_le n 4294967295 then Some n else None)
read (Ok x) n some s k =
    ap Some k.1 ∙ sym (ap (λ b. if b then Some n else None) (le-leb n 4294967295 (let small = k.0.1 in omega arith)))
read (Err e) n some s k =
    sym (ap (λ b. if b then Some n else None) (lt-leb n 4294967295 (large (nat_le n 4294967295) refl)))
  where
    large : (b : Bool) → nat_le n 4294967295 ≡ b → 4294967295 < n
    large true is = absurd (k (s, let small = leb-true n 4294967295 is in omega arith))
    large false is = leb-false n 4294967295 is

pub polls_of-digits : {E : Type 0} (field : List ℕ) (r : Result ℕ E) → are_digits field ≡ true → ParsesUnsigned 32 10 field r
    → result_ok r ≡ polls_of field
polls_of-digits field r digits parses =
    let parts = digits_parts field digits in
    let n = digits_value 10 field in
    read r n (0 < length field) parts.1
    (parse_digits (numerals_by_value (λ ds. all_ascii_digits ds ≡ true) tells_all_ascii_digits) 32 field r parses (sym (same_digits field)
    ∙ parts.0))
    ∙ sym (ap (λ b. if b && nat_le n 4294967295 then Some n else None) digits)
