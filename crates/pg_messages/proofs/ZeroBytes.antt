-- A String is a text and a zero byte behind it.
use Rattle.std.proofs.Common.{◌≡◌, ◌≢◌, ℕ, Bool, false, List, [], ◌∷◌, ◌++◌, length, get_or, drop, refl, ap, arith, eqb}
use Rattle.std.specs.List.{AllByRecursion, list_any}
use Rattle.std.proofs.lemmas.Bool.{eqb-true, eqb-false, or_parts}
use Rattle.std.proofs.lemmas.List.{length-append}
use Rattle.pg_messages.proofs.Utf8.{false_from}

-- whether a zero byte stands in the text, as the search for one tells it
abbrev pub has_zero : List ℕ → Bool
has_zero text = list_any (λ byte. eqb byte 0) text

pub no_zero_in : (text : List ℕ) → has_zero text ≡ false → AllByRecursion (λ byte. byte ≢ 0) text
no_zero_in [] e = tt
no_zero_in (byte ∷ text) e =
    let parts = or_parts (eqb byte 0) (has_zero text) e in ((λ z. absurd (eqb-false byte 0 parts.0 z)), no_zero_in text parts.1)

pub no_zero_found : (text : List ℕ) → AllByRecursion (λ byte. byte ≢ 0) text → has_zero text ≡ false
no_zero_found [] h = refl
no_zero_found (byte ∷ text) h = rw (false_from (eqb byte 0) (λ e. h.0 (eqb-true byte 0 e))) (no_zero_found text h.1)

-- what stands before the last byte, and that byte
pub same_end : (rest text : List ℕ) (last : ℕ) → rest ++ last ∷ [] ≡ text ++ 0 ∷ [] → (rest ≡ text) × (last ≡ 0)
same_end [] [] last e = (refl, cc)
same_end [] (y ∷ text) last e = absurd (omega (arith, ap length e, length-append text (0 ∷ [])))
same_end (x ∷ rest) [] last e = absurd (omega (arith, ap length e, length-append rest (last ∷ [])))
same_end (x ∷ rest) (y ∷ text) last e =
    let same = same_end rest text last (ap (drop 1) e) in
    let head : x ≡ y = ap (λ l. get_or l 0 0) e in
    let behind = same.0 in
    (cc, same.1)
