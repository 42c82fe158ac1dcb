-- One byte of whitespace more, or the first byte that isn't whitespace, at either end of a text.
use Rattle.std.proofs.Common.{◌≡◌, ℕ, suc, ◌+◌, ◌<◌, Bool, true, false, cond, ◌&&◌, List, [], ◌∷◌, ◌++◌, length, get_or, take, drop, refl, sym, ap, ◌∙◌, add-one}
use Rattle.std.proofs.Math.Bool.{and-true}
use Rattle.std.proofs.Math.Seq.{drop-cons, take-suc}
use Rattle.std.proofs.lemmas.List.Folds.{list_all-append}
use Rattle.std.proofs.lemmas.List.Sums.{take_while-cons}
use Rattle.std.specs.List.{list_all, take_while}
use Rattle.pg_interval.specs.Texts.{is_whitespace}
use Rattle.pg_interval.specs.PostgresText.{trimmed_start, trimmed_end}

-- what remains of a byte and the bytes behind it
start_cases : (c : ℕ) (cs : List ℕ) (p : Bool)
    → drop (length (cond p (c ∷ take_while is_whitespace cs) [])) (c ∷ cs) ≡ cond p (trimmed_start cs) (c ∷ cs)
start_cases c cs true = refl
start_cases c cs false = refl

start_of : (c : ℕ) (cs : List ℕ) (p : Bool) → is_whitespace c ≡ p → trimmed_start (c ∷ cs) ≡ cond p (trimmed_start cs) (c ∷ cs)
start_of c cs p e =
    ap (λ front. drop (length front) (c ∷ cs)) (take_while-cons is_whitespace c cs)
    ∙ ap (λ q. drop (length (cond q (c ∷ take_while is_whitespace cs) [])) (c ∷ cs)) e
    ∙ start_cases c cs p

pub start_step : (bs : List ℕ) (i : ℕ) → i < length bs → is_whitespace (get_or bs i 0) ≡ true
    → trimmed_start (drop (i + 1) bs) ≡ trimmed_start (drop i bs)
start_step bs i h e = ap (λ n. trimmed_start (drop n bs)) (add-one i)
    ∙ sym (ap trimmed_start (drop-cons bs i 0 h) ∙ start_of (get_or bs i 0) (drop (suc i) bs) true e)

pub start_stop : (bs : List ℕ) (i : ℕ) → i < length bs → is_whitespace (get_or bs i 0) ≡ false
    → drop i bs ≡ trimmed_start (drop i bs)
start_stop bs i h e = drop-cons bs i 0 h
    ∙ sym (ap trimmed_start (drop-cons bs i 0 h) ∙ start_of (get_or bs i 0) (drop (suc i) bs) false e)

-- a byte more at the end
all_with : (xs : List ℕ) (c : ℕ) (p : Bool) → is_whitespace c ≡ p
    → list_all is_whitespace (xs ++ c ∷ []) ≡ (list_all is_whitespace xs && (p && true))
all_with xs c p e = list_all-append is_whitespace xs (c ∷ []) ∙ ap (λ q. list_all is_whitespace xs && (q && true)) e

and_false : (b : Bool) → (b && false) ≡ false
and_false true = refl
and_false false = refl

end_space : (xs : List ℕ) (c : ℕ) → is_whitespace c ≡ true → trimmed_end (xs ++ c ∷ []) ≡ trimmed_end xs
end_space [] c e = ap (λ q. cond (q && true) [] (c ∷ [])) e
end_space (x ∷ xs) c e =
    ap (λ q. cond q [] (x ∷ trimmed_end (xs ++ c ∷ []))) (all_with (x ∷ xs) c true e ∙ and-true (list_all is_whitespace (x ∷ xs)))
    ∙ ap (λ r. cond (list_all is_whitespace (x ∷ xs)) [] (x ∷ r)) (end_space xs c e)

end_other : (xs : List ℕ) (c : ℕ) → is_whitespace c ≡ false → trimmed_end (xs ++ c ∷ []) ≡ xs ++ c ∷ []
end_other [] c e = ap (λ q. cond (q && true) [] (c ∷ [])) e
end_other (x ∷ xs) c e =
    ap (λ q. cond q [] (x ∷ trimmed_end (xs ++ c ∷ []))) (all_with (x ∷ xs) c false e ∙ and_false (list_all is_whitespace (x ∷ xs)))
    ∙ ap (λ r. x ∷ r) (end_other xs c e)

pub end_step : (bs : List ℕ) (i : ℕ) → i < length bs → is_whitespace (get_or bs i 0) ≡ true
    → trimmed_end (take i bs) ≡ trimmed_end (take (i + 1) bs)
end_step bs i h e = sym (ap (λ n. trimmed_end (take n bs)) (add-one i)
    ∙ ap trimmed_end (take-suc bs i 0 h) ∙ end_space (take i bs) (get_or bs i 0) e)

pub end_stop : (bs : List ℕ) (i : ℕ) → i < length bs → is_whitespace (get_or bs i 0) ≡ false
    → take (i + 1) bs ≡ trimmed_end (take (i + 1) bs)
end_stop bs i h e = sym (ap (λ n. trimmed_end (take n bs)) (add-one i) ∙ ap trimmed_end (take-suc bs i 0 h)
    ∙ end_other (take i bs) (get_or bs i 0) e ∙ sym (take-suc bs i 0 h) ∙ sym (ap (λ n. take n bs) (add-one i)))
