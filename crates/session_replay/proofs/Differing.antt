-- Where two lists differ first.
use Rattle.std.proofs.Common.{◌≡◌, ◌≤◌, ◌<◌, ◌++◌, ℕ, zero, suc, arith, List, [], ◌∷◌, length, take, drop, refl, sym, ap, ◌∙◌}
use Rattle.std.specs.Prelude.{slice_get}
use Rattle.std.proofs.lemmas.List.{take-append-drop, take-append-le}
use Rattle.session_replay.specs.Verdicts.{DiffersAt}

take_whole : {A : Type 0} (xs : List A) (n : ℕ) → length xs ≤ n → take n xs ≡ xs
take_whole [] zero h = refl
take_whole [] (suc n) h = refl
take_whole (x ∷ xs) zero h = absurd (omega arith)
take_whole (x ∷ xs) (suc n) h = ap (λ l. x ∷ l) (take_whole xs n (omega arith))

get_front : {A : Type 0} (front others : List A) (n : ℕ) → n < length front → slice_get (front ++ others) n ≡ slice_get front n
get_front [] others n h = absurd (omega arith)
get_front (x ∷ front) others zero h = refl
get_front (x ∷ front) others (suc n) h = get_front front others n (omega arith)

-- A place where one list differs from another, and which it has, is where whatever goes on from it differs.
pub differs_behind : {A : Type 0} (front others ys : List A) (place : ℕ) → DiffersAt front ys place → place < length front
    → DiffersAt (front ++ others) ys place
differs_behind front others ys place d less = record {
  before = take-append-le place front others (let l = less in omega (arith, l)) ∙ d.before;
  there = λ e. d.there (sym (get_front front others place less) ∙ e);
}

-- A list that differs from another where it has ended is a front of it.
pub ended_front : {A : Type 0} (xs ys : List A) (place : ℕ) → DiffersAt xs ys place → length xs ≤ place → ys ≡ xs ++ drop place ys
ended_front xs ys place d h =
    sym (take-append-drop place ys) ∙ ap (λ l. l ++ drop place ys) (sym d.before ∙ take_whole xs place h)

-- equal lists differ nowhere
pub differs_nowhere : {A : Type 0} (xs ys : List A) (place : ℕ) → xs ≡ ys → DiffersAt xs ys place → ⊥
differs_nowhere xs ys place e d = d.there (ap (λ l. slice_get l place) e)
