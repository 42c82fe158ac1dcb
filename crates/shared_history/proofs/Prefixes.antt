-- Beginnings of one list.
use Rattle.std.proofs.Common.{◌≡◌, List, [], ◌∷◌, ◌++◌, refl, ap, sym, ◌∙◌, inl, inr, ⊎_elim, append_assoc}
use mathlib.Core.List.{IsPrefix}
use Rattle.shared_history.specs.Histories.{IsOneHistory}

-- each list begins with itself
pub prefix_self : {A : Type 0} (xs : List A) → IsPrefix xs xs
prefix_self [] = ([], refl)
prefix_self (x ∷ xs) = (let r = prefix_self xs in r.0, ap (λ ys. x ∷ ys) (prefix_self xs).1)

pub prefix_trans : {A : Type 0} (xs ys zs : List A) → IsPrefix xs ys → IsPrefix ys zs → IsPrefix xs zs
prefix_trans xs ys zs p q = (p.0 ++ q.0, sym (append_assoc xs p.0 q.0) ∙ (ap (λ w. w ++ q.0) p.1 ∙ q.1))

-- what begins a list begins it with one more behind
pub prefix_more : {A : Type 0} (xs ys : List A) (y : A) → IsPrefix xs ys → IsPrefix xs (ys ++ y ∷ [])
prefix_more xs ys y p = prefix_trans xs ys (ys ++ y ∷ []) p (y ∷ [], refl)

-- of two beginnings of one list one begins the other
pub prefix_one : {A : Type 0} (xs ys zs : List A) → IsPrefix xs zs → IsPrefix ys zs → IsOneHistory xs ys
prefix_one [] ys zs p q = inl (ys, refl)
prefix_one (x ∷ xs) [] zs p q = inr (x ∷ xs, refl)
prefix_one (x ∷ xs) (y ∷ ys) [] p q = absurd (cc (p.1))
prefix_one (x ∷ xs) (y ∷ ys) (z ∷ zs) p q =
    let heads : x ≡ y = cc (p.1, q.1) in
    ⊎_elim
    (λ (r : IsPrefix xs ys). inl (r.0, cc (heads, r.1)))
    (λ (r : IsPrefix ys xs). inr (r.0, cc (heads, r.1)))
    (prefix_one xs ys zs (p.0, cc (p.1)) (q.0, cc (q.1)))
