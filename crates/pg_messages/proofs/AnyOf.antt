-- Whether a number is one of a list, asked of one after another.
use Rattle.std.proofs.Common.{◌≡◌, ◌∙◌, ◌||◌, ℕ, Bool, true, false, List, [], ◌∷◌, refl, sym, eqb}
use Rattle.std.specs.Bool.{Decides}
use Rattle.std.specs.List.{Contains}
use Rattle.std.proofs.lemmas.Bool.Decides.{Decides-eqb, Decides-by_or}
use Rattle.std.proofs.lemmas.List.Elements.{Decides-contains}
use Rattle.std.proofs.Math.Bool.{or_assoc}

abbrev pub any_of : ℕ → List ℕ → Bool
any_of x [] = false
any_of x (y ∷ ys) = eqb y x || any_of x ys

-- the same, from the left
abbrev pub any_behind : ℕ → Bool → List ℕ → Bool
any_behind x known [] = known
any_behind x known (y ∷ ys) = any_behind x (known || eqb y x) ys

or_false : (b : Bool) → (b || false) ≡ b
or_false true = refl
or_false false = refl

any_behind_is : (x : ℕ) (known : Bool) (ys : List ℕ) → any_behind x known ys ≡ (known || any_of x ys)
any_behind_is x known [] = sym (or_false known)
any_behind_is x known (y ∷ ys) = any_behind_is x (known || eqb y x) ys ∙ or_assoc known (eqb y x) (any_of x ys)

any_of_decides : (xs : List ℕ) (x : ℕ) → Decides (any_of x xs) (Contains xs x)
any_of_decides xs x = Decides-contains xs x (any_of x xs)
    (Decides-by_or (λ y. eqb y x) (λ y. y ≡ x) (any_of x) (λ y. Decides-eqb y x) refl (λ y ys. refl) xs)

pub any_behind_decides : (first : ℕ) (xs : List ℕ) (x : ℕ) → Decides (any_behind x (eqb first x) xs) (Contains (first ∷ xs) x)
any_behind_decides first xs x = rw (any_behind_is x (eqb first x) xs) (any_of_decides (first ∷ xs) x)
