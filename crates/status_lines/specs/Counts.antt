-- Counts of faults, before a call and after it.
use Rattle.std.specs.Prelude.{ℕ, List, [], ◌∷◌, ◌≤◌}

-- No count has fallen. The lists have the same counts in the same order, the first before a call, the second after it.
abbrev pub CountsNeverFall : List ℕ → List ℕ → Type 0
CountsNeverFall [] [] = Unit {0}
CountsNeverFall (count ∷ before) (new_count ∷ after) = (count ≤ new_count) × CountsNeverFall before after
CountsNeverFall _ _ = ⊥

-- What comes of an order is so, between what surrounded the program before and what does after, and no count has fallen.
pub record ComesTo {A B : Type 0} (Came : A → B → B → Type 0) (counts : B → List ℕ) (outcome : A) (old new : B) : Type 0 where
  pub came : Came outcome old new
  pub never_falls : CountsNeverFall (counts old) (counts new)
