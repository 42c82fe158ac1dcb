-- The items of a maker from a position on, of which one is taken.
use Rattle.std.proofs.Common.{◌≡◌, ℕ, ◌+◌, List, ◌∷◌, Some, drop, ap, ◌∙◌}
use Rattle.std.specs.List.{slice_get}
use Rattle.std.proofs.lemmas.List.{drop_more}
use Rattle.std.proofs.lemmas.Option.{get_or_from_slice_get, slice_get_within}

pub taken : {A : Type 0} (xs : List A) (p : ℕ) (x : A) → slice_get xs p ≡ Some x → drop p xs ≡ x ∷ drop (p + 1) xs
taken xs p x h = drop_more xs p x (slice_get_within xs p x h) ∙ ap (λ y. y ∷ drop (p + 1) xs) (get_or_from_slice_get xs p x x h)
