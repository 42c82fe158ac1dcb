-- What stands at a place of a list, of the list with one more element, and of its beginning.
use Rattle.std.proofs.Common.{◌≡◌, ◌⊎◌, ℕ, zero, suc, ◌<◌, List, [], ◌∷◌, ◌++◌, length, take, slice_get, Option, Some, None, IsSomeAnd, inl, inr, refl, ap, subst, arith}
use mathlib.Core.Logic.{⊎_elim}

pub at_within : {X : Type 0} (P : X → Type 0) (xs : List X) (k : ℕ) → IsSomeAnd (slice_get xs k) P → k < length xs
at_within P [] k h = absurd h
at_within P (x ∷ xs) zero h = omega arith
at_within P (x ∷ xs) (suc k) h = let r = at_within P xs k h in omega arith

-- what stands at a place stays there
pub at_old : {X : Type 0} (P : X → Type 0) (xs : List X) (x : X) (k : ℕ) → IsSomeAnd (slice_get xs k) P
    → IsSomeAnd (slice_get (xs ++ x ∷ []) k) P
at_old P [] x k h = absurd h
at_old P (y ∷ xs) x zero h = h
at_old P (y ∷ xs) x (suc k) h = at_old P xs x k h

-- the new element stands at the end
pub at_new : {X : Type 0} (P : X → Type 0) (xs : List X) (x : X) → P x → IsSomeAnd (slice_get (xs ++ x ∷ []) (length xs)) P
at_new P [] x h = h
at_new P (y ∷ xs) x h = at_new P xs x h

-- what stands at a place stood there, or is the new element
pub at_either : {X : Type 0} (P : X → Type 0) (xs : List X) (x : X) (k : ℕ) → IsSomeAnd (slice_get (xs ++ x ∷ []) k) P
    → IsSomeAnd (slice_get xs k) P ⊎ ((k ≡ length xs) × P x)
at_either P [] x zero h = inr (refl, h)
at_either P [] x (suc k) h = absurd h
at_either P (y ∷ xs) x zero h = inl h
at_either P (y ∷ xs) x (suc k) h =
    ⊎_elim (λ l. inl l) (λ r. inr (ap suc r.0, r.1)) (at_either P xs x k h)

-- what stands at a place of a beginning
pub at_taken : {X : Type 0} (P : X → Type 0) (xs : List X) (n k : ℕ) → k < n → IsSomeAnd (slice_get xs k) P
    → IsSomeAnd (slice_get (take n xs) k) P
at_taken P [] n k l h = absurd h
at_taken P (x ∷ xs) zero k l h = absurd (omega arith)
at_taken P (x ∷ xs) (suc n) zero l h = h
at_taken P (x ∷ xs) (suc n) (suc k) l h = at_taken P xs n k (omega arith) h

pub at_from_taken : {X : Type 0} (P : X → Type 0) (xs : List X) (n k : ℕ) → IsSomeAnd (slice_get (take n xs) k) P
    → IsSomeAnd (slice_get xs k) P
at_from_taken P [] zero k h = absurd h
at_from_taken P [] (suc n) k h = absurd h
at_from_taken P (x ∷ xs) zero k h = absurd h
at_from_taken P (x ∷ xs) (suc n) zero h = h
at_from_taken P (x ∷ xs) (suc n) (suc k) h = at_from_taken P xs n k h

-- an equation as a fact of the value, and back
pub some_and : {X : Type 0} (o : Option X) (x : X) → o ≡ Some x → IsSomeAnd o (λ y. y ≡ x)
some_and None x e = absurd (cc)
some_and (Some y) x e = cc

pub some_from : {X : Type 0} (o : Option X) (x : X) → IsSomeAnd o (λ y. y ≡ x) → o ≡ Some x
some_from None x h = absurd h
some_from (Some y) x h = ap (λ z. Some z) h

-- the value of which a fact holds
pub the_value : {X : Type 0} (P : X → Type 0) (o : Option X) → IsSomeAnd o P → (x : X) × (o ≡ Some x) × P x
the_value P None h = absurd h
the_value P (Some x) h = (x, refl, h)

pub and_holds : {X : Type 0} (P : X → Type 0) (o : Option X) (x : X) → o ≡ Some x → P x → IsSomeAnd o P
and_holds P None x e h = absurd (cc)
and_holds P (Some y) x e h =
    let same : x ≡ y = cc in subst P same h

-- two facts of one value
pub both : {X : Type 0} (P Q : X → Type 0) (o : Option X) → IsSomeAnd o P → IsSomeAnd o Q → IsSomeAnd o (λ x. P x × Q x)
both P Q None h k = absurd h
both P Q (Some x) h k = (h, k)

pub weaker : {X : Type 0} (P Q : X → Type 0) (o : Option X) → ((x : X) → P x → Q x) → IsSomeAnd o P → IsSomeAnd o Q
weaker P Q None f h = absurd h
weaker P Q (Some x) f h = f x h

-- a contradiction in a value
pub none_of : {X : Type 0} (P : X → Type 0) (o : Option X) → ((x : X) → P x → ⊥) → IsSomeAnd o P → ⊥
none_of P None f h = h
none_of P (Some x) f h = f x h
