-- What is true of each element that was read so far, and of one more, and of all.
use Rattle.std.proofs.Common.{ℕ, ◌+◌, ◌<◌, ◌≤◌, List, length, take, get_or, subst}
use Rattle.std.specs.List.{AllByRecursion}
use Rattle.std.proofs.lemmas.List.{take_all}
use Rattle.std.proofs.lemmas.List.Elements.{All-from_recursion, recursion_from_All, All-more}

-- each of the first so many
abbrev pub ReadSo : {A : Type 0} → (A → Type 0) → List A → ℕ → Type 0
ReadSo P xs n = AllByRecursion P (take n xs)

pub none : {A : Type 0} (P : A → Type 0) (xs : List A) → ReadSo P xs 0
none P xs = tt

pub more : {A : Type 0} (P : A → Type 0) (xs : List A) (i : ℕ) (d : A) → i < length xs → ReadSo P xs i → P (get_or xs i d)
    → ReadSo P xs (i + 1)
more P xs i d inside h p =
    recursion_from_All P (take (i + 1) xs) (All-more P xs i d inside (All-from_recursion P (take i xs) h) p)

pub whole : {A : Type 0} (P : A → Type 0) (xs : List A) (n : ℕ) → length xs ≤ n → ReadSo P xs n → AllByRecursion P xs
whole P xs n h k = subst (AllByRecursion P) (take_all n xs h) k
