-- A part of a list of bytes is a list of bytes.
use Rattle.std.proofs.Common.{◌<◌, ℕ, zero, suc, List, [], ◌∷◌, get_or, take, drop, arith}

pub taken_fit : (n : ℕ) (xs : List ℕ) → ((k : ℕ) → get_or xs k 0 < 256) → (i : ℕ) → get_or (take n xs) i 0 < 256
taken_fit zero xs h i = omega arith
taken_fit (suc n) [] h i = h i
taken_fit (suc n) (x ∷ xs) h zero = h 0
taken_fit (suc n) (x ∷ xs) h (suc i) = taken_fit n xs (λ k. h (suc k)) i

pub left_fit : (n : ℕ) (xs : List ℕ) → ((k : ℕ) → get_or xs k 0 < 256) → (i : ℕ) → get_or (drop n xs) i 0 < 256
left_fit zero xs h i = h i
left_fit (suc n) [] h i = h i
left_fit (suc n) (x ∷ xs) h i = left_fit n xs (λ k. h (suc k)) i
