-- Steps and draws, one after another.
use Rattle.std.proofs.Common.{List, [], ◌∷◌, ◌++◌, ◌≡◌, ℕ, zero, suc, ◌+◌, ◌*◌, ◌/◌, ◌%◌, ◌^◌, refl, ap, sym, ◌∙◌, arith, add-zero, add-suc}
use Rattle.relation_demo.specs.Draws.{step, after, draw}
use Rattle.relation_demo.specs.Load.{each_below}
use Rattle.std.proofs.lemmas.List.FromFn.{map-range_with_len_more}

pub after-after : (x m n : ℕ) → after (after x m) n ≡ after x (m + n)
unfolding after
after-after x m zero = rw add-zero refl
after-after x m (suc n) = rw add-suc (ap step (after-after x m n))

-- a draw behind others
pub draw-after : (x m n : ℕ) → draw (after x m) n ≡ draw x (m + n)
unfolding draw
draw-after x m n = ap (λ y. y / 2 ^ 33) (after-after x m (n + 1) ∙ ap (after x) (omega arith))

-- the product may be taken modulo 2^64 before the sum
pub stepped : (x : ℕ) → (x * 6364136223846793005 % 2 ^ 64 + 1442695040888963407) % 2 ^ 64 ≡ after x 1
unfolding after step
stepped x = omega arith

-- no step yet
pub after-none : (x : ℕ) → after x 0 ≡ x
unfolding after
after-none x = refl

-- some steps, and more behind them
pub after-more : (x m n k y z : ℕ) → y ≡ after x m → z ≡ after y n → m + n ≡ k → z ≡ after x k
after-more x m n k y z first then e = then ∙ ap (λ w. after w n) first ∙ after-after x m n ∙ ap (after x) e

-- one more of what f makes of each number
pub each_below-more : {X : Type 0} (f : ℕ → X) (n : ℕ) (xs ys : List X) (x : X) → xs ≡ each_below n f → ys ≡ xs ++ x ∷ [] → x ≡ f n
    → ys ≡ each_below (n + 1) f
each_below-more f n xs ys x before grown is =
    grown ∙ ap (λ l. l ++ x ∷ []) before ∙ ap (λ y. each_below n f ++ y ∷ []) is ∙ sym (map-range_with_len_more f 0 n n (omega arith))

-- a draw behind some steps
pub next_draw : (x m n y : ℕ) → y ≡ after x m → m + 0 ≡ n → draw y 0 ≡ draw x n
next_draw x m n y e f = ap (λ w. draw w 0) e ∙ draw-after x m 0 ∙ ap (draw x) f
