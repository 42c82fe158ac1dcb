-- The generator of the load. A part of the load is a function of the generator's number before the part's first draw.
use Rattle.std.specs.Prelude.{ℕ, zero, suc, ◌+◌, ◌*◌, ◌/◌, ◌%◌, ◌^◌}

-- a step takes the generator's number to this number
unfoldable pub step : ℕ → ℕ
step x = (x * 6364136223846793005 + 1442695040888963407) % 2 ^ 64

-- the number after n steps
unfoldable pub after : ℕ → ℕ → ℕ
after x zero = x
after x (suc n) = step (after x n)

-- draw n, from 0: the number after one step more, divided by 2^33 and rounded down
unfoldable pub draw : ℕ → ℕ → ℕ
draw x n = after x (n + 1) / 2 ^ 33
