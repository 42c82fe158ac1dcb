-- Which shifts of two rotas share a moment.
use Rattle.std.specs.Prelude.{ℕ, ◌+◌, ◌<◌, ◌≡◌, ◌⊎◌, List, length, slice_index_or, ℤ, pos, ◌≤ℤ◌, ◌<ℤ◌}
use Rattle.std.specs.List.{All, AllPairs, Contains}
use Rattle.rota_moments.specs.declared.moment.Moment.{Moment}
use Rattle.rota_moments.specs.Moments.{moment, instant}

-- the instant of the moment at this place
abbrev pub instant_at : List Moment → ℕ → ℤ
instant_at moments i = instant (slice_index_or moments i (moment (pos 0) 0))

-- A shift lasts from its moment up to the next one, at which it isn't on any more. So there is one shift fewer than moments, and a shift
-- whose next moment isn't later is on at no instant.
abbrev pub IsOn : List Moment → ℕ → ℤ → Type 0
IsOn moments i t = (i + 1 < length moments) × (instant_at moments i ≤ℤ t) × (t <ℤ instant_at moments (i + 1))

-- both shifts are on at some instant
abbrev pub Clash : List Moment → List Moment → ℕ → ℕ → Type 0
Clash first second i j = (t : ℤ) × IsOn first i t × IsOn second j t

-- by the first number, and then by the second
abbrev pub ComesBefore : ℕ × ℕ → ℕ × ℕ → Type 0
ComesBefore a b = (a.0 < b.0) ⊎ ((a.0 ≡ b.0) × (a.1 < b.1))

-- All pairs of shifts that clash, each once, sorted by the first number and then by the second.
pub record AreClashes (first second : List Moment) (pairs : List (ℕ × ℕ)) : Type 0 where
  pub clash : All (λ p. Clash first second p.0 p.1) pairs
  pub all : (i j : ℕ) → Clash first second i j → Contains pairs (i, j)
  pub in_order : AllPairs ComesBefore pairs
