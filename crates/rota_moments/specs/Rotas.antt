-- The moments of a rota, and the total of its steps.
use Rattle.std.specs.Prelude.{ℕ, ◌+◌, ◌<◌, ◌≤◌, ◌≡◌, List, [], ◌∷◌, take, length, ℤ, pos, ◌+ℤ◌, FitsSigned, Result, Ok, Err}
use Rattle.std.specs.Int.{w32, w64}
use Rattle.pg_interval.specs.declared.pg_interval.Interval.{Interval}
use Rattle.rota_moments.specs.declared.moment.Moment.{Moment}
use Rattle.rota_moments.specs.declared.moment.RangeError.{RangeError}
use Rattle.rota_moments.specs.declared.rotas.RotaError.{RotaError}
use Rattle.rota_moments.specs.declared.rotas.RotaError.TheVariants.{OutOfRange, NoMemory}
use Rattle.rota_moments.specs.Moments.{moment_after}

-- a step that is refused: its place, counted from 0, and why
pub record Refusal : Type 0 where
  pub place : ℕ
  pub reason : RangeError

-- the moments with one before them; a refusal is a place further on
abbrev pub then_moments : Moment → Result (List Moment) Refusal → Result (List Moment) Refusal
then_moments m (Ok moments) = Ok (m ∷ moments)
then_moments m (Err refusal) = Err (record { place = refusal.place + 1; reason = refusal.reason })

-- the moment, and the moments that follow from the next one; or the refusal of its step
abbrev pub then_from : Moment → Result Moment RangeError → (Moment → Result (List Moment) Refusal) → Result (List Moment) Refusal
then_from m (Ok next) rest = then_moments m (rest next)
then_from m (Err reason) rest = Err (record { place = 0; reason = reason })

-- Start, and each moment plus its step; or the first step that is refused.
abbrev pub moments_of : List Interval → Moment → Result (List Moment) Refusal
moments_of [] start = Ok (start ∷ [])
moments_of (step ∷ steps) start = then_from start (moment_after start step) (λ next. moments_of steps next)

-- what a rota answers: its moments or its first refusal, or nothing for want of memory
abbrev pub IsRota : Moment → List Interval → Result (List Moment) RotaError → Type 0
IsRota start steps (Ok moments) = moments_of steps start ≡ Ok moments
IsRota start steps (Err (OutOfRange place reason)) = moments_of steps start ≡ Err (record { place = place; reason = reason })
IsRota start steps (Err NoMemory) = Unit {0}

-- the sum of one number of each step
abbrev pub sum_of : (Interval → ℤ) → List Interval → ℤ
sum_of number [] = pos 0
sum_of number (step ∷ steps) = number step +ℤ sum_of number steps

-- the sums of the months, of the days and of the microseconds
abbrev pub months_of : List Interval → ℤ
months_of steps = sum_of (λ (step : Interval). step.months) steps

abbrev pub days_of : List Interval → ℤ
days_of steps = sum_of (λ (step : Interval). step.days) steps

abbrev pub micros_of : List Interval → ℤ
micros_of steps = sum_of (λ (step : Interval). step.microseconds) steps

-- the sums of these steps are an interval's
abbrev pub SumFits : List Interval → Type 0
SumFits steps = FitsSigned w32 (months_of steps) × FitsSigned w32 (days_of steps) × FitsSigned w64 (micros_of steps)

-- the sums of the first steps fit, as far as n steps
abbrev pub SumsFit : List Interval → ℕ → Type 0
SumsFit steps n = (k : ℕ) → k ≤ n → SumFits (take k steps)

-- The total of steps: the three sums, where each sum on the way is an interval's; or else the first step whose sum is none.
abbrev pub IsTotal : List Interval → Result Interval ℕ → Type 0
IsTotal steps (Ok total) =
    (total.months ≡ months_of steps) × (total.days ≡ days_of steps) × (total.microseconds ≡ micros_of steps)
    × SumsFit steps (length steps)
IsTotal steps (Err place) = (place < length steps) × SumsFit steps place × ¬ (SumFits (take (place + 1) steps))
