-- The moments of a rota, taken from the front; and the sums of its first steps.
use Rattle.std.proofs.Common.{inl, inr, ◌≡◌, ℕ, zero, suc, ◌+◌, ◌<◌, List, [], ◌∷◌, ◌++◌, length, take, drop, get_or, Result, Ok, Err, refl, sym, ap, ◌∙◌, arith, ℤ, ◌+ℤ◌}
use Rattle.std.proofs.lemmas.List.{append_assoc, length-append}
use Rattle.std.proofs.Math.Seq.{drop-cons}
use Rattle.std.proofs.lemmas.Bool.{cases_lt}
use Rattle.jiff_core.proofs.SignedLemmas.{signed_arith}
use Rattle.pg_interval.specs.declared.pg_interval.Interval.{Interval}
use Rattle.rota_moments.specs.declared.moment.Moment.{Moment}
use Rattle.pg_interval.specs.Arithmetic.{interval_sum}
use Rattle.pg_interval.specs.Cell.{IsInterval}
use Rattle.rota_moments.specs.declared.moment.RangeError.{RangeError}
use Rattle.rota_moments.specs.Moments.{moment_after}
use Rattle.rota_moments.specs.Rotas.{Refusal, then_moments, moments_of, sum_of, months_of, days_of, micros_of, SumFits, SumsFit}

-- what comes of steps behind these moments
abbrev pub after_front : List Moment → Result (List Moment) Refusal → Result (List Moment) Refusal
after_front front (Ok moments) = Ok (front ++ moments)
after_front front (Err refusal) = Err (record { place = length front + refusal.place; reason = refusal.reason })

pub after_front-empty : (r : Result (List Moment) Refusal) → r ≡ after_front [] r
after_front-empty (Ok moments) = refl
after_front-empty (Err refusal) = let e : 0 + refusal.place ≡ refusal.place = omega arith in rw e refl

pub after_front-then : (front : List Moment) (m : Moment) (r : Result (List Moment) Refusal)
    → after_front front (then_moments m r) ≡ after_front (front ++ m ∷ []) r
after_front-then front m (Ok moments) = ap (λ ms. Ok ms) (sym (append_assoc front (m ∷ []) moments))
after_front-then front m (Err refusal) =
    let e : length (front ++ m ∷ []) + refusal.place ≡ length front + (refusal.place + 1) = omega (arith, length-append front (m ∷ [])) in
    rw e refl

-- with a step more, a sum has grown by its number
pub sum_of-take : (number : Interval → ℤ) (steps : List Interval) (j : ℕ) (d : Interval) → j < length steps
    → sum_of number (take (j + 1) steps) ≡ sum_of number (take j steps) +ℤ number (get_or steps j d)
sum_of-take number [] j d h = absurd (omega arith)
sum_of-take number (s ∷ steps) zero d h = omega (arith, signed_arith)
sum_of-take number (s ∷ steps) (suc j) d h =
    let e : suc j + 1 ≡ suc (j + 1) = omega arith in
    rw e (omega (arith, signed_arith, sum_of-take number steps j d (omega arith)))

-- the sums of the first steps are the three numbers
pub record AreSums (sum : Interval) (steps : List Interval) (j : ℕ) : Type 0 where
  pub months : sum.months ≡ months_of (take j steps)
  pub days : sum.days ≡ days_of (take j steps)
  pub micros : sum.microseconds ≡ micros_of (take j steps)

pub sums-more : (sum : Interval) (steps : List Interval) (j : ℕ) (d : Interval) → j < length steps → AreSums sum steps j
    → AreSums (interval_sum sum (get_or steps j d)) steps (j + 1)
sums-more sum steps j d h are = record {
  months = ap (λ z. z +ℤ (get_or steps j d).months) are.months ∙ sym (sum_of-take (λ step. step.months) steps j d h);
  days = ap (λ z. z +ℤ (get_or steps j d).days) are.days ∙ sym (sum_of-take (λ step. step.days) steps j d h);
  micros = ap (λ z. z +ℤ (get_or steps j d).microseconds) are.micros ∙ sym (sum_of-take (λ step. step.microseconds) steps j d h);
}

fits_by : (sum : Interval) (steps : List Interval) (j : ℕ) → AreSums sum steps j → IsInterval sum → SumFits (take j steps)
fits_by sum steps j are fits =
    rw (← are.months, ← are.days, ← are.micros) (fits.months, fits.days, fits.microseconds)

fitting_by : (sum : Interval) (steps : List Interval) (j : ℕ) → AreSums sum steps j → SumFits (take j steps) → IsInterval sum
fitting_by sum steps j are fits = record {
  months = rw are.months fits.0;
  days = rw are.days fits.1;
  microseconds = rw are.micros fits.2;
}

-- a sum that is no interval
pub no_sum : (sum : Interval) (steps : List Interval) (j : ℕ) (d : Interval) → j < length steps → AreSums sum steps j
    → (IsInterval (interval_sum sum (get_or steps j d)) → ⊥) → SumFits (take (j + 1) steps) → ⊥
no_sum sum steps j d h are not fits = not (fitting_by _ steps (j + 1) (sums-more sum steps j d h are) fits)

-- one more sum that is
pub one_sum : (sum : Interval) (steps : List Interval) (j : ℕ) (d : Interval) → j < length steps → AreSums sum steps j
    → IsInterval (interval_sum sum (get_or steps j d)) → SumsFit steps j → SumsFit steps (j + 1)
one_sum sum steps j d h are fits before k within =
    elim (cases_lt j k) [
      | inr le ↦ before k le
      | inl more ↦
          let e : k ≡ j + 1 = omega arith in
          rw e (fits_by _ steps (j + 1) (sums-more sum steps j d h are) fits)
    ]

-- a step that is refused behind these moments
pub refused_at : (front : List Moment) (steps : List Interval) (last : Moment) (j : ℕ) (d : Interval) (reason : RangeError)
    → j < length steps
    → moment_after last (get_or steps j d) ≡ Err reason
    → after_front front (moments_of (drop j steps) last) ≡ Err (record { place = length front; reason = reason })
refused_at front steps last j d reason h e =
    let split = drop-cons steps j d h in
    let zero_more : length front + 0 ≡ length front = omega arith in
    rw split (rw e (rw zero_more refl))

-- a step that leads to a moment more
pub moved_at : (front : List Moment) (steps : List Interval) (last next : Moment) (j : ℕ) (d : Interval) → j < length steps
    → moment_after last (get_or steps j d) ≡ Ok next
    → after_front front (moments_of (drop j steps) last) ≡ after_front (front ++ last ∷ []) (moments_of (drop (j + 1) steps) next)
moved_at front steps last next j d h e =
    let one : suc j ≡ j + 1 = omega arith in
    let split = rw one at (drop-cons steps j d h) in
    rw split (rw e ((after_front-then front last (moments_of (drop (j + 1) steps) next))))
