use Rattle.std.proofs.Common.{ℤ, pos, negsuc, ◌≤ℤ◌, [], ◌∷◌, FitsSigned, subst, sym, inl, inr, arith, rules}
use Rattle.std.specs.Prelude.{int_div, int_rem}
use Rattle.std.specs.Int.{w32, w64}
use Rattle.std.proofs.lemmas.List.Elements.{All-cons, All-nil}
use Rattle.std.proofs.lemmas.Int.{to_z-of_z, quot_fits, ints}
use Rattle.pg_interval.specs.declared.pg_interval.Interval.{Interval}
use Rattle.pg_interval.specs.declared.interval_norm.IntervalNorm.{IntervalNorm}
use Rattle.pg_interval.specs.NormalForm.{normal_form, HaveOneSign}
use Rattle.pg_interval.proofs.NormalFormLemmas.{rem_fits, time_signs-normal_form}
use Rattle.pg_interval.proofs.interval_norm.IntervalNormFromRefInterval.from.Goals as goal

-- years and months have no opposite signs
date_signs : (m : ℤ) → HaveOneSign (int_div m (pos 12) ∷ int_rem m (pos 12) ∷ [])
date_signs (pos a) =
    let years : pos 0 ≤ℤ int_div (pos a) (pos 12) = omega (arith, ints) in
    let months : pos 0 ≤ℤ int_rem (pos a) (pos 12) = omega (arith, ints) in
    inl (All-cons (λ z. pos 0 ≤ℤ z) _ (int_rem (pos a) (pos 12) ∷ []) years
    (All-cons (λ z. pos 0 ≤ℤ z) _ [] months (All-nil (λ z. pos 0 ≤ℤ z))))
date_signs (negsuc a) =
    let years : int_div (negsuc a) (pos 12) ≤ℤ pos 0 = omega (arith, ints) in
    let months : int_rem (negsuc a) (pos 12) ≤ℤ pos 0 = omega (arith, ints) in
    inr (All-cons (λ z. z ≤ℤ pos 0) _ (int_rem (negsuc a) (pos 12) ∷ []) years
    (All-cons (λ z. z ≤ℤ pos 0) _ [] months (All-nil (λ z. z ≤ℤ pos 0))))

date_signs-normal_form : (i : Interval) → let n = normal_form i in HaveOneSign (n.years ∷ n.months ∷ [])
unfolding normal_form
date_signs-normal_form i = date_signs i.months

pub returns-clause-form : goal.returns-clause-form
unfolding normal_form
returns-clause-form c =
    let i = c.args.val.now in
    let all_months : FitsSigned w32 i.months = search rules in
    let days : FitsSigned w32 i.days = search rules in
    let time : FitsSigned w64 i.microseconds = search rules in
    let years : FitsSigned w32 (int_div i.months (pos 12)) = quot_fits w32 _ _ all_months (record { lt = tt }) in
    let months : FitsSigned w32 (int_rem i.months (pos 12)) = rem_fits w32 _ _ all_months in
    let hours : FitsSigned w64 (int_div i.microseconds (pos 3600000000)) = quot_fits w64 _ _ time (record { lt = tt }) in
    let all_minutes : FitsSigned w64 (int_div i.microseconds (pos 60000000)) = quot_fits w64 _ _ time (record { lt = tt }) in
    let minutes : FitsSigned w64 (int_rem (int_div i.microseconds (pos 60000000)) (pos 60)) = rem_fits w64 _ _ all_minutes in
    let all_seconds : FitsSigned w64 (int_div i.microseconds (pos 1000000)) = quot_fits w64 _ _ time (record { lt = tt }) in
    let seconds : FitsSigned w64 (int_rem (int_div i.microseconds (pos 1000000)) (pos 60)) = rem_fits w64 _ _ all_seconds in
    let microseconds : FitsSigned w64 (int_rem i.microseconds (pos 1000000)) = rem_fits w64 _ _ time in
    simp to_z-of_z

pub returns-clause-time_signs : goal.returns-clause-time_signs
returns-clause-time_signs c =
    let OneSign : IntervalNorm → Type 0 = λ n. HaveOneSign (n.hours ∷ n.minutes ∷ n.seconds ∷ n.microseconds ∷ []) in
    subst OneSign (sym (returns-clause-form c)) (time_signs-normal_form c.args.val.now)

pub returns-clause-date_signs : goal.returns-clause-date_signs
returns-clause-date_signs c =
    let OneSign : IntervalNorm → Type 0 = λ n. HaveOneSign (n.years ∷ n.months ∷ []) in
    subst OneSign (sym (returns-clause-form c)) (date_signs-normal_form c.args.val.now)
