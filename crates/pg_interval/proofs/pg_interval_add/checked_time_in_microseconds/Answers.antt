use Rattle.std.proofs.Common.{◌≡◌, pos, ◌*ℤ◌, FitsSigned, w64, refl, subst, rules}
use Rattle.std.specs.Int.{int_div_euclid}
use Rattle.std.proofs.lemmas.Int.{to_z-of_z}
use Rattle.pg_interval.specs.Arithmetic.{hours_and_minutes}
use Rattle.pg_interval.proofs.OptionLemmas.{SomeIff-along}
use Rattle.pg_interval.proofs.pg_interval_add.checked_time_in_microseconds.Goals as goal

pub returns : goal.returns
returns c =
    let hours : FitsSigned w64 c.args.hours = c.ranges.hours in
    let minutes : FitsSigned w64 c.args.minutes = c.ranges.minutes in
    let nanoseconds : FitsSigned w64 c.args.nanoseconds = c.ranges.nanoseconds in
    let hours_micro : FitsSigned w64 c.in_ok-hours_as_micro.hours_as_micro = search rules in
    let minutes_micro : FitsSigned w64 c.in_ok-minutes_as_micro.minutes_as_micro = search rules in
    let both_micro : FitsSigned w64 c.in_ok-checked_add.field-0 = search rules in
    let rest_micro : FitsSigned w64 c.div_euclid.result = search rules in
    let hours_fit : FitsSigned w64 (c.args.hours *ℤ pos 3600000000) = simp to_z-of_z at c.in_ok-hours_as_micro.ensures.0 in
    let minutes_fit : FitsSigned w64 (c.args.minutes *ℤ pos 60000000) = simp to_z-of_z at c.in_ok-minutes_as_micro.ensures.0 in
    let hours_is : c.in_ok-hours_as_micro.hours_as_micro ≡ c.args.hours *ℤ pos 3600000000 =
    simp to_z-of_z at c.in_ok-hours_as_micro.ensures.1 in
    let minutes_is : c.in_ok-minutes_as_micro.minutes_as_micro ≡ c.args.minutes *ℤ pos 60000000 =
    simp to_z-of_z at c.in_ok-minutes_as_micro.ensures.1 in
    let sum_fits : FitsSigned w64 (hours_and_minutes c.args.hours c.args.minutes) =
    simp (to_z-of_z, hours_is, minutes_is) at c.in_ok-checked_add.ensures.0 in
    let sum_is : c.in_ok-checked_add.field-0 ≡ hours_and_minutes c.args.hours c.args.minutes =
    simp (to_z-of_z, hours_is, minutes_is) at c.in_ok-checked_add.ensures.1 in
    let rest_is : c.div_euclid.result ≡ int_div_euclid c.args.nanoseconds (pos 1000) = simp to_z-of_z at c.div_euclid.ensures in
    let rest_fits : FitsSigned w64 (int_div_euclid c.args.nanoseconds (pos 1000)) = subst (FitsSigned w64) rest_is rest_micro in
    let last = simp (to_z-of_z, sum_is, rest_is) at c.checked_add-2.ensures in
    SomeIff-along _ _ _ _ _ last
    (λ fits. record { hours_fit = hours_fit; minutes_fit = minutes_fit; sum_fits = sum_fits; all_fits = fits })
    (λ time. time.all_fits)
    refl
