use Rattle.std.proofs.Common.{◌≡◌, pos, ◌*ℤ◌, FitsSigned, w64, subst}
use Rattle.std.proofs.lemmas.Int.{to_z-of_z}
use Rattle.std.specs.Int.{int_div_euclid}
use Rattle.pg_interval.specs.Arithmetic.{hours_and_minutes, time_amount}
use Rattle.pg_interval.proofs.pg_interval_add.time_in_microseconds.Goals as goal

pub overflow_mul-hours_as_micro : goal.overflow_mul-hours_as_micro
overflow_mul-hours_as_micro c =
    let hours : FitsSigned w64 c.args.hours = c.ranges.hours in
    simp to_z-of_z c.requires.hours_fit

pub overflow_mul-minutes_as_micro : goal.overflow_mul-minutes_as_micro
overflow_mul-minutes_as_micro c =
    let minutes : FitsSigned w64 c.args.minutes = c.ranges.minutes in
    simp to_z-of_z c.requires.minutes_fit

pub overflow_add-result : goal.overflow_add-result
overflow_add-result c =
    let hours : FitsSigned w64 c.args.hours = c.ranges.hours in
    let minutes : FitsSigned w64 c.args.minutes = c.ranges.minutes in
    let hours_fit : FitsSigned w64 (c.args.hours *ℤ pos 3600000000) = c.requires.hours_fit in
    let minutes_fit : FitsSigned w64 (c.args.minutes *ℤ pos 60000000) = c.requires.minutes_fit in
    simp to_z-of_z c.requires.sum_fits

pub overflow_add-result-2 : goal.overflow_add-result-2
overflow_add-result-2 c =
    let hours : FitsSigned w64 c.args.hours = c.ranges.hours in
    let minutes : FitsSigned w64 c.args.minutes = c.ranges.minutes in
    let nanoseconds : FitsSigned w64 c.args.nanoseconds = c.ranges.nanoseconds in
    let hours_fit : FitsSigned w64 (c.args.hours *ℤ pos 3600000000) = c.requires.hours_fit in
    let minutes_fit : FitsSigned w64 (c.args.minutes *ℤ pos 60000000) = c.requires.minutes_fit in
    let sum_fits : FitsSigned w64 (hours_and_minutes c.args.hours c.args.minutes) = c.requires.sum_fits in
    let rest_is : c.div_euclid.result ≡ int_div_euclid c.args.nanoseconds (pos 1000) = simp to_z-of_z at c.div_euclid.ensures in
    let rest_fits : FitsSigned w64 c.div_euclid.result = record { sfits = c.div_euclid.type_inv } in
    simp to_z-of_z (rw rest_is c.requires.all_fits)

pub returns : goal.returns
returns c =
    let hours : FitsSigned w64 c.args.hours = c.ranges.hours in
    let minutes : FitsSigned w64 c.args.minutes = c.ranges.minutes in
    let nanoseconds : FitsSigned w64 c.args.nanoseconds = c.ranges.nanoseconds in
    let hours_fit : FitsSigned w64 (c.args.hours *ℤ pos 3600000000) = c.requires.hours_fit in
    let minutes_fit : FitsSigned w64 (c.args.minutes *ℤ pos 60000000) = c.requires.minutes_fit in
    let sum_fits : FitsSigned w64 (hours_and_minutes c.args.hours c.args.minutes) = c.requires.sum_fits in
    let all_fits : FitsSigned w64 (time_amount c.args.hours c.args.minutes c.args.nanoseconds) = c.requires.all_fits in
    let rest_is : c.div_euclid.result ≡ int_div_euclid c.args.nanoseconds (pos 1000) = simp to_z-of_z at c.div_euclid.ensures in
    let rest_fits : FitsSigned w64 (int_div_euclid c.args.nanoseconds (pos 1000)) =
    subst (FitsSigned w64) rest_is (record { sfits = c.div_euclid.type_inv }) in
    simp (rest_is, to_z-of_z)
