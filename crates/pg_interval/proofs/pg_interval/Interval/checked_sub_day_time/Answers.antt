use Rattle.std.proofs.Common.{◌≡◌, FitsSigned, w32, w64}
use Rattle.std.proofs.lemmas.Int.{to_z-of_z}
use Rattle.pg_interval.specs.Arithmetic.{TimeFits, time_amount}
use Rattle.pg_interval.proofs.CellLemmas.{same_interval}
use Rattle.pg_interval.proofs.OptionLemmas.{SomeIff-none, SomeIff-interval}
use Rattle.pg_interval.proofs.pg_interval.Interval.checked_sub_day_time.Goals as goal

pub returns : goal.returns
returns c =
    let days : FitsSigned w32 c.args.days = c.ranges.days in
    let hours : FitsSigned w64 c.args.hours = c.ranges.hours in
    let minutes : FitsSigned w64 c.args.minutes = c.ranges.minutes in
    let nanoseconds : FitsSigned w64 c.args.nanoseconds = c.ranges.nanoseconds in
    let time : TimeFits c.args.hours c.args.minutes c.args.nanoseconds = simp to_z-of_z at c.in_ok-microseconds.ensures.0 in
    let time_is : c.in_ok-microseconds.microseconds ≡ time_amount c.args.hours c.args.minutes c.args.nanoseconds =
    simp to_z-of_z at c.in_ok-microseconds.ensures.1 in
    let time_fits : FitsSigned w64 (time_amount c.args.hours c.args.minutes c.args.nanoseconds) = time.all_fits in
    SomeIff-interval _ _ _ _ c.checked_sub.ensures
    (same_interval _ _ (simp c.new.ensures.months) (simp (to_z-of_z, c.new.ensures.days)) (simp (
      to_z-of_z,
      c.new.ensures.microseconds,
      time_is,
    )))
    (λ difference. (time, difference))
    (λ fits. fits.1)

pub returns-in_err-microseconds : goal.returns-in_err-microseconds
returns-in_err-microseconds c =
    let hours : FitsSigned w64 c.args.hours = c.ranges.hours in
    let minutes : FitsSigned w64 c.args.minutes = c.ranges.minutes in
    let nanoseconds : FitsSigned w64 c.args.nanoseconds = c.ranges.nanoseconds in
    SomeIff-none _ _ _ c.from_residual.ensures (λ fits. c.in_err-microseconds.ensures (simp to_z-of_z fits.0))
