use Rattle.std.proofs.Common.{◌≡◌, refl, arith, rules, ℤ, FitsSigned, w32, w64, to_z, of_z, Result, Ok, Err}
use Rattle.std.specs.Option.{ok_or}
use Rattle.std.proofs.lemmas.Int.{ints, to_z-of_z}
use Rattle.std.proofs.lemmas.Result.{err_from_is_err_and}
use Rattle.pg_interval.specs.declared.pg_interval.Interval.{Interval}
use Rattle.rota_moments.specs.declared.moment.Moment.{Moment}
use Rattle.rota_moments.specs.declared.moment.RangeError.{RangeError}
use Rattle.rota_moments.specs.declared.moment.RangeError.TheVariants.{Months}
use Rattle.rota_moments.specs.Moments.{IsDay, moment, and_then, after_months, after_days_and_time, moment_after}
use Rattle.rota_moments.proofs.moment.Moment.add.Goals as goal

day_passed : (z : ℤ) → IsDay z → to_z w32 (of_z w32 z) ≡ z
day_passed z h = omega (arith, ints)

number_passed : (z : ℤ) → FitsSigned w32 z → to_z w32 (of_z w32 z) ≡ z
number_passed z h = simp to_z-of_z

time_passed : (z : ℤ) → FitsSigned w64 z → to_z w64 (of_z w64 z) ≡ z
time_passed z h = simp to_z-of_z

-- the moment after an interval, by what came of its months
after_moved : (m : Moment) (s : Interval) (day months : ℤ) (moved : Result ℤ RangeError) → day ≡ m.day → months ≡ s.months
    → moved ≡ ok_or (after_months day months) Months
    → and_then moved (λ x. after_days_and_time (moment x m.micro) s.days s.microseconds) ≡ moment_after m s
after_moved m s day months moved ed em value = rw (value, ed, em) refl

then_later : (m : Moment) (s : Interval) (day months moved passed days micros : ℤ) (r : Result Moment RangeError) → day ≡ m.day
    → months ≡ s.months → passed ≡ moved → days ≡ s.days → micros ≡ s.microseconds → Ok moved ≡ ok_or (after_months day months) Months
    → r ≡ after_days_and_time (moment passed m.micro) days micros → r ≡ moment_after m s
then_later m s day months moved passed days micros r ed em ep es et value later =
    rw (later, ep, es, et) (after_moved m s day months (Ok moved) ed em value)

pub months_later-requires : goal.months_later-requires
months_later-requires c = rw (day_passed c.args.self.day c.requires.0) c.requires.0

pub days_and_time_later-requires : goal.days_and_time_later-requires
days_and_time_later-requires c =
    let valid = c.in_ok-moved.ensures.valid in (rw (day_passed c.in_ok-moved.moved valid) valid, c.requires.1)

pub returns-in_err-moved : goal.returns-in_err-moved
returns-in_err-moved c =
    let m = c.args.self in let s = c.args.step in
    let months : FitsSigned w32 s.months = search rules in
    let p = err_from_is_err_and c.from_residual.result c.from_residual.ensures.1 in
    rw (p.1, p.2) (record {
      value = after_moved m s _ _ (Err c.in_err-moved.field-0.0) (day_passed m.day c.requires.0) (number_passed s.months months)
          c.in_err-moved.ensures.value;
      valid = tt;
    })

pub returns : goal.returns
returns c =
    let m = c.args.self in let s = c.args.step in
    let months : FitsSigned w32 s.months = search rules in
    let days : FitsSigned w32 s.days = search rules in
    let micros : FitsSigned w64 s.microseconds = search rules in
    record {
      value = then_later m s _ _ c.in_ok-moved.moved _ _ _ _ (day_passed m.day c.requires.0) (number_passed s.months months)
          (day_passed c.in_ok-moved.moved c.in_ok-moved.ensures.valid) (number_passed s.days days) (time_passed s.microseconds micros)
          c.in_ok-moved.ensures.value c.days_and_time_later.ensures.value;
      valid = c.days_and_time_later.ensures.valid;
    }
