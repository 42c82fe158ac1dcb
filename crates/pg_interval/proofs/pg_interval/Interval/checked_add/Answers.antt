use Rattle.std.proofs.Common.{◌≡◌, ◌+ℤ◌, FitsSigned, w32, w64, rules}
use Rattle.std.proofs.lemmas.Int.{to_z-of_z}
use Rattle.pg_interval.specs.Cell.{IsInterval}
use Rattle.pg_interval.specs.Arithmetic.{interval_sum}
use Rattle.pg_interval.proofs.CellLemmas.{same_interval}
use Rattle.pg_interval.proofs.OptionLemmas.{SomeIff-none}
use Rattle.pg_interval.proofs.pg_interval.Interval.checked_add.Goals as goal

pub returns-in_err-months : goal.returns-in_err-months
returns-in_err-months c =
    let a : FitsSigned w32 c.args.self.months = search rules in
    let b : FitsSigned w32 c.args.other_interval.months = search rules in
    SomeIff-none _ _ _ c.from_residual.ensures
    (λ sum. c.in_err-months.ensures (simp to_z-of_z sum.months))

pub returns-in_err-days : goal.returns-in_err-days
returns-in_err-days c =
    let a : FitsSigned w32 c.args.self.days = search rules in
    let b : FitsSigned w32 c.args.other_interval.days = search rules in
    SomeIff-none _ _ _ c.from_residual-in_err-days.ensures
    (λ sum. c.in_err-days.ensures (simp to_z-of_z sum.days))

pub returns-in_err-microseconds : goal.returns-in_err-microseconds
returns-in_err-microseconds c =
    let a : FitsSigned w64 c.args.self.microseconds = search rules in
    let b : FitsSigned w64 c.args.other_interval.microseconds = search rules in
    SomeIff-none _ _ _ c.from_residual-in_err-microseconds.ensures
    (λ sum. c.in_err-microseconds.ensures (simp to_z-of_z sum.microseconds))

pub returns : goal.returns
returns c =
    let a = c.args.self in
    let b = c.args.other_interval in
    let months_a : FitsSigned w32 a.months = search rules in
    let months_b : FitsSigned w32 b.months = search rules in
    let months_fit : FitsSigned w32 (a.months +ℤ b.months) = simp to_z-of_z at c.in_ok-months.ensures.0 in
    let months_is : c.in_ok-months.months ≡ a.months +ℤ b.months = simp to_z-of_z at c.in_ok-months.ensures.1 in
    let days_a : FitsSigned w32 a.days = search rules in
    let days_b : FitsSigned w32 b.days = search rules in
    let days_fit : FitsSigned w32 (a.days +ℤ b.days) = simp to_z-of_z at c.in_ok-days.ensures.0 in
    let days_is : c.in_ok-days.days ≡ a.days +ℤ b.days = simp to_z-of_z at c.in_ok-days.ensures.1 in
    let microseconds_a : FitsSigned w64 a.microseconds = search rules in
    let microseconds_b : FitsSigned w64 b.microseconds = search rules in
    let microseconds_fit : FitsSigned w64 (a.microseconds +ℤ b.microseconds) = simp to_z-of_z at c.in_ok-microseconds.ensures.0 in
    let microseconds_is : c.in_ok-microseconds.microseconds ≡ a.microseconds +ℤ b.microseconds =
    simp to_z-of_z at c.in_ok-microseconds.ensures.1 in
    let fits : IsInterval (interval_sum a b) =
    record { months = months_fit; days = days_fit; microseconds = microseconds_fit } in
    (fits, same_interval _ _ (simp (months_is, to_z-of_z)) (simp (days_is, to_z-of_z)) (simp (microseconds_is, to_z-of_z)))
