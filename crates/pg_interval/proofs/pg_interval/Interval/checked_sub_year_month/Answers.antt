use Rattle.std.proofs.Common.{◌≡◌, ◌∙◌, sym, subst, FitsSigned, w32}
use Rattle.std.proofs.lemmas.Int.{to_z-of_z}
use Rattle.pg_interval.specs.Cell.{IsInterval}
use Rattle.pg_interval.specs.Arithmetic.{months_of, without_years, interval_difference}
use Rattle.pg_interval.proofs.CellLemmas.{same_interval}
use Rattle.pg_interval.proofs.OptionLemmas.{SomeIff-none, SomeIff-interval}
use Rattle.pg_interval.proofs.pg_interval.Interval.checked_sub_year_month.Goals as goal

pub returns-in_err-years_as_months : goal.returns-in_err-years_as_months
returns-in_err-years_as_months c =
    let year : FitsSigned w32 c.args.year = c.ranges.year in
    SomeIff-none _ _ _ c.from_residual.ensures (λ subtracts. c.in_err-years_as_months.ensures (simp to_z-of_z subtracts.years_fit))

pub returns-in_err-checked_sub : goal.returns-in_err-checked_sub
returns-in_err-checked_sub c =
    let year : FitsSigned w32 c.args.year = c.ranges.year in
    let years_fit : FitsSigned w32 (months_of c.args.year) = simp to_z-of_z at c.in_ok-years_as_months.ensures.0 in
    let years_is : c.in_ok-years_as_months.years_as_months ≡ months_of c.args.year = simp to_z-of_z at c.in_ok-years_as_months.ensures.1 in
    let first_is : interval_difference c.args.self c.new.result ≡ without_years c.args.self c.args.year =
    same_interval _ _ (simp (to_z-of_z, c.new.ensures.months, years_is)) (simp c.new.ensures.days) (simp c.new.ensures.microseconds) in
    SomeIff-none _ _ _ c.from_residual-in_err-checked_sub.ensures
    (λ subtracts. c.in_err-checked_sub.ensures (subst IsInterval (sym first_is) subtracts.first_fits))

pub returns : goal.returns
returns c =
    let year : FitsSigned w32 c.args.year = c.ranges.year in
    let months : FitsSigned w32 c.args.months = c.ranges.months in
    let years_fit : FitsSigned w32 (months_of c.args.year) = simp to_z-of_z at c.in_ok-years_as_months.ensures.0 in
    let years_is : c.in_ok-years_as_months.years_as_months ≡ months_of c.args.year = simp to_z-of_z at c.in_ok-years_as_months.ensures.1 in
    let first_is : interval_difference c.args.self c.new.result ≡ without_years c.args.self c.args.year =
    same_interval _ _ (simp (to_z-of_z, c.new.ensures.months, years_is)) (simp c.new.ensures.days) (simp c.new.ensures.microseconds) in
    let first_fits : IsInterval (without_years c.args.self c.args.year) = subst IsInterval first_is c.in_ok-checked_sub.ensures.0 in
    let without : c.in_ok-checked_sub.field-0 ≡ without_years c.args.self c.args.year = c.in_ok-checked_sub.ensures.1 ∙ first_is in
    SomeIff-interval _ _ _ _ c.checked_sub-2.ensures
    (same_interval _ _ (simp (to_z-of_z, c.new-2.ensures.months, without)) (simp (
      c.new-2.ensures.days,
      without,
    )) (simp (c.new-2.ensures.microseconds, without)))
    (λ difference. record { years_fit = years_fit; first_fits = first_fits; second_fits = difference })
    (λ subtracts. subtracts.second_fits)
