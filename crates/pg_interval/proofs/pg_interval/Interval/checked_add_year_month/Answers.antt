use Rattle.std.proofs.Common.{◌≡◌, ◌+ℤ◌, FitsSigned, w32}
use Rattle.std.proofs.lemmas.Int.{to_z-of_z}
use Rattle.pg_interval.specs.Arithmetic.{months_of}
use Rattle.pg_interval.proofs.CellLemmas.{same_interval}
use Rattle.pg_interval.proofs.OptionLemmas.{SomeIff-interval}
use Rattle.pg_interval.proofs.pg_interval.Interval.checked_add_year_month.Goals as goal

pub returns : goal.returns
returns c =
    let year : FitsSigned w32 c.args.year = c.ranges.year in
    let months : FitsSigned w32 c.args.months = c.ranges.months in
    let years_fit : FitsSigned w32 (months_of c.args.year) = simp to_z-of_z at c.in_ok-years_as_months.ensures.0 in
    let years_is : c.in_ok-years_as_months.years_as_months ≡ months_of c.args.year = simp to_z-of_z at c.in_ok-years_as_months.ensures.1 in
    let joined_fits : FitsSigned w32 (months_of c.args.year +ℤ c.args.months) =
    simp (years_is, to_z-of_z) at c.in_ok-additional_months.ensures.0 in
    let joined_is : c.in_ok-additional_months.additional_months ≡ months_of c.args.year +ℤ c.args.months =
    simp (years_is, to_z-of_z) at c.in_ok-additional_months.ensures.1 in
    SomeIff-interval _ _ _ _ c.checked_add-2.ensures
    (same_interval _ _ (simp (to_z-of_z, c.new.ensures.months, joined_is)) (simp c.new.ensures.days) (simp c.new.ensures.microseconds))
    (λ sum. record { years_fit = years_fit; joined_fits = joined_fits; sum_fits = sum })
    (λ adds. adds.sum_fits)
