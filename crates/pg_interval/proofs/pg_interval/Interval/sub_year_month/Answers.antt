use Rattle.std.proofs.Common.{◌≡◌, ◌∙◌, ap, sym, refl, subst, ℤ, pos, ◌-ℤ◌, ◌*ℤ◌, FitsSigned, w32, to_z, of_z}
use Rattle.std.proofs.lemmas.Int.{to_z-of_z}
use Rattle.pg_interval.specs.declared.pg_interval.Interval.{Interval}
use Rattle.pg_interval.specs.Cell.{IsInterval}
use Rattle.pg_interval.specs.Arithmetic.{interval_difference, months_alone, months_of, without_years, without_years_and_months}
use Rattle.pg_interval.proofs.CellLemmas.{same_interval}
use Rattle.pg_interval.proofs.pg_interval.Interval.sub_year_month.Goals as goal

months_are : (i j new : Interval) (months : ℤ) → i ≡ j → new.months ≡ months → new.days ≡ pos 0 → new.microseconds ≡ pos 0
    → interval_difference i new ≡ interval_difference j (months_alone months)
months_are i j new months same e days time =
    ap (λ i. interval_difference i new) same
    ∙ same_interval _ _ (ap (λ m. j.months -ℤ m) e) (ap (λ d. j.days -ℤ d) days) (ap (λ u. j.microseconds -ℤ u) time)

product_is : (year months : ℤ) → FitsSigned w32 year → FitsSigned w32 (months_of year)
    → months ≡ to_z w32 (of_z w32 (to_z w32 (of_z w32 year) *ℤ pos 12)) → months ≡ months_of year
product_is year months fits product e = e ∙ simp to_z-of_z

pub overflow_mul-year : goal.overflow_mul-year
overflow_mul-year c = let year : FitsSigned w32 c.args.year = c.ranges.year in simp to_z-of_z c.requires.years_fit

pub sub-requires : goal.sub-requires
sub-requires c =
    let i = c.args.self in
    let months = product_is c.args.year c.new.result.months c.ranges.year c.requires.years_fit c.new.ensures.months in
    let first : interval_difference i c.new.result ≡ without_years i c.args.year =
    months_are i i c.new.result _ refl months c.new.ensures.days c.new.ensures.microseconds in
    subst IsInterval (sym first) c.requires.first_fits

pub sub-requires-2 : goal.sub-requires-2
sub-requires-2 c =
    let i = c.args.self in
    let months = product_is c.args.year c.new.result.months c.ranges.year c.requires.years_fit c.new.ensures.months in
    let first : interval_difference i c.new.result ≡ without_years i c.args.year =
    months_are i i c.new.result _ refl months c.new.ensures.days c.new.ensures.microseconds in
    let both : interval_difference c.sub.result c.new-2.result ≡ without_years_and_months i c.args.year c.args.months =
    months_are c.sub.result _ c.new-2.result _ (c.sub.ensures ∙ first) (c.new-2.ensures.months ∙ to_z-of_z w32 _ c.ranges.months)
    c.new-2.ensures.days c.new-2.ensures.microseconds in
    subst IsInterval (sym both) c.requires.second_fits

pub returns : goal.returns
returns c =
    let i = c.args.self in
    let months = product_is c.args.year c.new.result.months c.ranges.year c.requires.years_fit c.new.ensures.months in
    let first : interval_difference i c.new.result ≡ without_years i c.args.year =
    months_are i i c.new.result _ refl months c.new.ensures.days c.new.ensures.microseconds in
    c.sub-2.ensures
    ∙ months_are c.sub.result _ c.new-2.result _ (c.sub.ensures ∙ first) (c.new-2.ensures.months ∙ to_z-of_z w32 _ c.ranges.months)
    c.new-2.ensures.days c.new-2.ensures.microseconds
