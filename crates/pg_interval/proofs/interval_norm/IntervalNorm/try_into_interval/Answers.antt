use Rattle.std.proofs.Common.{◌≡◌, ◌∙◌, ap, sym, subst, refl, false, true, ℤ, FitsSigned, rules, w32, w64, to_z, of_z, Result, Ok, Err}
use Rattle.std.specs.Int.{Width, w128}
use Rattle.std.proofs.lemmas.Int.{to_z-of_z}
use Rattle.pg_interval.specs.declared.pg_interval.Interval.{Interval}
use Rattle.pg_interval.specs.Cell.{IsInterval}
use Rattle.pg_interval.specs.NormalForm.{exact_total}
use Rattle.interval_errors.specs.declared.Reason.TheVariants.{Overflow}
use Rattle.interval_errors.specs.declared.ParseError.{ParseError}
use Rattle.interval_errors.specs.declared.ParseError.TheVariants.{InvalidYearMonth, InvalidTime}
use Rattle.pg_interval.proofs.CellLemmas.{same_interval}
use Rattle.pg_interval.proofs.NormalFormLemmas.{exact_total-normal_form}
use Rattle.pg_interval.proofs.interval_norm.IntervalNorm.try_into_interval.Goals as goal

passed : (r z : ℤ) → FitsSigned w128 r → r ≡ z → to_z w128 (of_z w128 r) ≡ z
passed r z within e = to_z-of_z w128 r within ∙ e

inside : (w : Width) (r z : ℤ) → FitsSigned w128 r → r ≡ z → FitsSigned w (to_z w128 (of_z w128 r)) → FitsSigned w z
inside w r z within e fits = subst (FitsSigned w) (passed r z within e) fits

outside : (w : Width) (r z : ℤ) → FitsSigned w128 r → r ≡ z → (FitsSigned w (to_z w128 (of_z w128 r)) → ⊥) → FitsSigned w z → ⊥
outside w r z within e not_fit fits = not_fit (subst (FitsSigned w) (sym (passed r z within e)) fits)

no_time : (e : ParseError) → e ≡ InvalidYearMonth Overflow → e ≡ InvalidTime Overflow → ⊥
no_time e is other = cc

false_true : false ≡ true → ⊥
false_true e = cc

ok_err : (i : Interval) (a : ParseError) (r : Result Interval ParseError) → r ≡ Ok i → r ≡ Err a → ⊥
ok_err i a r e f = cc

from_err : (a b : ParseError) (r : Result Interval ParseError) → r ≡ Err a → r ≡ Err b → a ≡ b
from_err a b r e f = cc

pub returns-in_default-clause-succeeds : goal.returns-in_default-clause-succeeds
returns-in_default-clause-succeeds c =
    let whole : FitsSigned w128 c.total_months.result = record { sfits = c.total_months.type_inv } in
    let no = outside w32 _ _ whole c.total_months.ensures c.in_default.ensures in
    (λ e. absurd (false_true e), λ fits. absurd (no fits.months))

pub returns-in_default-clause-year_month : goal.returns-in_default-clause-year_month
returns-in_default-clause-year_month c =
    let whole : FitsSigned w128 c.total_months.result = record { sfits = c.total_months.type_inv } in
    (λ _. outside w32 _ _ whole c.total_months.ensures c.in_default.ensures, λ _. ap Err c.from_year_month.ensures)

pub returns-in_default-clause-time : goal.returns-in_default-clause-time
returns-in_default-clause-time c =
    let whole : FitsSigned w128 c.total_months.result = record { sfits = c.total_months.type_inv } in
    let no = outside w32 _ _ whole c.total_months.ensures c.in_default.ensures in
    (λ e. absurd (no_time _ c.from_year_month.ensures (from_err _ _ _ refl e)), λ fits. absurd (no fits.0))

pub returns-in_default-try_from-clause-succeeds : goal.returns-in_default-try_from-clause-succeeds
returns-in_default-try_from-clause-succeeds c =
    let whole : FitsSigned w128 c.total_microseconds.result = record { sfits = c.total_microseconds.type_inv } in
    let no = outside w64 _ _ whole c.total_microseconds.ensures c.in_default-try_from.ensures in
    (λ e. absurd (false_true e), λ fits. absurd (no fits.microseconds))

pub returns-in_default-try_from-clause-year_month : goal.returns-in_default-try_from-clause-year_month
returns-in_default-try_from-clause-year_month c =
    let whole : FitsSigned w128 c.total_months.result = record { sfits = c.total_months.type_inv } in
    let fits = inside w32 _ _ whole c.total_months.ensures c.in-Ok.ensures.0 in
    (λ e. absurd (no_time _ (from_err _ _ _ refl e) c.from_time.ensures), λ no. absurd (no fits))

pub returns-in_default-try_from-clause-time : goal.returns-in_default-try_from-clause-time
returns-in_default-try_from-clause-time c =
    let whole_months : FitsSigned w128 c.total_months.result = record { sfits = c.total_months.type_inv } in
    let whole_time : FitsSigned w128 c.total_microseconds.result = record { sfits = c.total_microseconds.type_inv } in
    let fits = inside w32 _ _ whole_months c.total_months.ensures c.in-Ok.ensures.0 in
    let no = outside w64 _ _ whole_time c.total_microseconds.ensures c.in_default-try_from.ensures in
    (λ _. (fits, no), λ _. ap Err c.from_time.ensures)

pub returns-clause-year_month : goal.returns-clause-year_month
returns-clause-year_month c =
    let whole : FitsSigned w128 c.total_months.result = record { sfits = c.total_months.type_inv } in
    let fits = inside w32 _ _ whole c.total_months.ensures c.in-Ok.ensures.0 in
    (λ e. absurd (ok_err _ _ _ refl e), λ no. absurd (no fits))

pub returns-clause-time : goal.returns-clause-time
returns-clause-time c =
    let whole : FitsSigned w128 c.total_microseconds.result = record { sfits = c.total_microseconds.type_inv } in
    let fits = inside w64 _ _ whole c.total_microseconds.ensures c.in-Ok-try_from.ensures.0 in
    (λ e. absurd (ok_err _ _ _ refl e), λ no. absurd (no.1 fits))

pub returns-in_default-clause-inverse : goal.returns-in_default-clause-inverse
returns-in_default-clause-inverse c i fits form =
    let whole : FitsSigned w128 c.total_months.result = record { sfits = c.total_months.type_inv } in
    let total = ap exact_total form ∙ exact_total-normal_form i in
    let is = to_z-of_z w128 _ whole ∙ c.total_months.ensures ∙ ap (λ (j : Interval). j.months) total in
    absurd (c.in_default.ensures (subst (FitsSigned w32) (sym is) fits.months))

pub returns-in_default-try_from-clause-inverse : goal.returns-in_default-try_from-clause-inverse
returns-in_default-try_from-clause-inverse c i fits form =
    let whole : FitsSigned w128 c.total_microseconds.result = record { sfits = c.total_microseconds.type_inv } in
    let total = ap exact_total form ∙ exact_total-normal_form i in
    let is = to_z-of_z w128 _ whole ∙ c.total_microseconds.ensures ∙ ap (λ (j : Interval). j.microseconds) total in
    absurd (c.in_default-try_from.ensures (subst (FitsSigned w64) (sym is) fits.microseconds))

pub returns-clause-value : goal.returns-clause-value
unfolding exact_total
returns-clause-value c =
    let whole_months : FitsSigned w128 c.total_months.result = record { sfits = c.total_months.type_inv } in
    let whole_time : FitsSigned w128 c.total_microseconds.result = record { sfits = c.total_microseconds.type_inv } in
    let months : FitsSigned w32 c.in-Ok.months = search rules in
    let days : FitsSigned w32 c.args.self.days = search rules in
    let microseconds : FitsSigned w64 c.in-Ok-try_from.microseconds = search rules in
    same_interval _ _
    (to_z-of_z w32 _ months ∙ c.in-Ok.ensures.1 ∙ to_z-of_z w128 _ whole_months ∙ c.total_months.ensures)
    (to_z-of_z w32 _ days)
    (to_z-of_z w64 _ microseconds ∙ c.in-Ok-try_from.ensures.1 ∙ to_z-of_z w128 _ whole_time ∙ c.total_microseconds.ensures)

pub returns-clause-succeeds : goal.returns-clause-succeeds
returns-clause-succeeds c =
    let fits : IsInterval _ = record { months = search rules; days = search rules; microseconds = search rules } in
    (λ _. subst IsInterval (returns-clause-value c) fits, λ _. refl)

pub returns-clause-inverse : goal.returns-clause-inverse
returns-clause-inverse c i fits form =
    ap Ok (returns-clause-value c ∙ ap exact_total form ∙ exact_total-normal_form i)
