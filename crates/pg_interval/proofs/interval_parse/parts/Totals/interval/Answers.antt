use Rattle.std.proofs.Common.{◌≡◌, ◌∙◌, ℕ, ◌*◌, ◌^◌, ◌<◌, ◌≤◌, true, false, None, Ok, Err, ℤ, pos, negsuc, ap, sym, subst, refl, arith, FitsSigned, w32, w64, to_z, of_z}
use Rattle.std.specs.Int.{Width, w128}
use Rattle.std.specs.Int.Signed.{mag}
use mir.Val.{hbits}
use Rattle.std.proofs.lemmas.Int.{to_z-of_z}
use Rattle.pg_interval.specs.declared.pg_interval.Interval.{Interval}
use Rattle.pg_interval.specs.declared.interval_parse.parts.Totals.{Totals}
use Rattle.pg_interval.specs.Pairs.{fits_above, interval_of_sums, judged}
use Rattle.pg_interval.specs.Reader.{so_far, so_far_of, sum_left}
use Rattle.interval_errors.specs.declared.Reason.TheVariants.{Overflow}
use Rattle.interval_errors.specs.declared.ParseError.TheVariants.{InvalidYearMonth, InvalidTime, InvalidInterval}
use Rattle.pg_interval.proofs.CellLemmas.{same_interval}
use Rattle.pg_interval.proofs.DigitTexts.{not_longer}
use Rattle.pg_interval.proofs.PartTexts.{fits_by_mag}
use Rattle.pg_interval.proofs.interval_parse.parts.Totals.interval.Goals as goal

small : (n a : ℕ) → n ≤ 16384 → a ≤ n * 2 ^ 104 → a < 2 ^ 126
small n a few within = omega arith

passed : (r z : ℤ) → FitsSigned w128 r → r ≡ z → to_z w128 (of_z w128 r) ≡ z
passed r z within e = to_z-of_z w128 r within ∙ e

kept : (w : Width) (m r z : ℤ) → FitsSigned w128 r → r ≡ z → FitsSigned w (to_z w128 (of_z w128 r)) → m ≡ to_z w128 (of_z w128 r)
    → to_z w (of_z w m) ≡ z
kept w m r z within e fits is = to_z-of_z w m (subst (FitsSigned w) (sym is) fits) ∙ is ∙ passed r z within e

above_no : (k : ℕ) (z : ℤ) → (mag z < 2 ^ k → ⊥) → fits_above k z ≡ false
above_no k (pos n) h = not_longer n (2 ^ k) (omega arith)
above_no k (negsuc n) h = not_longer n (2 ^ k) (omega arith)

inside : (w : Width) (r z : ℤ) → FitsSigned w128 r → r ≡ z → FitsSigned w (to_z w128 (of_z w128 r)) → fits_above (hbits w) z ≡ true
inside w r z within e fits =
    let f : FitsSigned w z = subst (FitsSigned w) (passed r z within e) fits in
    fits_by_mag (hbits w) z f.sfits

outside : (w : Width) (r z : ℤ) → FitsSigned w128 r → r ≡ z → (FitsSigned w (to_z w128 (of_z w128 r)) → ⊥)
    → fits_above (hbits w) z ≡ false
outside w r z within e not_fit =
    above_no (hbits w) z (λ h. not_fit (subst (FitsSigned w) (sym (passed r z within e)) (record { sfits = h })))

none_refused : (t : Totals) → t.refusal ≡ None → interval_of_sums (sum_left t.plus t.minus) ≡ judged (so_far t)
none_refused t none = sym (ap (λ o. judged (so_far_of o (sum_left t.plus t.minus))) none)

over_months : (i : Interval) → fits_above 31 i.months ≡ false → Err (InvalidYearMonth Overflow) ≡ interval_of_sums i
over_months i months = rw months refl

over_days : (i : Interval) → fits_above 31 i.months ≡ true → fits_above 31 i.days ≡ false
    → Err (InvalidInterval Overflow) ≡ interval_of_sums i
over_days i months days = rw (months, days) refl

over_time : (i : Interval) → fits_above 31 i.months ≡ true → fits_above 31 i.days ≡ true → fits_above 63 i.microseconds ≡ false
    → Err (InvalidTime Overflow) ≡ interval_of_sums i
over_time i months days time = rw (months, days, time) refl

all_fit : (i : Interval) → fits_above 31 i.months ≡ true → fits_above 31 i.days ≡ true → fits_above 63 i.microseconds ≡ true
    → Ok i ≡ interval_of_sums i
all_fit i months days time = rw (months, days, time) refl

pub difference-requires : goal.difference-requires
difference-requires c =
    let t = c.args.self in
    record {
      plus = small t.count t.plus.months t.few t.plus_within.months;
      minus = small t.count t.minus.months t.few t.minus_within.months;
    }

pub difference-requires-2 : goal.difference-requires-2
difference-requires-2 c =
    let t = c.args.self in
    record {
      plus = small t.count t.plus.days t.few t.plus_within.days;
      minus = small t.count t.minus.days t.few t.minus_within.days;
    }

pub difference-requires-3 : goal.difference-requires-3
difference-requires-3 c =
    let t = c.args.self in
    record {
      plus = small t.count t.plus.microseconds t.few t.plus_within.microseconds;
      minus = small t.count t.minus.microseconds t.few t.minus_within.microseconds;
    }

pub returns-in-Some : goal.returns-in-Some
returns-in-Some c =
    let t = c.args.self in
    sym (ap (λ o. judged (so_far_of o (sum_left t.plus t.minus))) c.in-Some.is)

pub returns-in_default-try_from : goal.returns-in_default-try_from
returns-in_default-try_from c =
    let t = c.args.self in
    let i = sum_left t.plus t.minus in
    let first : FitsSigned w128 c.difference.result = record { sfits = c.difference.type_inv } in
    over_months i (outside w32 c.difference.result i.months first c.difference.ensures c.in_default-try_from.ensures)
    ∙ none_refused t c.in_default.is

pub returns-in_default-try_from-2 : goal.returns-in_default-try_from-2
returns-in_default-try_from-2 c =
    let t = c.args.self in
    let i = sum_left t.plus t.minus in
    let first : FitsSigned w128 c.difference.result = record { sfits = c.difference.type_inv } in
    let second : FitsSigned w128 c.difference-2.result = record { sfits = c.difference-2.type_inv } in
    over_days i (inside w32 c.difference.result i.months first c.difference.ensures c.in-Ok.ensures.0)
    (outside w32 c.difference-2.result i.days second c.difference-2.ensures c.in_default-try_from-2.ensures)
    ∙ none_refused t c.in_default.is

pub returns-in_default-try_from-3 : goal.returns-in_default-try_from-3
returns-in_default-try_from-3 c =
    let t = c.args.self in
    let i = sum_left t.plus t.minus in
    let first : FitsSigned w128 c.difference.result = record { sfits = c.difference.type_inv } in
    let second : FitsSigned w128 c.difference-2.result = record { sfits = c.difference-2.type_inv } in
    let third : FitsSigned w128 c.difference-3.result = record { sfits = c.difference-3.type_inv } in
    over_time i (inside w32 c.difference.result i.months first c.difference.ensures c.in-Ok.ensures.0)
    (inside w32 c.difference-2.result i.days second c.difference-2.ensures c.in-Ok-try_from.ensures.0)
    (outside w64 c.difference-3.result i.microseconds third c.difference-3.ensures c.in_default-try_from-3.ensures)
    ∙ none_refused t c.in_default.is

pub returns : goal.returns
returns c =
    let t = c.args.self in
    let i = sum_left t.plus t.minus in
    let first : FitsSigned w128 c.difference.result = record { sfits = c.difference.type_inv } in
    let second : FitsSigned w128 c.difference-2.result = record { sfits = c.difference-2.type_inv } in
    let third : FitsSigned w128 c.difference-3.result = record { sfits = c.difference-3.type_inv } in
    let months = c.in-Ok.ensures in
    let days = c.in-Ok-try_from.ensures in
    let time = c.in-Ok-try_from-2.ensures in
    ap Ok (same_interval c.new.result i
    (c.new.ensures.months ∙ kept w32 _ _ _ first c.difference.ensures months.0 months.1)
    (c.new.ensures.days ∙ kept w32 _ _ _ second c.difference-2.ensures days.0 days.1)
    (c.new.ensures.microseconds ∙ kept w64 _ _ _ third c.difference-3.ensures time.0 time.1))
    ∙ all_fit i (inside w32 c.difference.result i.months first c.difference.ensures months.0)
    (inside w32 c.difference-2.result i.days second c.difference-2.ensures days.0)
    (inside w64 c.difference-3.result i.microseconds third c.difference-3.ensures time.0)
    ∙ none_refused t c.in_default.is
