-- What `jiff` adds to a date, or refuses to, is what is added here.
use Rattle.std.proofs.Common.{◌∙◌, ap, sym, refl, true≢false, w32, w64, arith, FitsSigned}
use Rattle.std.specs.Option.{ok_or}
use Rattle.std.proofs.lemmas.Int.{to_z-of_z}
use Rattle.jiff_core.proofs.SignedLemmas.{signed_arith}
use Rattle.jiff.specs.Words.{epoch_day}
use Rattle.rota_moments.specs.declared.moment.RangeError.TheVariants.{Months}
use Rattle.rota_moments.specs.Moments.{IsDay}
use Rattle.rota_moments.proofs.MomentLemmas.{after_months-far, months_added, months_refused}
use Rattle.rota_moments.proofs.calendar.months_later.Goals as goal

pub returns-then-unsigned_abs-gt-MOST_MONTHS-clause-value : goal.returns-then-unsigned_abs-gt-MOST_MONTHS-clause-value
returns-then-unsigned_abs-gt-MOST_MONTHS-clause-value c =
    ap (λ o. ok_or o Months) (sym (after_months-far c.args.day c.args.months c.requires (grind (
      arith,
      c.unsigned_abs.ensures.value,
      c.if-unsigned_abs-gt-MOST_MONTHS.true,
    ))))

pub returns-in-Ok-clause-value : goal.returns-in-Ok-clause-value
returns-in-Ok-clause-value c =
    let fits : FitsSigned w32 c.args.months = c.ranges.months in
    let fitsday : FitsSigned w32 c.args.day = c.ranges.day in
    let day_is = simp to_z-of_z at c.date_at.ensures in
    let fits64 : FitsSigned w64 c.args.months = omega (arith, signed_arith) in
    let only = simp to_z-of_z at c.months.ensures in
    let h : IsDay (epoch_day c.date_at.result) = rw day_is c.requires in
    let added = months_added c.date_at.result c.in-Ok.date c.args.months c.months.result only h (c.in-Ok.ensures.succeeds.0 refl)
    c.in-Ok.ensures.value in
    c.ok_or.ensures.value ∙ ap (λ o. ok_or o Months) (c.day_of.ensures.value ∙ sym (rw day_is at added))

pub returns-in-Err-clause-value : goal.returns-in-Err-clause-value
returns-in-Err-clause-value c =
    let fits : FitsSigned w32 c.args.months = c.ranges.months in
    let fitsday : FitsSigned w32 c.args.day = c.ranges.day in
    let day_is = simp to_z-of_z at c.date_at.ensures in
    let fits64 : FitsSigned w64 c.args.months = omega (arith, signed_arith) in
    let only = simp to_z-of_z at c.months.ensures in
    let h : IsDay (epoch_day c.date_at.result) = rw day_is c.requires in
    let refused = months_refused c.date_at.result c.args.months c.months.result only h
    (λ can. true≢false (sym (c.in-Err.ensures.succeeds.1 can))) in
    ap (λ o. ok_or o Months) (sym (rw day_is at refused))
