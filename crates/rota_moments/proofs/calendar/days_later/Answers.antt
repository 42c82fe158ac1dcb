-- What `jiff` adds to a date, or refuses to, is what is added here.
use Rattle.std.proofs.Common.{◌∙◌, ap, sym, true≢false, w32, w64, arith, FitsSigned}
use Rattle.std.specs.Option.{ok_or}
use Rattle.std.proofs.lemmas.Int.{to_z-of_z}
use Rattle.jiff_core.proofs.SignedLemmas.{signed_arith}
use Rattle.jiff.proofs.SpanFacts.{date_add-days, can_add-days}
use Rattle.rota_moments.specs.declared.moment.RangeError.TheVariants.{Days}
use Rattle.rota_moments.specs.Moments.{day_if_any}
use Rattle.rota_moments.proofs.MomentLemmas.{days_refused}
use Rattle.rota_moments.proofs.calendar.days_later.Goals as goal

pub returns-in-Ok-clause-value : goal.returns-in-Ok-clause-value
returns-in-Ok-clause-value c =
    let fits : FitsSigned w32 c.args.days = c.ranges.days in
    let fitsday : FitsSigned w32 c.args.day = c.ranges.day in
    let day_is = simp to_z-of_z at c.date_at.ensures in
    let fits64 : FitsSigned w64 c.args.days = omega (arith, signed_arith) in
    let only = simp to_z-of_z at c.days.ensures in
    let added = c.in-Ok.ensures.value ∙ date_add-days c.date_at.result c.args.days c.days.result only in
    c.ok_or.ensures.value ∙ ap (λ o. ok_or o Days) (c.day_of.ensures.value ∙ ap day_if_any (rw day_is at added))

pub returns-in-Err-clause-value : goal.returns-in-Err-clause-value
returns-in-Err-clause-value c =
    let fits : FitsSigned w32 c.args.days = c.ranges.days in
    let fitsday : FitsSigned w32 c.args.day = c.ranges.day in
    let day_is = simp to_z-of_z at c.date_at.ensures in
    let fits64 : FitsSigned w64 c.args.days = omega (arith, signed_arith) in
    let only = simp to_z-of_z at c.days.ensures in
    let can = can_add-days c.date_at.result c.args.days c.days.result only in
    let refused = days_refused c.args.day c.args.days (λ day. true≢false (sym (c.in-Err.ensures.succeeds.1 (can.1 (rw day_is day))))) in
    ap (λ o. ok_or o Days) (sym refused)
