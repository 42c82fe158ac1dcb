use Rattle.std.proofs.Common.{◌∙◌, ap, sym, refl, arith, rules, FitsSigned, w64}
use Rattle.std.specs.Prelude.{unsigned_abs}
use Rattle.std.specs.Int.{is_negative}
use Rattle.std.proofs.lemmas.Int.{to_z-of_z}
use Rattle.pg_interval.proofs.SpacedParts.{ten_long, no_time, time_put}
use Rattle.pg_interval.proofs.interval_fmt.postgres.put_time.Goals as goal

pub returns-then-microseconds-eq0-clause-written : goal.returns-then-microseconds-eq0-clause-written
returns-then-microseconds-eq0-clause-written c =
    let i = c.args.interval.now in
    let fits : FitsSigned w64 i.microseconds = search rules in
    rw (no_time i (ap unsigned_abs (sym (to_z-of_z w64 i.microseconds fits)) ∙ sym c.unsigned_abs-microseconds.ensures.value
    ∙ c.if-microseconds-eq0.true)) refl

pub put_clock-clock-requires-clause-hours : goal.put_clock-clock-requires-clause-hours
put_clock-clock-requires-clause-hours c = omega (arith, ten_long)

pub returns-clause-written : goal.returns-clause-written
returns-clause-written c =
    let i = c.args.interval.now in
    let fits : FitsSigned w64 i.microseconds = search rules in
    let same = to_z-of_z w64 i.microseconds fits in
    time_put i c.unsigned_abs-microseconds.result c.is_negative.result _ _ _ _ _
    (ap unsigned_abs (sym same) ∙ sym c.unsigned_abs-microseconds.ensures.value) c.if-microseconds-eq0.false
    (c.is_negative.ensures ∙ ap is_negative same) c.put_point_and_digits-point.ensures.written c.put_clock-clock.ensures.written
    c.put_byte_if-minus.ensures.written c.put_byte.ensures.written
