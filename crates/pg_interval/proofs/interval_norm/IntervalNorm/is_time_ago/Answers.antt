use Rattle.std.proofs.Common.{◌∙◌, sym, ap, rules, FitsSigned, w64}
use Rattle.std.specs.Prelude.{unsigned_abs}
use Rattle.std.proofs.lemmas.Int.{to_z-of_z}
use Rattle.pg_interval.proofs.PrintedLemmas.{seconds_ago}
use Rattle.pg_interval.proofs.interval_norm.IntervalNorm.is_time_ago.Goals as goal

pub returns-else-unsigned_abs-ne0-2 : goal.returns-else-unsigned_abs-ne0-2
returns-else-unsigned_abs-ne0-2 c =
    let hours : FitsSigned w64 c.args.self.now.hours = search rules in
    let minutes : FitsSigned w64 c.args.self.now.minutes = search rules in
    c.is_second_negative.ensures ∙ sym (seconds_ago c.args.self.now
    (ap unsigned_abs (sym (to_z-of_z w64 c.args.self.now.hours hours)) ∙ sym c.unsigned_abs.ensures.value ∙ c.if-unsigned_abs-ne0.false)
    (ap unsigned_abs (sym (to_z-of_z w64 c.args.self.now.minutes minutes)) ∙ sym c.unsigned_abs-else-unsigned_abs-ne0.ensures.value
    ∙ c.if-unsigned_abs-ne0-2.false))
