use Rattle.pg_interval.proofs.ReadNumbers.{digits_step}
use Rattle.pg_interval.proofs.interval_parse.number.digits_value.Goals as goal

pub loop-digit-preserved : goal.loop-digit-preserved
loop-digit-preserved c = digits_step c.args.digits.now c.loop-digit.digit-index _ _ _ _ c.requires c.loop-digit-test.true
    c.loop-digit.invariant c.saturating_mul.ensures c.from.ensures c.saturating_add-value.ensures
