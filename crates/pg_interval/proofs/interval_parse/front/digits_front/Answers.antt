use Rattle.std.proofs.Common.{arith}
use Rattle.pg_interval.proofs.FrontReads.{digit_more}
use Rattle.pg_interval.proofs.interval_parse.front.digits_front.Goals as goal

pub loop-place-preserved : goal.loop-place-preserved
loop-place-preserved c =
    let step = digit_more c.args.text.now c.loop-place.place c.loop-place.value c.from.result c.loop-place-test.true
    c.loop-place.invariant.value c.loop-place.invariant.digits (grind arith) c.from.ensures in
    record { value = step.value; digits = step.digits }
