use Rattle.std.proofs.Common.{arith, append_assoc}
use Rattle.pg_interval.proofs.PutDigits.{decimal_four, length_by_four}
use Rattle.pg_interval.proofs.interval_fmt.digits.put_digits.Goals as goal

pub put_four-place-requires : goal.put_four-place-requires
put_four-place-requires c =
    (omega arith, omega (arith, length_by_four c.loop-left.left c.loop-left-test.true c.loop-left.auto.left-fits.fits), omega arith)

pub loop-left-preserved : goal.loop-left-preserved
loop-left-preserved c =
    let l = c.loop-left in
    let long = length_by_four l.left c.loop-left-test.true l.auto.left-fits.fits in
    record {
      long = omega arith;
      room = omega arith;
      within = omega arith;
      place = omega arith;
      written = rw c.put_four-place.ensures.written (rw (
        decimal_four l.left c.loop-left-test.true l.auto.left-fits.fits,
        append_assoc,
      ) at l.invariant.written);
    }

pub put_up_to_four-requires : goal.put_up_to_four-requires
put_up_to_four-requires c = (omega arith, omega arith, omega arith)
