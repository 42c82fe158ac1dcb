use Rattle.std.proofs.Common.{◌≡◌, ◌+◌, length, drop, length-drop, arith, refl}
use Rattle.pg_interval.specs.Printed.{without_last_zeros}
use Rattle.pg_interval.proofs.DecimalsLemmas.{digits_left, digit_more}
use Rattle.pg_interval.proofs.interval_fmt.verbose.put_some_digits.Goals as goal

pub loop-digit-init : goal.loop-digit-init
unfolding without_last_zeros
loop-digit-init c = record {
  long = omega arith;
  left = omega arith;
  place = (omega arith, omega arith);
  written = refl;
}

pub loop-digit-preserved : goal.loop-digit-preserved
loop-digit-preserved c =
    let l = c.loop-digit in
    let long : length (drop l.place l.text) + l.place ≡ length (drop c.args.end c.args.text.now) + c.args.end =
    omega (arith, length-drop l.place l.text, length-drop c.args.end c.args.text.now) in
    record {
      long = omega arith;
      left = digits_left _ _ _ l.invariant.left;
      place = (omega arith, omega arith);
      written = digit_more _ _ _ _ _ _ _ _ l.invariant.left long l.invariant.written c.put_unless_last_zero-place.ensures.written;
    }
