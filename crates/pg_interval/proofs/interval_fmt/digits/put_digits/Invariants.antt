use Rattle.std.proofs.Common.{◌≡◌, ◌+◌, ◌≤◌, ◌++◌, length, drop}
use Rattle.std.specs.Prelude.{decimal}
use Rattle.pg_interval.proofs.interval_fmt.digits.put_digits.Given as goal

abbrev pub invariant-loop-left : goal.invariant-loop-left
invariant-loop-left l = record {
  long : length l.text ≡ 96;
  room : length (decimal l.left) ≤ l.place;
  within : l.place ≤ l.end;
  place : l.place + length (decimal l.number) ≡ l.end + length (decimal l.left);
  written : decimal l.left ++ drop l.place l.text ≡ decimal l.number ++ drop l.end l.fn.text;
}

abbrev pub decreases-loop-left : goal.decreases-loop-left
decreases-loop-left l = l.left
