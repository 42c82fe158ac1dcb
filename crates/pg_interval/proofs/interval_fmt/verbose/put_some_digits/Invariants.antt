use Rattle.std.proofs.Common.{◌≡◌, ◌+◌, ◌≤◌, ◌/◌, ◌^◌, ◌++◌, drop, length}
use Rattle.pg_interval.specs.Printed.{last_digits, without_last_zeros}
use Rattle.pg_interval.proofs.interval_fmt.verbose.put_some_digits.Given as goal

abbrev pub invariant-loop-digit : goal.invariant-loop-digit
invariant-loop-digit l = record {
  long : length l.text ≡ 96;
  left : l.left ≡ l.number / 10 ^ l._digit;
  place : (l.place ≤ l.end) × (l.end ≤ l.place + l._digit);
  written : drop l.place l.text ≡ without_last_zeros (last_digits l._digit l.number) ++ drop l.end l.fn.text;
}
