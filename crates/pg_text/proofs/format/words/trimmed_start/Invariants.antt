use Rattle.std.proofs.Common.{length, ◌-◌, ◌≡◌, ◌≤◌, drop}
use Rattle.pg_interval.specs.PostgresText.{trimmed_start}
use Rattle.pg_text.proofs.format.words.trimmed_start.Given as goal

abbrev pub invariant-loop-start : goal.invariant-loop-start
invariant-loop-start l = record {
  within : l.start ≤ length l.text;
  same : trimmed_start (drop l.start l.text) ≡ trimmed_start l.text;
}

abbrev pub decreases-loop-start : goal.decreases-loop-start
decreases-loop-start l = length l.text - l.start
