use Rattle.std.proofs.Common.{length, ◌≡◌, ◌≤◌, take}
use Rattle.pg_interval.specs.PostgresText.{trimmed_end}
use Rattle.pg_text.proofs.format.words.trimmed_end.Given as goal

abbrev pub invariant-loop-end : goal.invariant-loop-end
invariant-loop-end l = record {
  within : l.end ≤ length l.text;
  same : trimmed_end (take l.end l.text) ≡ trimmed_end l.text;
}

abbrev pub decreases-loop-end : goal.decreases-loop-end
decreases-loop-end l = l.end
