use Rattle.std.proofs.Common.{◌≡◌, ◌+◌, ◌≤◌, length, false}
use Rattle.std.specs.Prelude.{Ok}
use Rattle.pg_interval.specs.Pairs.{nothing}
use Rattle.pg_interval.specs.ItemReader.{left, left_after}
use Rattle.pg_interval.proofs.interval_parse.iso_8601.read_items.Given as goal

abbrev pub invariant-loop-rest : goal.invariant-loop-rest
invariant-loop-rest l = record {
  left : left_after l.items l.rest ≡ left false (Ok nothing) l.text;
  room : l.items.totals.count + length l.rest ≤ length l.text;
}

abbrev pub decreases-loop-rest : goal.decreases-loop-rest
decreases-loop-rest l = length l.rest
