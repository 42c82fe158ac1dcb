use Rattle.std.proofs.Common.{◌≡◌, length, false}
use Rattle.std.specs.Prelude.{Ok}
use Rattle.pg_interval.specs.Pairs.{nothing}
use Rattle.pg_interval.specs.ItemReader.{left}
use Rattle.pg_interval.specs.FrontReader.{left_of}
use Rattle.pg_interval.proofs.interval_parse.iso_front.read_items.Given as goal

abbrev pub invariant-loop-rest : goal.invariant-loop-rest
invariant-loop-rest l = left false (Ok nothing) l.text ≡ left_of l.sums l.rest

abbrev pub decreases-loop-rest : goal.decreases-loop-rest
decreases-loop-rest l = length l.rest
