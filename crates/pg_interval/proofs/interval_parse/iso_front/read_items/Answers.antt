use Rattle.std.proofs.Common.{◌∙◌, ap}
use Rattle.std.specs.Prelude.{Ok}
use Rattle.pg_interval.specs.FrontReader.{left_of, sums_of}
use Rattle.pg_interval.proofs.ReadTokens.{nothing_of, len_zero}
use Rattle.pg_interval.proofs.ReadItems.{left_end}
use Rattle.pg_interval.proofs.interval_parse.iso_front.read_items.Goals as goal

pub returns : goal.returns
returns c =
    let s = c.loop-rest.sums in
    c.loop-rest.invariant
    ∙ ap (left_of s) (nothing_of c.loop-rest.rest.now
    (len_zero c.loop-rest.rest.now c.is_empty.result c.is_empty.ensures c.loop-rest-test.false))
    ∙ left_end s.in_time (Ok (sums_of s))
