use Rattle.std.proofs.Common.{◌∙◌, ap, sym}
use Rattle.pg_interval.specs.Reader.{so_far}
use Rattle.pg_interval.specs.ItemReader.{left}
use Rattle.pg_interval.proofs.ReadTokens.{nothing_of, len_zero}
use Rattle.pg_interval.proofs.ReadItems.{left_end}
use Rattle.pg_interval.proofs.interval_parse.iso_8601.read_items.Goals as goal

pub returns : goal.returns
returns c =
    let s = c.loop-rest.items in
    sym (ap (left s.in_time (so_far s.totals)) (nothing_of c.loop-rest.rest.now
    (len_zero c.loop-rest.rest.now c.is_empty.result c.is_empty.ensures c.loop-rest-test.false))
    ∙ left_end s.in_time (so_far s.totals)) ∙ c.loop-rest.invariant.left
