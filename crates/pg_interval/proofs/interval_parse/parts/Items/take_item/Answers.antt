use Rattle.std.proofs.Common.{◌∙◌, ap}
use Rattle.pg_interval.specs.Decimals.{decimal_of}
use Rattle.pg_interval.specs.Pairs.{checked}
use Rattle.pg_interval.specs.Reader.{so_far, tallied, time_unit}
use Rattle.pg_interval.specs.WordReader.{out_of_range}
use Rattle.pg_interval.proofs.ReadItems.{item_taken}
use Rattle.pg_interval.proofs.ReadSums.{tallied_held}
use Rattle.pg_interval.proofs.interval_parse.parts.Items.take_item.Goals as goal

pub returns-clause-left : goal.returns-clause-left
returns-clause-left c =
    let r = so_far c.args.self.now.totals in
    let u = time_unit c.in-Some.unit in
    item_taken c.args.self.now.in_time r (so_far c.take.new.self) c.args.number.now c.args.letter c.args.rest.now u c.is_item_number.result
    c.is_item_number.ensures c.if-not-is_item_number.false c.in-Some.ensures
    (c.take.ensures.sums ∙ ap (λ n. tallied out_of_range u (checked n) r) c.decimal.ensures
    ∙ tallied_held out_of_range u (decimal_of c.args.number.now) r)
