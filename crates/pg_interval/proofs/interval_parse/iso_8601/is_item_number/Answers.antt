use Rattle.pg_interval.proofs.ReadItems.{minus_number, plain_number}
use Rattle.pg_interval.proofs.interval_parse.iso_8601.is_item_number.Goals as goal

pub returns-in_default : goal.returns-in_default
returns-in_default c = plain_number c.args.number.now c.run_len.result c.in_default.ensures c.run_len.ensures.run c.run_len.ensures.within

pub returns : goal.returns
returns c = minus_number c.args.number.now c.in-Some.rest.now c.run_len-2.result c.in-Some.ensures c.run_len-2.ensures.run
    c.run_len-2.ensures.within
