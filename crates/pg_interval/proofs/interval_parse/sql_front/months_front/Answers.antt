use Rattle.pg_interval.proofs.FrontFields.{months_read}
use Rattle.pg_interval.proofs.interval_parse.sql_front.months_front.Goals as goal

pub returns-clause-amount : goal.returns-clause-amount
returns-clause-amount c = months_read c.args.text.now c.without_sign.result.now c.in-Some.behind.now c.in-Some-after_byte.behind.now
    c.in-Some-number_front.rest.now c.in-Some.years c.in-Some-number_front.months c.without_sign.ensures.rest c.in-Some.ensures
    c.in-Some-after_byte.ensures c.in-Some-number_front.ensures
