use Rattle.pg_interval.proofs.FrontFields.{time_colon, time_read}
use Rattle.pg_interval.proofs.interval_parse.sql_front.time.Goals as goal

pub returns-clause-amount : goal.returns-clause-amount
returns-clause-amount c = time_read c.args.text.now c.without_sign.result.now c.in-Some.behind.now c.in-Some-after_byte.behind.now
    c.in-Some-two_digits_front.behind.now c.in-Some-after_byte-2.behind.now c.in-Some.hours c.in-Some-two_digits_front.minutes
    c.in-Some-seconds.rest c.without_sign.ensures.rest c.in-Some.ensures c.in-Some-after_byte.ensures
    c.in-Some-two_digits_front.ensures c.in-Some-after_byte-2.ensures c.in-Some-seconds.ensures

pub returns-clause-colon : goal.returns-clause-colon
returns-clause-colon c = time_colon c.args.text.now c.without_sign.result.now c.in-Some.behind.now c.in-Some-after_byte.behind.now
    c.in-Some.hours c.without_sign.ensures.rest c.in-Some.ensures c.in-Some-after_byte.ensures
