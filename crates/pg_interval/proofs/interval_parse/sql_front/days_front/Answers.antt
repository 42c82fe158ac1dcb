use Rattle.pg_interval.proofs.FrontFields.{days_read}
use Rattle.pg_interval.proofs.interval_parse.sql_front.days_front.Goals as goal

pub returns-clause-amount : goal.returns-clause-amount
returns-clause-amount c = days_read c.args.text.now c.without_sign.result.now c.in-Some.rest.now c.in-Some.days
    c.without_sign.ensures.rest c.in-Some.ensures
