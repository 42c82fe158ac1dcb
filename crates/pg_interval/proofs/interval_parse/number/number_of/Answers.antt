use Rattle.pg_interval.proofs.ReadNumbers.{number_is}
use Rattle.pg_interval.proofs.interval_parse.number.number_of.Goals as goal

pub returns : goal.returns
returns c = number_is c.args.negative c.args.whole.now c.args.fraction.now _ _ c.digits_value.ensures c.digits_value-2.ensures
    c.requires.fraction c.requires.few
