use Rattle.pg_interval.proofs.PrintedLemmas.{zeroed_is}
use Rattle.pg_interval.proofs.interval_norm.IntervalNorm.prints_zero.Goals as goal

pub returns : goal.returns
returns c = zeroed_is c.args.self.now _ c.is_zeroed.ensures
