use Rattle.pg_interval.proofs.PrintedLemmas.{day_present_is}
use Rattle.pg_interval.proofs.interval_norm.IntervalNorm.prints_days.Goals as goal

pub returns : goal.returns
returns c = day_present_is c.args.self.now _ c.is_day_present.ensures
