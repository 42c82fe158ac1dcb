use Rattle.pg_interval.proofs.PrintedLemmas.{year_month_present_is}
use Rattle.pg_interval.proofs.interval_norm.IntervalNorm.prints_year_month.Goals as goal

pub returns : goal.returns
returns c = year_month_present_is c.args.self.now _ c.is_year_month_present.ensures
