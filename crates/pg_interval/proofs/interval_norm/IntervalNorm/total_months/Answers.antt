use Rattle.std.proofs.Common.{FitsSigned, arith, rules, w32}
use Rattle.std.proofs.lemmas.Int.{ints}
use Rattle.pg_interval.specs.NormalForm.{exact_total}
use Rattle.pg_interval.proofs.interval_norm.IntervalNorm.total_months.Goals as goal

pub returns : goal.returns
unfolding exact_total
returns c =
    let years : FitsSigned w32 c.args.self.years = search rules in
    let months : FitsSigned w32 c.args.self.months = search rules in
    omega (arith, ints)
