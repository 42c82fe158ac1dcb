use Rattle.std.proofs.Common.{FitsSigned, arith, rules, w64}
use Rattle.std.proofs.lemmas.Int.{ints}
use Rattle.pg_interval.proofs.interval_norm.IntervalNorm.total_seconds.Goals as goal

pub overflow_add-result-2 : goal.overflow_add-result-2
overflow_add-result-2 c =
    let hours : FitsSigned w64 c.args.self.hours = search rules in
    let minutes : FitsSigned w64 c.args.self.minutes = search rules in
    let seconds : FitsSigned w64 c.args.self.seconds = search rules in
    omega (arith, ints)

pub returns : goal.returns
returns c =
    let hours : FitsSigned w64 c.args.self.hours = search rules in
    let minutes : FitsSigned w64 c.args.self.minutes = search rules in
    let seconds : FitsSigned w64 c.args.self.seconds = search rules in
    omega (arith, ints)
