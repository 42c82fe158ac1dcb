use Rattle.std.proofs.Common.{FitsSigned, arith, rules, w64}
use Rattle.std.proofs.lemmas.Int.{ints}
use Rattle.pg_interval.specs.NormalForm.{exact_total}
use Rattle.pg_interval.proofs.interval_norm.IntervalNorm.total_microseconds.Goals as goal

pub overflow_mul-result : goal.overflow_mul-result
overflow_mul-result c =
    let hours : FitsSigned w64 c.args.self.hours = search rules in
    let minutes : FitsSigned w64 c.args.self.minutes = search rules in
    let seconds : FitsSigned w64 c.args.self.seconds = search rules in
    omega (arith, ints)

pub overflow_add-result : goal.overflow_add-result
overflow_add-result c =
    let hours : FitsSigned w64 c.args.self.hours = search rules in
    let minutes : FitsSigned w64 c.args.self.minutes = search rules in
    let seconds : FitsSigned w64 c.args.self.seconds = search rules in
    let microseconds : FitsSigned w64 c.args.self.microseconds = search rules in
    omega (arith, ints)

pub returns : goal.returns
unfolding exact_total
returns c =
    let hours : FitsSigned w64 c.args.self.hours = search rules in
    let minutes : FitsSigned w64 c.args.self.minutes = search rules in
    let seconds : FitsSigned w64 c.args.self.seconds = search rules in
    let microseconds : FitsSigned w64 c.args.self.microseconds = search rules in
    omega (arith, ints)
