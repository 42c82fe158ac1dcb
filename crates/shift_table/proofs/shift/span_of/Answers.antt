use Rattle.std.proofs.Common.{FitsSigned, arith, rules, w32, w64}
use Rattle.std.proofs.lemmas.Int.{ints}
use Rattle.shift_table.proofs.shift.span_of.Goals as goal

pub overflow_mul-result : goal.overflow_mul-result
overflow_mul-result c =
    let months : FitsSigned w32 c.args.interval.months = search rules in
    let days : FitsSigned w32 c.args.interval.days = search rules in
    omega (arith, ints)

pub overflow_add-result : goal.overflow_add-result
overflow_add-result c =
    let months : FitsSigned w32 c.args.interval.months = search rules in
    let days : FitsSigned w32 c.args.interval.days = search rules in
    let microseconds : FitsSigned w64 c.args.interval.microseconds = search rules in
    omega (arith, ints)

pub returns : goal.returns
returns c =
    let months : FitsSigned w32 c.args.interval.months = search rules in
    let days : FitsSigned w32 c.args.interval.days = search rules in
    let microseconds : FitsSigned w64 c.args.interval.microseconds = search rules in
    omega (arith, ints)
