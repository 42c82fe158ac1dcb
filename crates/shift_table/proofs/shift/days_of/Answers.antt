use Rattle.std.proofs.Common.{FitsSigned, arith, rules, w32}
use Rattle.std.proofs.lemmas.Int.{ints}
use Rattle.shift_table.proofs.shift.days_of.Goals as goal

pub returns : goal.returns
returns c =
    let months : FitsSigned w32 c.args.interval.months = search rules in
    let days : FitsSigned w32 c.args.interval.days = search rules in
    omega (arith, ints)
