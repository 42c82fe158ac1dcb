use Rattle.std.proofs.Common.{arith}
use Rattle.pg_interval.specs.Reader.{decimal_from, time_unit}
use Rattle.pg_interval.proofs.ReadSums.{whole_within}
use Rattle.pg_interval.proofs.interval_parse.parts.Number.size.Goals as goal

pub returns-in-Year-clause-within : goal.returns-in-Year-clause-within
returns-in-Year-clause-within c =
    let whole = whole_within (time_unit c.args.unit) (decimal_from c.args.self) c.requires in
    record { months = omega arith; days = omega arith; microseconds = omega arith }

pub returns-in-Month-clause-within : goal.returns-in-Month-clause-within
returns-in-Month-clause-within c =
    let whole = whole_within (time_unit c.args.unit) (decimal_from c.args.self) c.requires in
    record { months = omega arith; days = omega arith; microseconds = omega arith }

pub returns-in-Day-clause-within : goal.returns-in-Day-clause-within
returns-in-Day-clause-within c =
    let whole = whole_within (time_unit c.args.unit) (decimal_from c.args.self) c.requires in
    record { months = omega arith; days = omega arith; microseconds = omega arith }

pub returns-in-Hour-clause-within : goal.returns-in-Hour-clause-within
returns-in-Hour-clause-within c =
    let whole = whole_within (time_unit c.args.unit) (decimal_from c.args.self) c.requires in
    record { months = omega arith; days = omega arith; microseconds = omega arith }

pub returns-in-Minute-clause-within : goal.returns-in-Minute-clause-within
returns-in-Minute-clause-within c =
    let whole = whole_within (time_unit c.args.unit) (decimal_from c.args.self) c.requires in
    record { months = omega arith; days = omega arith; microseconds = omega arith }

pub returns-in-Second-clause-within : goal.returns-in-Second-clause-within
returns-in-Second-clause-within c =
    let whole = whole_within (time_unit c.args.unit) (decimal_from c.args.self) c.requires in
    record { months = omega arith; days = omega arith; microseconds = omega arith }
