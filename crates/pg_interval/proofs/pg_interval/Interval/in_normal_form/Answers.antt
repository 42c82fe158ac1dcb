use Rattle.std.proofs.Common.{rules, sym}
use Rattle.pg_interval.proofs.pg_interval.Interval.in_normal_form.Goals as goal

pub returns-clause-within : goal.returns-clause-within
returns-clause-within c = record { months = search rules; days = search rules; microseconds = search rules }

pub returns-clause-normal : goal.returns-clause-normal
returns-clause-normal c = (c.args.self, returns-clause-within c, sym c.from.ensures.form)
