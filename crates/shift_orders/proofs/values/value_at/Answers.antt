use Rattle.std.proofs.Common.{arith}
use Rattle.shift_orders.proofs.Sendable.{no_parameter_answerable, no_value_answerable}
use Rattle.shift_orders.proofs.values.value_at.Goals as goal

pub returns-in_ok-no_value-in-Some-None-clause-answerable : goal.returns-in_ok-no_value-in-Some-None-clause-answerable
returns-in_ok-no_value-in-Some-None-clause-answerable c =
    no_value_answerable c.args.index c.in_ok-no_value-in-Some-None.field-0 c.in_ok-no_value-in-Some-None.ensures (omega arith)

pub returns-in_ok-no_parameter-in-None-clause-answerable : goal.returns-in_ok-no_parameter-in-None-clause-answerable
returns-in_ok-no_parameter-in-None-clause-answerable c =
    no_parameter_answerable c.args.index c.in_ok-no_parameter-in-None.field-0 c.in_ok-no_parameter-in-None.ensures (omega arith)
