use Rattle.shift_transactions.specs.Steps.{tried}
use Rattle.shift_transactions.proofs.Turns.{refused}
use Rattle.shift_transactions.proofs.doing.do_alone.Goals as goal

pub returns-in-Some-clause-changed : goal.returns-in-Some-clause-changed
returns-in-Some-clause-changed c =
    refused c.args.table.now c.try_step.new.table (tried c.args.table.now c.args.step) c.in_ok-try_step.field-0 c.in-Some.refusal
    c.in_ok-try_step.ensures.tried c.in-Some.is
