-- What trying a step comes to.
use Rattle.std.specs.Prelude.{List, Option, Some, None, Result, Ok, Err}
use Rattle.shift_table.specs.declared.shift.Shift.{Shift}
use Rattle.shift_transactions.specs.declared.step.Step.{Step}
use Rattle.shift_transactions.specs.declared.outcome.Refusal.{Refusal}
use Rattle.shift_transactions.specs.Steps.{changed}

-- the table then, and why the step was refused, if it was
abbrev pub after : List Shift → Result (List Shift) Refusal → List Shift × Option Refusal
after t (Ok behind) = (behind, None)
after t (Err refusal) = (t, Some refusal)

-- the table of all clients behind a change, if there is one
abbrev pub changed_by : List Shift → Option (List Step) → List Shift
changed_by t None = t
changed_by t (Some steps) = changed t steps
