use Rattle.std.proofs.Common.{◌≡◌, drop}
use Rattle.shift_transactions.specs.Steps.{done_in_turn}
use Rattle.shift_transactions.proofs.step.do_in_turn.Given as goal

-- the steps to come, on the table behind those before, come to what all come to
abbrev pub invariant-loop-step : goal.invariant-loop-step
invariant-loop-step l = done_in_turn l.behind (drop l.step-index l.steps) ≡ done_in_turn l.initial.behind l.steps
