-- What an order is answered where it is done, and which outcomes leave all as it was.
use Rattle.std.specs.Prelude.{Bool, true, false, Ok, ◌≡◌}
use Rattle.shift_orders.specs.declared.order.ShiftOrder.{ShiftOrder}
use Rattle.shift_orders.specs.declared.order.ShiftOrder.TheVariants as order
use Rattle.shift_transactions.specs.declared.outcome.Outcome.{Outcome}
use Rattle.shift_transactions.specs.declared.outcome.Outcome.TheVariants as outcome
use Rattle.shift_transactions.specs.declared.outcome.Refusal.TheVariants as refusal
use Rattle.shift_sheets.specs.Answers.{said}
use Rattle.shift_sheets.specs.declared.answer.Answer.{Answer}
use Rattle.shift_sheets.specs.declared.answer.Answer.TheVariants as answer

-- the answer to an order that is done, for a client whose transaction has failed or hasn't; what is shown has an answer of its own
abbrev pub answer_of : Bool → ShiftOrder → Answer
answer_of failed (order.Book s) = answer.Booked
answer_of failed (order.Cancel name start) = answer.Canceled
answer_of failed order.Shifts = answer.Nothing
answer_of failed (order.ShiftsOf name) = answer.Nothing
answer_of failed order.Begin = answer.Began
answer_of true order.Commit = answer.RolledBack
answer_of false order.Commit = answer.Committed
answer_of failed order.Rollback = answer.RolledBack

-- an outcome is what the answer to a done order says, or shifts are shown, or the order was refused
abbrev pub Fits : Answer → Outcome → Type 0
Fits a (outcome.Shown shifts) = Unit {0}
Fits a (outcome.Refused why) = Unit {0}
Fits a o = said a ≡ Ok o

-- shifts are shown, or the order was refused for what it asks: all is as it was then
abbrev pub LeavesAll : Outcome → Type 0
LeavesAll (outcome.Shown shifts) = Unit {0}
LeavesAll (outcome.Refused refusal.Changed) = ⊥
LeavesAll (outcome.Refused why) = Unit {0}
LeavesAll _ = ⊥
