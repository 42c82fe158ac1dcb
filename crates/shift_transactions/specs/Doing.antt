-- What orders do: on the table of all clients, or within a transaction.
use Rattle.std.specs.Prelude.{Bool, true, false, List, [], ◌∷◌, ◌++◌, Option, Some, None, Result, Ok, Err}
use Rattle.shift_table.specs.Shifts.{found, shifts_of}
use Rattle.shift_table.specs.declared.shift.Shift.{Shift}
use Rattle.shift_orders.specs.declared.order.ShiftOrder.{ShiftOrder}
use Rattle.shift_orders.specs.declared.order.ShiftOrder.TheVariants as order
use Rattle.shift_transactions.specs.declared.step.Step.{Step}
use Rattle.shift_transactions.specs.declared.step.Step.TheVariants.{Book, Cancel}
use Rattle.shift_transactions.specs.declared.outcome.Refusal.{Refusal}
use Rattle.shift_transactions.specs.declared.outcome.Refusal.TheVariants.{UnknownShift, Changed, Failed}
use Rattle.shift_transactions.specs.declared.outcome.Outcome.{Outcome}
use Rattle.shift_transactions.specs.declared.outcome.Outcome.TheVariants.{Began, Committed, RolledBack, Booked, Canceled, Shown, Refused}
use Rattle.shift_transactions.specs.Steps.{tried, done_in_turn}

-- An open transaction: the table as it stood when it began, with its own steps; and these steps.
pub record Open : Type 0 where
  pub table : List Shift
  pub steps : List Step

-- What an order comes to: the steps that change the table of all clients, if it changes it; the transaction that is open then, if one is; and
-- what the client is told.
pub record Done : Type 0 where
  pub change : Option (List Step)
  pub transaction : Option Open
  pub outcome : Outcome

-- nothing changes but what is open
abbrev pub leaves : Option Open → Outcome → Done
leaves transaction outcome = record { change = None; transaction = transaction; outcome = outcome }

-- ---- what is seen

-- a client sees its transaction's table where it has one, and else that of all clients
abbrev pub seen : List Shift → Option Open → List Shift
seen t None = t
seen t (Some x) = x.table

-- ---- steps

abbrev pub told_of : Step → Outcome
told_of (Book s) = Booked
told_of (Cancel s) = Canceled

-- a step on its own changes the table of all clients
abbrev pub stepped_alone : Step → Result (List Shift) Refusal → Done
stepped_alone step (Ok behind) = record { change = Some (step ∷ []); transaction = None; outcome = told_of step }
stepped_alone step (Err refusal) = leaves None (Refused refusal)

-- within a transaction it changes what the transaction sees
abbrev pub stepped_within : Open → Step → Result (List Shift) Refusal → Done
stepped_within x step (Ok behind) = leaves (Some (record { table = behind; steps = x.steps ++ step ∷ [] })) (told_of step)
stepped_within x step (Err refusal) = leaves (Some x) (Refused refusal)

abbrev pub stepped : List Shift → Option Open → Step → Done
stepped t None step = stepped_alone step (tried t step)
stepped t (Some x) step = stepped_within x step (tried x.table step)

-- the shift that was found is canceled; where none was found, that is told
abbrev pub canceling : List Shift → Option Open → Option Shift → Done
canceling t transaction None = leaves transaction (Refused UnknownShift)
canceling t transaction (Some s) = stepped t transaction (Cancel s)

-- ---- transactions

-- BEGIN within a transaction changes nothing
abbrev pub opened : List Shift → Option Open → Open
opened t None = record { table = t; steps = [] }
opened t (Some x) = x

-- The steps of a transaction change the table of all clients at once. Where others changed it so that one of them can't be done any more, nothing
-- is changed. A transaction without a step changes nothing.
abbrev pub committed_by : List Step → Result (List Shift) Refusal → Done
committed_by [] r = leaves None Committed
committed_by (step ∷ steps) (Ok behind) = record { change = Some (step ∷ steps); transaction = None; outcome = Committed }
committed_by (step ∷ steps) (Err refusal) = leaves None (Refused Changed)

abbrev pub committed : List Shift → Option Open → Done
committed t None = leaves None Committed
committed t (Some x) = committed_by x.steps (done_in_turn t x.steps)

-- ---- orders

abbrev pub done_on : List Shift → Option Open → ShiftOrder → Done
done_on t transaction (order.Book s) = stepped t transaction (Book s)
done_on t transaction (order.Cancel name start) = canceling t transaction (found (seen t transaction) name start)
done_on t transaction order.Shifts = leaves transaction (Shown (seen t transaction))
done_on t transaction (order.ShiftsOf name) = leaves transaction (Shown (shifts_of (seen t transaction) name))
done_on t transaction order.Begin = leaves (Some (opened t transaction)) Began
done_on t transaction order.Commit = committed t transaction
done_on t transaction order.Rollback = leaves None RolledBack

-- In a transaction that failed, COMMIT and ROLLBACK end it, and nothing of it is kept. Any other order is refused.
abbrev pub done_after_error : Option Open → ShiftOrder → Done
done_after_error transaction order.Commit = leaves None RolledBack
done_after_error transaction order.Rollback = leaves None RolledBack
done_after_error transaction o = leaves transaction (Refused Failed)

-- what an order comes to on the table of all clients, for a client with this transaction open, or none, which has failed or hasn't
abbrev pub done : Bool → List Shift → Option Open → ShiftOrder → Done
done true t transaction o = done_after_error transaction o
done false t transaction o = done_on t transaction o
