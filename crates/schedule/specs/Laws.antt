-- What an order of a client comes to: the change that it is among those of all clients, what it makes of the client's transaction, and what
-- is told.
use Rattle.std.specs.Prelude.{Bool, true, List, Option, [], ◌∷◌, ◌++◌, Result, Ok, Err, None, Some, false, ◌≡◌}
use Rattle.pg_messages.specs.declared.frontend.PgWireFrontendMessage.{PgWireFrontendMessage}
use Rattle.pg_client.specs.State.{State}
use Rattle.conversation_table.specs.Handlers.{Handlers}
use Rattle.asked_queries.specs.Asking.{asked}
use Rattle.shift_table.specs.Shifts.{canceled}
use Rattle.shift_table.specs.declared.shift.Shift.{Shift}
use Rattle.shift_orders.specs.declared.order.ShiftOrder.{ShiftOrder}
use Rattle.shift_orders.specs.declared.order.ShiftOrder.TheVariants as order
use Rattle.shift_orders.specs.declared.statement.ShiftStatement.{ShiftStatement}
use Rattle.shift_transactions.specs.Doing.{Open}
use Rattle.shift_transactions.specs.declared.step.Step.{Step}
use Rattle.shift_transactions.specs.declared.step.Step.TheVariants.{Book, Cancel}
use Rattle.shift_transactions.specs.declared.outcome.Outcome.{Outcome}
use Rattle.shift_transactions.specs.declared.outcome.Outcome.TheVariants.{Booked, Canceled, Committed, Refused}
use Rattle.shift_transactions.specs.declared.outcome.Refusal.{Refusal}
use Rattle.shift_transactions.specs.declared.outcome.Refusal.TheVariants.{Changed, UnknownShift}
use Rattle.shift_sheets.specs.Sheets.{shift_sheet}
use Rattle.shared_worlds.specs.Sharing.{Known, MeetsShared}
use Rattle.shared_worlds.specs.Worlds.{place_of}
use Rattle.schedule.specs.World.{has_failed, ordered, schedule}

-- what a client's handlers know of the schedule: the changes that they have seen, and the client's transaction, where one is open
abbrev pub KnownShifts : Type 0
KnownShifts = Known (List Step) (Option Open)

-- A client's message asked for this order while no transaction of the client had failed, and it was met.
pub record HasOrdered (w v : KnownShifts) (s : State ShiftStatement) (m : PgWireFrontendMessage) (h : Handlers ShiftStatement)
    (o : ShiftOrder) : Type 0 where
  pub asks : ordered false (asked s m) ≡ Some (Ok o)
  pub none_failed : has_failed s.info.status ≡ false
  pub met : MeetsShared schedule w s m h v

-- ---- among the changes of all clients

-- what may change the shifts that clients share: BOOK and CANCEL outside of a transaction, and a transaction's COMMIT
abbrev pub may_change : Option Open → ShiftOrder → Bool
may_change None (order.Book shift) = true
may_change None (order.Cancel name start) = true
may_change (Some x) order.Commit = true
may_change _ _ = false

-- Nothing is changed, and this outcome is told.
pub record ChangesNothing (before now : List (List Step)) (h : Handlers ShiftStatement) (told : Outcome) : Type 0 where
  pub same : now ≡ before
  pub tells : h ≡ shift_sheet (Ok told)

-- These steps are one change, the last of all. The shifts behind it are these, and this outcome is told.
pub record ChangesLast (steps : List Step) (left : List Shift) (before now : List (List Step)) (h : Handlers ShiftStatement) (told : Outcome)
    : Type 0 where
  pub last : now ≡ before ++ steps ∷ []
  pub leaves : place_of schedule now ≡ left
  pub tells : h ≡ shift_sheet (Ok told)

-- Booking a shift was tried. Where it could be booked, that is the last change. Else nothing is changed, and the reason is told.
abbrev pub BooksLast : Shift → Result (List Shift) Refusal → List (List Step) → List (List Step) → Handlers ShiftStatement → Type 0
BooksLast shift (Ok left) before now h = ChangesLast (Book shift ∷ []) left before now h Booked
BooksLast shift (Err why) before now h = ChangesNothing before now h (Refused why)

-- The shift that was found is canceled by the last change. Where none was found, nothing is changed, and that is told.
abbrev pub CancelsLast : Option Shift → List (List Step) → List (List Step) → Handlers ShiftStatement → Type 0
CancelsLast None before now h = ChangesNothing before now h (Refused UnknownShift)
CancelsLast (Some shift) before now h = ChangesLast (Cancel shift ∷ []) (canceled (place_of schedule before) shift.name shift.start) before now
    h Canceled

-- A transaction without a step changes nothing. Where all its steps could be done in turn, they are one change, the last of all. Else nothing is
-- changed, and the client is told that others changed the shifts.
abbrev pub CommitsLast : List Step → Result (List Shift) Refusal → List (List Step) → List (List Step) → Handlers ShiftStatement → Type 0
CommitsLast [] r before now h = ChangesNothing before now h Committed
CommitsLast (step ∷ steps) (Ok left) before now h = ChangesLast (step ∷ steps) left before now h Committed
CommitsLast (step ∷ steps) (Err why) before now h = ChangesNothing before now h (Refused Changed)

-- ---- within a transaction

-- The transaction is as it was, and this outcome is told.
pub record KeepsTransaction (x : Open) (now : Option Open) (h : Handlers ShiftStatement) (told : Outcome) : Type 0 where
  pub same : now ≡ Some x
  pub tells : h ≡ shift_sheet (Ok told)

-- This step is the transaction's last. The transaction sees these shifts then, and this outcome is told.
pub record AddsStep (x : Open) (step : Step) (left : List Shift) (now : Option Open) (h : Handlers ShiftStatement) (told : Outcome) : Type 0 where
  pub last : now ≡ Some (record { table = left; steps = x.steps ++ step ∷ [] })
  pub tells : h ≡ shift_sheet (Ok told)

-- Booking a shift was tried within a transaction. Where it could be booked, that is the transaction's last step. Else the transaction is as it
-- was, and the reason is told.
abbrev pub BooksWithin : Open → Shift → Result (List Shift) Refusal → Option Open → Handlers ShiftStatement → Type 0
BooksWithin x shift (Ok left) now h = AddsStep x (Book shift) left now h Booked
BooksWithin x shift (Err why) now h = KeepsTransaction x now h (Refused why)

-- The shift that was found is canceled by the transaction's last step. Where none was found, the transaction is as it was, and that is told.
abbrev pub CancelsWithin : Open → Option Shift → Option Open → Handlers ShiftStatement → Type 0
CancelsWithin x None now h = KeepsTransaction x now h (Refused UnknownShift)
CancelsWithin x (Some shift) now h = AddsStep x (Cancel shift) (canceled x.table shift.name shift.start) now h Canceled
