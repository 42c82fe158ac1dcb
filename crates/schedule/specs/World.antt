-- The schedule: shifts that clients share, and what it comes to that a client's message is met.
use Rattle.std.specs.Prelude.{ℕ, Bool, true, false, not, ◌&&◌, if◌then◌else◌, List, [], Option, Some, None, Result, Ok, Err}
use Rattle.pg_messages.specs.declared.response.TransactionStatus.{TransactionStatus}
use Rattle.pg_messages.specs.declared.response.TransactionStatus.TheVariants as status
use Rattle.pg_results.specs.declared.error.PgWireError.{PgWireError}
use Rattle.pg_results.specs.declared.format.Format.{Format}
use Rattle.pg_results.specs.declared.format.Format.TheVariants as format
use Rattle.asked_queries.specs.Asking.{AskedFor, Nothing, Simple, Extended, asked}
use Rattle.shift_table.specs.declared.shift.Shift.{Shift}
use Rattle.shift_orders.specs.Statements.{meaning_of}
use Rattle.shift_orders.specs.Orders.{and_then, order_of}
use Rattle.shift_orders.specs.declared.order.ShiftOrder.{ShiftOrder}
use Rattle.shift_orders.specs.declared.statement.ShiftStatement.{ShiftStatement}
use Rattle.shift_orders.specs.declared.statement.ShiftStatement.TheVariants as statement
use Rattle.shift_transactions.specs.Doing.{Open, Done, done}
use Rattle.shift_transactions.specs.Steps.{changed}
use Rattle.shift_transactions.specs.declared.outcome.Refusal.TheVariants as refusal
use Rattle.shift_transactions.specs.declared.step.Step.{Step}
use Rattle.shift_sheets.specs.Answers.{nothing_asked, refused, told_error}
use Rattle.shift_sheets.specs.Sheets.{shift_parser, shift_sheet}
use Rattle.shared_worlds.specs.Worlds.{Met, WorldTold}

-- a transaction has failed
abbrev pub has_failed : TransactionStatus → Bool
has_failed status.Error = true
has_failed status.Transaction = false
has_failed status.Idle = false

-- COMMIT and ROLLBACK end a transaction
abbrev pub ends_transaction : ShiftStatement → Bool
ends_transaction statement.Commit = true
ends_transaction statement.Rollback = true
ends_transaction _ = false

-- What a statement asks. In a transaction that has failed each one that doesn't end it is refused, and its arguments aren't read.
abbrev pub order_in : Bool → ShiftStatement → List (Option (List ℕ)) → Format → Result ShiftOrder PgWireError
order_in failed s parameters formats =
    if failed && not (ends_transaction s) then Err (refused refusal.Failed) else order_of s parameters formats

-- The order that is asked for, or why what is asked for is none; None where no query is asked for. A simple query has no parameters.
abbrev pub ordered : Bool → AskedFor ShiftStatement → Option (Result ShiftOrder PgWireError)
ordered failed Nothing = None
ordered failed (Simple query) = Some (and_then (meaning_of query) (λ s. order_in failed s [] format.UnifiedText))
ordered failed (Extended p) = Some (order_in failed p.statement.statement p.parameters p.parameter_format)

-- what is done is told
abbrev pub met_done : Done → Met (List Step) (Option Open) ShiftStatement
met_done d = record { change = d.change; own = d.transaction; told = shift_sheet (Ok d.outcome) }

abbrev pub met_unchanged : Option Open → PgWireError → Met (List Step) (Option Open) ShiftStatement
met_unchanged own e = record { change = None; own = own; told = shift_sheet (Err e) }

abbrev pub met_by : List Shift → Option Open → Bool → Option (Result ShiftOrder PgWireError) → Met (List Step) (Option Open) ShiftStatement
met_by t own failed None = met_unchanged own nothing_asked
met_by t own failed (Some (Err e)) = met_unchanged own (told_error e)
met_by t own failed (Some (Ok o)) = met_done (done failed t own o)

-- It begins without a shift. A change is of one order, or of a transaction; a client has a transaction of its own, or none.
abbrev pub schedule : WorldTold (List Shift) (List Step) (Option Open) ShiftStatement
schedule = record {
  begins = [];
  moved = changed;
  first = None;
  meeting = λ t own s m. met_by t own (has_failed s.info.status) (ordered (has_failed s.info.status) (asked s m));
  parser = shift_parser;
}
