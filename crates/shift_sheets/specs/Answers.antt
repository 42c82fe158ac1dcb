-- What a query is answered: what its order came to, or the error of its text or of its parameters.
use Rattle.std.specs.Prelude.{ℕ, List, Result, Ok, Err, codes}
use Rattle.std.specs.Arc.{arc_value}
use Rattle.pg_results.specs.Errors.{error, info_of}
use Rattle.pg_results.specs.Responses as response
use Rattle.pg_results.specs.Responses.{ToldResponse}
use Rattle.pg_results.specs.Rows.{IsItemError}
use Rattle.pg_results.specs.Tags.{tag_of, tag_with_rows}
use Rattle.pg_results.specs.declared.error.PgWireError.{PgWireError}
use Rattle.pg_results.specs.declared.error.PgWireError.TheVariants as wire
use Rattle.pg_results.specs.declared.format.Format.{Format}
use Rattle.row_handlers.specs.Told.{rows_under}
use Rattle.shift_rows.specs.ShiftRows.{columns, shift_items}
use Rattle.shift_table.specs.declared.shift.Shift.{Shift}
use Rattle.shift_transactions.specs.declared.outcome.Outcome.{Outcome}
use Rattle.shift_transactions.specs.declared.outcome.Outcome.TheVariants as outcome
use Rattle.shift_transactions.specs.declared.outcome.Refusal.{Refusal}
use Rattle.shift_transactions.specs.declared.outcome.Refusal.TheVariants as refusal
use Rattle.shift_sheets.specs.declared.answer.Answer.{Answer}
use Rattle.shift_sheets.specs.declared.answer.Answer.TheVariants as answer

-- an error of this code and text
abbrev pub user_error : List ℕ → List ℕ → PgWireError
user_error code message = wire.UserError (error code message)

-- the error of an order that was refused (PostgreSQL: PostgreSQL Error Codes)
abbrev pub refused : Refusal → PgWireError
refused refusal.NotPositive = user_error (codes "22023") (codes "the length of a shift is above zero")
refused refusal.Clash = user_error (codes "23P01") (codes "the shift clashes with one that is booked")
refused refusal.UnknownShift = user_error (codes "42704") (codes "no shift of this name starts then")
refused refusal.Changed = user_error (codes "40001") (codes "could not serialize access due to concurrent update")
refused refusal.Failed =
    user_error (codes "25P02") (codes "current transaction is aborted, commands ignored until end of transaction block")

-- the response to an order: a tag, rows in these formats, or an error
abbrev pub response_to : Format → Outcome → Result ToldResponse PgWireError
response_to formats outcome.Began = Ok (response.TransactionStart (tag_of (codes "BEGIN")))
response_to formats outcome.Committed = Ok (response.TransactionEnd (tag_of (codes "COMMIT")))
response_to formats outcome.RolledBack = Ok (response.TransactionEnd (tag_of (codes "ROLLBACK")))
response_to formats outcome.Booked = Ok (response.Execution (tag_with_rows 1 (tag_of (codes "BOOK"))))
response_to formats outcome.Canceled = Ok (response.Execution (tag_with_rows 1 (tag_of (codes "CANCEL"))))
response_to formats (outcome.Shown shifts) =
    Ok (rows_under (columns formats) (shift_items (record { shifts = shifts; formats = formats })))
response_to formats (outcome.Refused why) = Err (refused why)

abbrev pub response_in : Format → Result Outcome PgWireError → Result ToldResponse PgWireError
response_in formats (Ok o) = response_to formats o
response_in formats (Err e) = Err e

-- an error is told by its code and its text
abbrev pub told_error : PgWireError → PgWireError
told_error e = wire.UserError (info_of e)

-- where no query is asked for
abbrev pub nothing_asked : PgWireError
nothing_asked = user_error (codes "XX000") (codes "no query is asked for")

-- what an answer says
abbrev pub said : Answer → Result Outcome PgWireError
said answer.Began = Ok outcome.Began
said answer.Committed = Ok outcome.Committed
said answer.RolledBack = Ok outcome.RolledBack
said answer.Booked = Ok outcome.Booked
said answer.Canceled = Ok outcome.Canceled
said (answer.Shown shifts) = Ok (outcome.Shown (arc_value shifts).items)
said (answer.Refused why) = Ok (outcome.Refused why)
said (answer.Error info) = Err (wire.UserError info)
said answer.Nothing = Err nothing_asked

-- an error that was found can be told
abbrev pub CanBeTold : Answer → Type 0
CanBeTold (answer.Error info) = IsItemError (wire.UserError info)
CanBeTold _ = Unit {0}
