-- What a client is sent that asks by a simple query (protocol: Message Flow, Simple Query).
use Rattle.std.specs.Prelude.{List, [], ◌∷◌, ◌++◌, codes, length, map}
use Rattle.pg_messages.specs.declared.response.TransactionStatus.{TransactionStatus}
use Rattle.pg_messages.specs.declared.response.TransactionStatus.TheVariants as status
use Rattle.pg_messages.specs.Status.{to_error_state, to_in_transaction_state}
use Rattle.pg_results.specs.Errors.{info_of}
use Rattle.pg_results.specs.declared.format.Format.TheVariants as format
use Rattle.pg_replies.specs.Replies.{Replies, done, done_with, error_reply, row_description, row_replies}
use Rattle.shift_rows.specs.ShiftRows.{columns, row_of}
use Rattle.shift_transactions.specs.declared.outcome.Outcome.{Outcome}
use Rattle.shift_transactions.specs.declared.outcome.Outcome.TheVariants as outcome
use Rattle.shift_sheets.specs.Answers.{refused}

-- The replies that tell what an order came to: the tag of the command; or the columns of shifts, a row of texts for each, and the tag with their
-- number; or the error of what was refused.
abbrev pub replies_for : Outcome → Replies
replies_for outcome.Booked = done_with (codes "BOOK") 1 ∷ []
replies_for outcome.Canceled = done_with (codes "CANCEL") 1 ∷ []
replies_for (outcome.Shown shifts) = row_description (columns format.UnifiedText) ∷ row_replies (map (row_of format.UnifiedText) shifts)
    ++ done_with (codes "SELECT") (length shifts) ∷ []
replies_for outcome.Began = done (codes "BEGIN") ∷ []
replies_for outcome.Committed = done (codes "COMMIT") ∷ []
replies_for outcome.RolledBack = done (codes "ROLLBACK") ∷ []
replies_for (outcome.Refused why) = error_reply (info_of (refused why)) ∷ []

-- The status from then on: BEGIN opens a transaction, COMMIT and ROLLBACK end it, and a refusal fails one that is open. All else leaves it.
abbrev pub status_after : TransactionStatus → Outcome → TransactionStatus
status_after now outcome.Began = to_in_transaction_state now
status_after now outcome.Committed = status.Idle
status_after now outcome.RolledBack = status.Idle
status_after now (outcome.Refused why) = to_error_state now
status_after now _ = now
