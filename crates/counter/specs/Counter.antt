-- A counter: what its sheets tell, and how it counts.
use Rattle.std.specs.Prelude.{ℕ, ◌+◌, Bool, false, pos, negsuc, List, [], ◌∷◌, Option, Some, None, Result, Ok, Err, ◌≡◌, if◌then◌else◌, bytes_eq, codes, decimal, min}
use Rattle.pg_messages.specs.declared.data.DataRow.{DataRow}
use Rattle.pg_messages.specs.declared.response.TransactionStatus.{TransactionStatus}
use Rattle.pg_messages.specs.declared.backend.PgWireBackendMessage.TheVariants as server
use Rattle.pg_messages.specs.declared.frontend.PgWireFrontendMessage.{PgWireFrontendMessage}
use Rattle.pg_messages.specs.declared.frontend.PgWireFrontendMessage.TheVariants as client
use Rattle.pg_types.specs.declared.pg_type.PgType.{PgType}
use Rattle.pg_types.specs.declared.pg_type.PgType.TheVariants as type
use Rattle.pg_results.specs.declared.client.PgWireConnectionState.{PgWireConnectionState}
use Rattle.pg_results.specs.declared.client.PgWireConnectionState.TheVariants as phase
use Rattle.pg_results.specs.declared.error.PgWireError.{PgWireError}
use Rattle.pg_results.specs.declared.error.PgWireError.TheVariants as wire
use Rattle.pg_results.specs.declared.format.Format.{Format}
use Rattle.pg_results.specs.declared.format.Format.TheVariants as format
use Rattle.pg_results.specs.Errors.{error}
use Rattle.pg_results.specs.Fields.{Field}
use Rattle.pg_results.specs.Told.{ParserTold}
use Rattle.pg_portal.specs.Encoding.{cell_bytes}
use Rattle.pg_replies.specs.Replies.{Replies, done_with, ready, row_description}
use Rattle.pg_client.specs.State.{State}
use Rattle.conversation_table.specs.Handlers.{Handlers}
use Rattle.conversation_runs.specs.Streams.{greatest_count}
use Rattle.row_handlers.specs.Answers.{AnswersTold, column_of, format_at}
use Rattle.row_handlers.specs.Told.{row_handlers, told_parser}
use Rattle.counter.specs.declared.answers.CounterStatement.{CounterStatement}
use Rattle.counter.specs.declared.answers.CounterStatement.TheVariants as statement

-- ---- what a sheet tells

-- the error of any query but NEXT
abbrev pub refusal : PgWireError
refusal = wire.UserError (error (codes "42601") (codes "the only query is NEXT, as a simple query"))

-- what a query means: NEXT is a simple query, which is given no parameter types
abbrev pub meaning_of : List ℕ → Option (List (Option PgType)) → Result CounterStatement PgWireError
meaning_of query None = if bytes_eq query (codes "NEXT") then Ok statement.Next else Err refusal
meaning_of query (Some types) = Err refusal

-- the column of the number
abbrev pub columns : Format → List Field
columns formats = column_of (format_at formats 0) (codes "number") type.Numeric (negsuc 0) ∷ []

-- the row of a number: its digits
abbrev pub row_of : ℕ → DataRow
row_of number = record { payload = cell_bytes (Some (decimal number)); field_count = pos 1 }

abbrev pub told_counter : ℕ → AnswersTold CounterStatement
told_counter number = record {
  parse = meaning_of;
  parameter_types = λ s. [];
  columns = λ s formats. columns formats;
  rows = λ s parameters parameter_format formats. Ok (Ok (row_of number) ∷ []);
}

-- the sheet that tells this number
abbrev pub counter_sheet : ℕ → Handlers CounterStatement
counter_sheet number = row_handlers (told_counter number)

-- the parser of all sheets
abbrev pub counter_parser : ParserTold CounterStatement
counter_parser = told_parser (told_counter 0)

-- ---- how it counts

-- the message asks for the next number: it is NEXT, where a query is awaited
abbrev pub asks_next : PgWireConnectionState → PgWireFrontendMessage → Bool
asks_next phase.ReadyForQuery (client.Query m) = bytes_eq m.query (codes "NEXT")
asks_next _ _ = false

-- the number behind a message; the greatest one stays
abbrev pub counted : ℕ → State CounterStatement → PgWireFrontendMessage → ℕ
counted number s m = if asks_next s.info.state m then min (number + 1) greatest_count else number

-- The counter counts, and its sheet tells the number behind the message.
pub record CounterMeets (w : ℕ) (s : State CounterStatement) (m : PgWireFrontendMessage) (h : Handlers CounterStatement) (v : ℕ) : Type 0
  where
    pub counts : v ≡ counted w s m
    pub tells : h ≡ counter_sheet v

-- ---- what it comes to

-- the simple query NEXT
abbrev pub next_query : PgWireFrontendMessage
next_query = client.Query (record { query = codes "NEXT" })

-- the replies to a NEXT: one row with this number
abbrev pub number_replies : ℕ → TransactionStatus → Replies
number_replies number status = row_description (columns format.UnifiedText) ∷ server.DataRow (row_of number) ∷ done_with (codes "SELECT") 1
    ∷ ready status ∷ []
