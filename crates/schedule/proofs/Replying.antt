-- What a simple query is answered, whatever its order came to.
use Rattle.std.proofs.Common.{◌≡◌, Bool, true, false, if◌then◌else◌, ℕ, List, [], ◌∷◌, ◌++◌, Option, Some, None, Result, Ok, Err, codes, length, map, refl, ap, sym, ◌∙◌}
use Rattle.std.proofs.lemmas.List.{append-nil, length-map}
use Rattle.pg_messages.specs.declared.data.DataRow.{DataRow}
use Rattle.pg_messages.specs.declared.response.ErrorInfo.{ErrorInfo}
use Rattle.pg_messages.specs.declared.response.TransactionStatus.{TransactionStatus}
use Rattle.pg_messages.specs.declared.response.TransactionStatus.TheVariants as status
use Rattle.pg_messages.specs.declared.frontend.PgWireFrontendMessage.{PgWireFrontendMessage}
use Rattle.pg_messages.specs.declared.frontend.PgWireFrontendMessage.TheVariants as client
use Rattle.pg_messages.specs.declared.backend.PgWireBackendMessage.TheVariants as server
use Rattle.pg_messages.specs.Status.{to_error_state, to_in_transaction_state}
use Rattle.pg_results.specs.Errors.{info_of}
use Rattle.pg_results.specs.Page.{before_error, first_error}
use Rattle.pg_results.specs.Responses as response
use Rattle.pg_results.specs.Responses.{ToldResponse}
use Rattle.pg_results.specs.Rows.{RowItem}
use Rattle.pg_results.specs.Tags.{tag_of, tag_with_rows}
use Rattle.pg_results.specs.Texts.{is_blank}
use Rattle.pg_results.specs.declared.client.PgWireConnectionState.{PgWireConnectionState}
use Rattle.pg_results.specs.declared.client.PgWireConnectionState.TheVariants as phase
use Rattle.pg_results.specs.declared.error.PgWireError.{PgWireError}
use Rattle.pg_results.specs.declared.format.Format.{Format}
use Rattle.pg_results.specs.declared.format.Format.TheVariants as format
use Rattle.pg_replies.specs.Replies.{Replies, done, done_with, error_reply, ready, row_description, row_replies}
use Rattle.pg_replies.specs.ResponseRows.{Sent, responded, sent, unless_error}
use Rattle.pg_client.specs.Answer.{Answer, Ends, Goes}
use Rattle.pg_client.specs.declared.desk.DeskCall.TheVariants.{Start}
use Rattle.pg_client.specs.declared.ends.EndKind.TheVariants as end
use Rattle.pg_client.specs.Effect.{AnswersReady, says, settle, silent}
use Rattle.pg_client.specs.Errors.{is_fatal}
use Rattle.pg_client.specs.State.{State, in_phase, with_status}
use Rattle.conversation_table.specs.SimpleRows.{answered, answered_all, followed, query_run, responded_all}
use Rattle.conversation_table.specs.Table.{row, scope_in, whole_table}
use Rattle.row_handlers.specs.Told.{alone, ready_with, rows_under}
use Rattle.shift_table.specs.declared.shift.Shift.{Shift}
use Rattle.shift_orders.specs.declared.statement.ShiftStatement.{ShiftStatement}
use Rattle.shift_rows.specs.ShiftRows.{columns, row_of, shift_items}
use Rattle.shift_transactions.specs.declared.outcome.Outcome.{Outcome}
use Rattle.shift_transactions.specs.declared.outcome.Outcome.TheVariants as outcome
use Rattle.shift_transactions.specs.declared.outcome.Refusal.{Refusal}
use Rattle.shift_transactions.specs.declared.outcome.Refusal.TheVariants as refusal
use Rattle.shift_sheets.specs.Answers.{refused, response_to}
use Rattle.shift_sheets.specs.Sheets.{shift_sheet, told_simple}
use Rattle.schedule.specs.Replied.{replies_for, status_after}

-- ---- shifts as rows

rows_of_items : (formats : Format) (shifts : List Shift)
    → before_error (shift_items (record { shifts = shifts; formats = formats })) ≡ map (row_of formats) shifts
rows_of_items formats [] = refl
rows_of_items formats (s ∷ shifts) = ap (λ rows. row_of formats s ∷ rows) (rows_of_items formats shifts)

no_error : (formats : Format) (shifts : List Shift) → first_error (shift_items (record { shifts = shifts; formats = formats })) ≡ None
no_error formats [] = refl
no_error formats (s ∷ shifts) = no_error formats shifts

-- the columns, these rows, and the tag with a number
abbrev shown_as : List DataRow → ℕ → Replies
shown_as rows count = row_description (columns format.UnifiedText) ∷ row_replies rows ++ done_with (codes "SELECT") count ∷ []

sent_shown : (now : TransactionStatus) (shifts : List Shift)
    → responded now (rows_under (columns format.UnifiedText) (shift_items (record { shifts = shifts; formats = format.UnifiedText })))
    ≡ sent now (replies_for (outcome.Shown shifts))
sent_shown now shifts =
    let items = shift_items (record { shifts = shifts; formats = format.UnifiedText }) in
    ap (λ (e : Option (PgWireError × List RowItem)). unless_error now false
    (row_description (columns format.UnifiedText) ∷ row_replies (before_error items))
    (done_with (codes "SELECT") (length (before_error items)) ∷ []) e) (no_error format.UnifiedText shifts)
    ∙ (ap (λ rows. sent now (shown_as rows (length rows))) (rows_of_items format.UnifiedText shifts)
    ∙ ap (λ count. sent now (shown_as (map (row_of format.UnifiedText) shifts) count)) (length-map shifts (row_of format.UnifiedText)))

-- ---- one response

-- the answer to a query that owes no poll
abbrev answer_to : List Bool → State ShiftStatement → Result ToldResponse PgWireError → Answer (State ShiftStatement)
answer_to answers s outcome = settle AnswersReady (query_run answers s (ready_with (alone outcome)))

-- these replies, and ReadyForQuery with this status
abbrev replied_with : State ShiftStatement → Replies → TransactionStatus → Answer (State ShiftStatement)
replied_with s replies now = record {
  replies = replies ++ ready now ∷ [];
  calls = Start ∷ [];
  next = Goes (with_status s now);
}

-- the answer whose one response was sent so
abbrev sent_alone : State ShiftStatement → Sent → Answer (State ShiftStatement)
sent_alone s first =
    let all = followed first first.refusal (responded_all first.status []) in
    settle AnswersReady (record { calls = Start ∷ []; effect = answered s all all.refusal })

responds : (answers : List Bool) (s : State ShiftStatement) (r : ToldResponse) (replies : Replies) (now : TransactionStatus)
    → responded s.info.status r ≡ sent now replies → answer_to answers s (Ok r) ≡ replied_with s replies now
responds answers s r replies now is = ap (sent_alone s) is ∙ ap (λ l. replied_with s l now) (append-nil replies)

-- ---- a refusal

not_fatal : (why : Refusal) → is_fatal (info_of (refused why)) ≡ false
not_fatal refusal.NotPositive = refl
not_fatal refusal.Clash = refl
not_fatal refusal.UnknownShift = refl
not_fatal refusal.Changed = refl
not_fatal refusal.Failed = refl

-- an error that would end the conversation
abbrev ended_by : ErrorInfo → Answer (State ShiftStatement)
ended_by info = record { replies = error_reply info ∷ []; calls = Start ∷ []; next = Ends end.Fatal }

-- an error behind which the conversation goes on in this phase
abbrev goes_on : State ShiftStatement → ErrorInfo → PgWireConnectionState → Answer (State ShiftStatement)
goes_on s info phase = record {
  replies = error_reply info ∷ ready (to_error_state s.info.status) ∷ [];
  calls = Start ∷ [];
  next = Goes (in_phase (with_status s (to_error_state s.info.status)) phase);
}

refuses_so : (answers : List Bool) (s : State ShiftStatement) (why : Refusal) → s.info.state ≡ phase.ReadyForQuery
    → answer_to answers s (Err (refused why)) ≡ replied_with s (replies_for (outcome.Refused why)) (to_error_state s.info.status)
refuses_so answers s why awaited =
    let info = info_of (refused why) in
    ap (λ b. if b then ended_by info else goes_on s info phase.ReadyForQuery) (not_fatal why) ∙ ap (goes_on s info) (sym awaited)

-- ---- all outcomes

answers_to : (told : Outcome) (answers : List Bool) (s : State ShiftStatement) → s.info.state ≡ phase.ReadyForQuery
    → answer_to answers s (response_to format.UnifiedText told) ≡ replied_with s (replies_for told) (status_after s.info.status told)
answers_to outcome.Began answers s awaited =
    responds answers s (response.TransactionStart (tag_of (codes "BEGIN"))) (done (codes "BEGIN") ∷ [])
    (to_in_transaction_state s.info.status) refl
answers_to outcome.Committed answers s awaited =
    responds answers s (response.TransactionEnd (tag_of (codes "COMMIT"))) (done (codes "COMMIT") ∷ []) status.Idle refl
answers_to outcome.RolledBack answers s awaited =
    responds answers s (response.TransactionEnd (tag_of (codes "ROLLBACK"))) (done (codes "ROLLBACK") ∷ []) status.Idle refl
answers_to outcome.Booked answers s awaited =
    responds answers s (response.Execution (tag_with_rows 1 (tag_of (codes "BOOK")))) (done_with (codes "BOOK") 1 ∷ []) s.info.status refl
answers_to outcome.Canceled answers s awaited =
    responds answers s (response.Execution (tag_with_rows 1 (tag_of (codes "CANCEL")))) (done_with (codes "CANCEL") 1 ∷ []) s.info.status refl
answers_to (outcome.Shown shifts) answers s awaited =
    responds answers s (rows_under (columns format.UnifiedText) (shift_items (record { shifts = shifts; formats = format.UnifiedText })))
    (replies_for (outcome.Shown shifts)) s.info.status (sent_shown s.info.status shifts)
answers_to (outcome.Refused why) answers s awaited = refuses_so answers s why awaited

pub replied : (told : Outcome) (answers : List Bool) (s : State ShiftStatement) (text : List ℕ) → s.info.state ≡ phase.ReadyForQuery
    → is_blank text ≡ false → whole_table (shift_sheet (Ok told)) answers s (client.Query (record { query = text })) ≡ record {
      replies = replies_for told ++ ready (status_after s.info.status told) ∷ [];
      calls = Start ∷ [];
      next = Goes (with_status s (status_after s.info.status told));
    }
replied told answers s text awaited some =
    let m = client.Query (record { query = text }) in
    ap (λ (p : PgWireConnectionState). settle (scope_in p m) (row (shift_sheet (Ok told)) answers s m p)) awaited
    ∙ (ap (λ b. settle AnswersReady (if b then silent (says (server.EmptyQueryResponse (record {}) ∷ ready s.info.status ∷ []) s)
    else query_run answers s (told_simple (Ok told) s.info text))) some
    ∙ answers_to told answers s awaited)
