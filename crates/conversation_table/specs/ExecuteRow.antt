-- Execute (protocol: Message Flow, Extended Query).
use Rattle.std.specs.Prelude.{ℕ, Bool, true, List, [], ◌∷◌, Option, Some, None, Result, Ok, Err, if◌then◌else◌, length, codes}
use Rattle.std.specs.FinMap as fin
use Rattle.pg_messages.specs.declared.extendedquery.Execute.{Execute}
use Rattle.pg_messages.specs.declared.data.DataRow.{DataRow}
use Rattle.pg_messages.specs.declared.backend.PgWireBackendMessage.TheVariants as server
use Rattle.pg_results.specs.declared.error.PgWireError.{PgWireError}
use Rattle.pg_results.specs.declared.error.PgWireError.TheVariants as wire
use Rattle.pg_results.specs.declared.client.PgWireConnectionState.TheVariants as phase
use Rattle.pg_portal.specs.declared.store.Entry.{Entry}
use Rattle.pg_portal.specs.declared.store.Entry.TheVariants as entry
use Rattle.pg_portal.specs.Fetching.{stage_after}
use Rattle.pg_results.specs.Page.{PageEnd, AtLimit, AtEnd, AtError, delivered_after, item_page}
use Rattle.pg_results.specs.Told.{ToldRows}
use Rattle.pg_portal.specs.Told.{TablePortal, Stage, Unstarted, Started, Ended}
use Rattle.pg_results.specs.Responses as response
use Rattle.pg_results.specs.Responses.{ToldResponse}
use Rattle.pg_replies.specs.PageEnd.{page_replies}
use Rattle.pg_replies.specs.Replies.{done_with}
use Rattle.conversation_table.specs.Questions.{Verdict, Passed, Canceled, Unanswered, started}
use Rattle.conversation_table.specs.Handlers.{ExtendedTold, ToldQuery}
use Rattle.pg_client.specs.State.{State, in_phase, with_status, with_portal, without_unnamed_portal}
use Rattle.pg_replies.specs.ResponseRows.{Sent, responded}
use Rattle.pg_client.specs.Effect.{Effect, Called, says, refuses, stopped, silent, Failed}

-- ---- a started portal

abbrev pub at_stage : {S : Type 0} → TablePortal S → Stage → TablePortal S
at_stage p stage = record { bound = p.bound; stage = stage }

-- A page at its limit ends with PortalSuspended, one at the end of the rows with the tag. One at an error replies the
-- error alone.
abbrev pub page_effect : {S : Type 0} → State S → List ℕ → ℕ → List DataRow → PageEnd DataRow → Effect S
page_effect s tag number rows (AtLimit items) = says (page_replies tag number rows (AtLimit items)) s
page_effect s tag number rows AtEnd = says (page_replies tag number rows AtEnd) s
page_effect s tag number rows (AtError e items) = refuses s e

-- A page of the response. The portal as it is after the page stands under the name. The tag counts the rows delivered
-- since the portal was started, with those of the page.
abbrev pub fetched : {S : Type 0} → State S → Execute → TablePortal S → ToldRows → ℕ → Effect S
fetched s m p r delivered =
    let page = item_page m.max_rows r.items in
    page_effect (with_portal s m.name (entry.Value (at_stage p (stage_after r delivered page.rows page.ending)))) r.command_tag
    (delivered_after delivered (length page.rows)) page.rows page.ending

-- a page of a finished portal has no row, and tells how many rows were delivered
abbrev pub fetched_nothing : {S : Type 0} → State S → ℕ → Effect S
fetched_nothing s delivered = says (done_with (codes "SELECT") delivered ∷ []) s

-- ---- a portal that isn't started

-- the state after what was sent: its status, and the phase of a COPY where one has begun
abbrev pub state_behind : {S : Type 0} → State S → Sent → State S
state_behind s sent = with_status (if sent.copying then in_phase s (phase.CopyInProgress true) else s) sent.status

-- what was sent, and its error where one cut it short
abbrev pub sent_in_execute : {S : Type 0} → State S → Sent → Option PgWireError → Effect S
sent_in_execute s sent None = says sent.replies (state_behind s sent)
sent_in_execute s sent (Some e) = record { replies = sent.replies; outcome = Failed s e }

abbrev pub executed_other : {S : Type 0} → State S → ToldResponse → Effect S
executed_other s r =
    let sent = responded s.info.status r in
    sent_in_execute s sent sent.refusal

-- A response without rows leaves the portal unstarted. A response that is an error is an error of the message. The end
-- of a transaction removes the unnamed portal.
abbrev pub executed_without_rows : {S : Type 0} → State S → ToldResponse → Effect S
executed_without_rows s (response.Error info) = refuses s (wire.UserError info)
executed_without_rows s (response.TransactionEnd tag) = executed_other (without_unnamed_portal s) (response.TransactionEnd tag)
executed_without_rows s r = executed_other s r

-- A response with rows starts the portal, of which no row is delivered yet.
abbrev pub executed : {S : Type 0} → State S → Execute → TablePortal S → ToldResponse → Effect S
executed s m p (response.Query r) = fetched s m p r 0
executed s m p r = executed_without_rows s r

abbrev pub execute_polled : {S : Type 0} → State S → Execute → TablePortal S → Verdict → Result ToldResponse PgWireError → Effect S
execute_polled s m p Unanswered outcome = stopped
execute_polled s m p Canceled outcome = refuses s wire.QueryCanceled
execute_polled s m p Passed (Ok r) = executed s m p r
execute_polled s m p Passed (Err e) = refuses s e

-- one start, the questions of the polls that it owes, and then its response
abbrev pub execute_run : {S : Type 0} → List Bool → State S → Execute → TablePortal S → ToldQuery ToldResponse → Called S
execute_run answers s m p query =
    let asked = started query.owes answers in
    record { calls = asked.calls; effect = execute_polled s m p asked.verdict query.outcome }

-- ---- each portal

abbrev pub executed_portal : {S : Type 0} → ExtendedTold S → List Bool → State S → Execute → TablePortal S → Stage → Called S
executed_portal h answers s m p Unstarted = execute_run answers s m p (h.query s.info p.bound m.max_rows)
executed_portal h answers s m p (Started r delivered) = silent (fetched s m p r delivered)
executed_portal h answers s m p (Ended delivered) = silent (fetched_nothing s delivered)

-- where there is no portal to run: none of this name, or an empty one
abbrev pub executed_nothing : {S : Type 0} → State S → List ℕ → Option (Entry (TablePortal S)) → Effect S
executed_nothing s name None = refuses s (wire.PortalNotFound name)
executed_nothing s name (Some e) = says (server.EmptyQueryResponse (record {}) ∷ []) s

abbrev pub executed_entry : {S : Type 0} → ExtendedTold S → List Bool → State S → Execute → Option (Entry (TablePortal S)) → Called S
executed_entry h answers s m None = silent (executed_nothing s m.name None)
executed_entry h answers s m (Some entry.Empty) = silent (executed_nothing s m.name (Some entry.Empty))
executed_entry h answers s m (Some (entry.Value p)) = executed_portal h answers s m p p.stage

abbrev pub on_execute : {S : Type 0} → ExtendedTold S → List Bool → State S → Execute → Called S
on_execute h answers s m = executed_entry h answers s m (fin.get s.portals m.name)
