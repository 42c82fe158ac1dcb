-- Each row of the whole table asks only so many questions, in order, and comes to something where they are answered.
use Rattle.std.proofs.Common.{◌≡◌, ◌≤◌, ◌==◌, ℕ, zero, suc, Bool, true, false, if◌then◌else◌, List, [], ◌∷◌, ◌++◌, Option, Some, None, Result, Ok, Err, nat_le, nat_lt, length, refl, ap, sym, append-nil, arith}
use Rattle.std.specs.FinMap as fin
use Rattle.pg_messages.specs.declared.startup.CancelRequest.{CancelRequest}
use Rattle.pg_messages.specs.declared.simplequery.Query.{Query}
use Rattle.pg_messages.specs.declared.extendedquery.Parse.{Parse}
use Rattle.pg_messages.specs.declared.extendedquery.Bind.{Bind}
use Rattle.pg_messages.specs.declared.extendedquery.Describe.{Describe}
use Rattle.pg_messages.specs.declared.extendedquery.Execute.{Execute}
use Rattle.pg_messages.specs.declared.startup.Startup.{Startup}
use Rattle.pg_messages.specs.declared.data.DataRow.{DataRow}
use Rattle.pg_messages.specs.declared.frontend.PgWireFrontendMessage.{PgWireFrontendMessage}
use Rattle.pg_messages.specs.declared.frontend.PgWireFrontendMessage.TheVariants as client
use Rattle.pg_messages.specs.declared.backend.PgWireBackendMessage.TheVariants as server
use Rattle.pg_messages.specs.declared.codec.ProtocolVersion.TheVariants.{PROTOCOL3_0, PROTOCOL3_2}
use Rattle.pg_messages.specs.Frames.{protocol_3_0, protocol_3_2, statement_target, portal_target}
use Rattle.pg_results.specs.declared.client.PgWireConnectionState.{PgWireConnectionState}
use Rattle.pg_results.specs.declared.client.PgWireConnectionState.TheVariants as phase
use Rattle.pg_results.specs.declared.error.PgWireError.{PgWireError}
use Rattle.pg_results.specs.declared.error.PgWireError.TheVariants as wire
use Rattle.pg_results.specs.declared.stmt.StoredStatement.{StoredStatement}
use Rattle.pg_portal.specs.declared.store.Entry.{Entry}
use Rattle.pg_portal.specs.declared.store.Entry.TheVariants as entry
use Rattle.pg_results.specs.Describing.{is_empty_list}
use Rattle.pg_results.specs.Fields.{Field}
use Rattle.pg_results.specs.Page.{PageEnd, AtLimit, AtEnd, AtError, delivered_after, item_page}
use Rattle.pg_portal.specs.Fetching.{stage_after}
use Rattle.pg_results.specs.Responses as response
use Rattle.pg_results.specs.Responses.{ToldResponse}
use Rattle.pg_results.specs.Statements.{prepared}
use Rattle.pg_results.specs.Texts.{is_blank}
use Rattle.pg_results.specs.Told.{ToldRows}
use Rattle.pg_portal.specs.Told.{TablePortal, Stage, Unstarted, Started, Ended}
use Rattle.pg_client.specs.declared.desk.DeskCall.TheVariants as desk
use Rattle.pg_client.specs.Answer.{BeginsWith, answers_of}
use Rattle.conversation_table.specs.CopyRows.{stepped, copied, copy_row}
use Rattle.pg_client.specs.Effect.{Effect, Called, Row, Outcome, Stopped, says, refuses, silent}
use Rattle.pg_client.specs.Errors.{unsupported_version, too_few_codes, values_for_empty}
use Rattle.conversation_table.specs.ExecuteRow.{at_stage, page_effect, sent_in_execute, fetched, fetched_nothing, executed, execute_polled, executed_nothing, executed_portal, executed_entry}
use Rattle.conversation_table.specs.ExtendedRows.{bind_complete, parsed, bound_portal, bound_with_columns, bound, described, described_statement, described_portal, statement_description, portal_description, on_describe}
use Rattle.conversation_table.specs.Handlers.{Handlers}
use Rattle.conversation_table.specs.Questions.{Verdict, Passed, Canceled, Unanswered, Questioned, questioned, started, after_call}
use Rattle.pg_replies.specs.Replies.{Replies, ready}
use Rattle.pg_replies.specs.ResponseRows.{Sent, responded}
use Rattle.conversation_table.specs.SimpleRows.{answered, responded_all, query_polled, query_run}
use Rattle.pg_client.specs.StartupRows.{accepts, startup_row, on_startup, on_cancel_request}
use Rattle.pg_client.specs.State.{State, in_phase, with_portal}
use Rattle.conversation_table.specs.Table.{statement_row, ready_row, awaiting_sync_row, row}

-- ---- questions

questioned_grows : (owed : ℕ) (answers more : List Bool)
    → BeginsWith (questioned owed (answers ++ more)).calls (questioned owed answers).calls
questioned_grows zero answers more = ([], refl)
questioned_grows (suc owed) [] more = ((questioned (suc owed) more).calls, refl)
questioned_grows (suc owed) (true ∷ answers) more = ([], refl)
questioned_grows (suc owed) (false ∷ answers) more =
    let rest = questioned_grows owed answers more in
    (rest.0, ap (λ l. desk.Ask false ∷ l) rest.1)

questioned_own : (owed : ℕ) (answers : List Bool) → questioned owed (answers_of (questioned owed answers).calls) ≡ questioned owed answers
questioned_own zero answers = refl
questioned_own (suc owed) [] = refl
questioned_own (suc owed) (true ∷ answers) = refl
questioned_own (suc owed) (false ∷ answers) = ap (λ q. after_call (desk.Ask false) q) (questioned_own owed answers)

-- no answer was missing
abbrev IsAnswered : Verdict → Type 0
IsAnswered Unanswered = ⊥
IsAnswered _ = Unit {0}

questioned_enough : (owed : ℕ) (answers : List Bool) → owed ≤ length answers → IsAnswered (questioned owed answers).verdict
questioned_enough zero answers h = tt
questioned_enough (suc owed) [] h = absurd (omega (arith, h))
questioned_enough (suc owed) (true ∷ answers) h = tt
questioned_enough (suc owed) (false ∷ answers) h = questioned_enough owed answers (omega (arith, h))

-- ---- rows

-- it doesn't stop for want of an answer
abbrev pub HasCome : {S : Type 0} → Outcome S → Type 0
HasCome Stopped = ⊥
HasCome _ = Unit {0}

-- More answers add calls only behind, the answers that a row's calls tell lead to it, and so many are enough.
pub record IsSteadyRow {S : Type 0} (row : Row S) : Type 0 where
  pub grows : (answers more : List Bool) → BeginsWith (row (answers ++ more)).calls (row answers).calls
  pub own : (answers : List Bool) → row (answers_of (row answers).calls) ≡ row answers
  pub enough : (most : ℕ) × ((answers : List Bool) → most ≤ length answers → HasCome (row answers).effect.outcome)

-- a row that takes no answers
fixed : {S : Type 0} (c : Called S) → HasCome c.effect.outcome → IsSteadyRow (λ answers. c)
fixed c come = record {
  grows = λ answers more. ([], sym (append-nil c.calls));
  own = λ answers. refl;
  enough = (0, λ answers h. come);
}

-- a row that asks, and goes by the verdict
abbrev asking : {S : Type 0} → (Verdict → Effect S) → Questioned → Called S
asking f q = record { calls = q.calls; effect = f q.verdict }

comes_answered : {S : Type 0} (f : Verdict → Effect S) → HasCome (f Passed).outcome → HasCome (f Canceled).outcome → (v : Verdict)
    → IsAnswered v → HasCome (f v).outcome
comes_answered f p c Passed h = p
comes_answered f p c Canceled h = c
comes_answered f p c Unanswered h = absurd h

steady_asking : {S : Type 0} (f : Verdict → Effect S) (owes : ℕ) → HasCome (f Passed).outcome → HasCome (f Canceled).outcome
    → IsSteadyRow (λ answers. asking f (started owes answers))
steady_asking f owes p c = record {
  grows = λ answers more.
      let rest = questioned_grows owes answers more in
      (rest.0, ap (λ l. desk.Start ∷ l) rest.1);
  own = λ answers. ap (λ q. asking f (after_call desk.Start q)) (questioned_own owes answers);
  enough = (owes, λ answers h. comes_answered f p c (questioned owes answers).verdict (questioned_enough owes answers h));
}

either_comes : {S : Type 0} (b : Bool) (x y : Effect S) → HasCome x.outcome → HasCome y.outcome → HasCome (if b then x else y).outcome
either_comes true x y f g = f
either_comes false x y f g = g

either_called : {S : Type 0} (b : Bool) (x y : Called S) → HasCome x.effect.outcome → HasCome y.effect.outcome
    → HasCome (if b then x else y).effect.outcome
either_called true x y f g = f
either_called false x y f g = g

module _ {S : Type 0} (h : Handlers S) (s : State S) where
  -- ---- the startup phase

  startup_comes : (m : Startup) → HasCome (on_startup s m).effect.outcome
  startup_comes m =
      let refused : Called S = silent (refuses s (wire.UserError (unsupported_version m.code))) in
      either_called (m.code == protocol_3_0) (accepts s PROTOCOL3_0 m) (if m.code == protocol_3_2 then accepts s PROTOCOL3_2 m
      else refused) tt
      (either_called (m.code == protocol_3_2) (accepts s PROTOCOL3_2 m) refused tt tt)

  cancel_grows : (m : CancelRequest) (answers more : List Bool)
      → BeginsWith (on_cancel_request {S = S} (answers ++ more) m).calls (on_cancel_request {S = S} answers m).calls
  cancel_grows m [] more = ((on_cancel_request {S = S} more m).calls, refl)
  cancel_grows m (told ∷ answers) more = ([], refl)

  cancel_own : (m : CancelRequest) (answers : List Bool)
      → on_cancel_request {S = S} (answers_of (on_cancel_request {S = S} answers m).calls) m ≡ on_cancel_request answers m
  cancel_own m [] = refl
  cancel_own m (told ∷ answers) = refl

  cancel_enough : (m : CancelRequest) (answers : List Bool) → 1 ≤ length answers
      → HasCome (on_cancel_request {S = S} answers m).effect.outcome
  cancel_enough m [] h = absurd (omega (arith, h))
  cancel_enough m (told ∷ answers) h = tt

  startup_steady : (m : PgWireFrontendMessage) → IsSteadyRow (λ answers. startup_row answers s m)
  startup_steady (client.CancelRequest m) = record { grows = cancel_grows m; own = cancel_own m; enough = (1, cancel_enough m) }
  startup_steady (client.Startup m) = fixed (on_startup s m) (startup_comes m)
  startup_steady m = fixed (startup_row [] s m) tt

  -- ---- Parse, Bind, Describe, Close

  parsed_comes : (m : Parse) (r : Result (Option (StoredStatement S)) PgWireError) → HasCome (parsed s m r).outcome
  parsed_comes m (Ok statement) = tt
  parsed_comes m (Err e) = tt

  columns_come : (m : Bind) (statement : StoredStatement S) (r : Result (List Field) PgWireError)
      → HasCome (bound_with_columns s m statement r).outcome
  columns_come m statement (Err e) = tt
  columns_come m statement (Ok columns) = either_comes (nat_lt (length m.result_column_format_codes) (length columns))
      (refuses s (wire.UserError (too_few_codes (length m.result_column_format_codes) (length columns)))) (bound_portal s m statement) tt tt

  bound_comes : (m : Bind) (x : Option (Entry (StoredStatement S))) → HasCome (bound h.extended s m x).outcome
  bound_comes m None = tt
  bound_comes m (Some entry.Empty) = either_comes (is_empty_list m.parameters)
      (says bind_complete (with_portal s m.portal_name entry.Empty))
      (refuses s (wire.UserError (values_for_empty (length m.parameters) m.statement_name))) tt tt
  bound_comes m (Some (entry.Value statement)) =
      let columns = h.extended.parser.columns statement.statement None in
      either_comes (nat_le 2 (length m.result_column_format_codes)) (bound_with_columns s m statement columns)
      (bound_portal s m statement) (columns_come m statement columns) tt

  told_comes : {D : Type 0} (shown : D → Replies) (r : Result D PgWireError) → HasCome (described s shown r).outcome
  told_comes shown (Ok d) = tt
  told_comes shown (Err e) = tt

  statement_comes : (name : List ℕ) (x : Option (Entry (StoredStatement S))) → HasCome (described_statement h.extended s name x).outcome
  statement_comes name None = tt
  statement_comes name (Some entry.Empty) = tt
  statement_comes name (Some (entry.Value statement)) = told_comes statement_description (h.extended.describe_statement s.info statement)

  portal_comes : (name : List ℕ) (x : Option (Entry (TablePortal S))) → HasCome (described_portal h.extended s name x).outcome
  portal_comes name None = tt
  portal_comes name (Some entry.Empty) = tt
  portal_comes name (Some (entry.Value p)) = told_comes portal_description (h.extended.describe_portal s.info p.bound)

  describe_comes : (m : Describe) → HasCome (on_describe h.extended s m).outcome
  describe_comes m =
      let by_statement : Effect S = described_statement h.extended s m.name (fin.get s.statements m.name) in
      let by_portal : Effect S = described_portal h.extended s m.name (fin.get s.portals m.name) in
      let refused : Effect S = refuses s (wire.InvalidTargetType m.target_type) in
      either_comes (m.target_type == statement_target) by_statement (if m.target_type == portal_target then by_portal else refused)
      (statement_comes m.name (fin.get s.statements m.name))
      (either_comes (m.target_type == portal_target) by_portal refused (portal_comes m.name (fin.get s.portals m.name)) tt)

  statement_row_comes : (m : PgWireFrontendMessage) → HasCome (statement_row h.extended s m).outcome
  statement_row_comes (client.Parse m) = parsed_comes m (prepared h.extended.parser s.info m)
  statement_row_comes (client.Bind m) = bound_comes m (fin.get s.statements m.statement_name)
  statement_row_comes (client.Describe m) = describe_comes m
  statement_row_comes _ = tt

  -- ---- Execute

  page_comes : (t : State S) (tag : List ℕ) (number : ℕ) (rows : List DataRow) (ending : PageEnd DataRow)
      → HasCome (page_effect t tag number rows ending).outcome
  page_comes t tag number rows (AtLimit items) = tt
  page_comes t tag number rows AtEnd = tt
  page_comes t tag number rows (AtError e items) = tt

  fetched_comes : (m : Execute) (p : TablePortal S) (r : ToldRows) (delivered : ℕ) → HasCome (fetched s m p r delivered).outcome
  fetched_comes m p r delivered =
      let page = item_page m.max_rows r.items in
      page_comes (with_portal s m.name (entry.Value (at_stage p (stage_after r delivered page.rows page.ending)))) r.command_tag
      (delivered_after delivered (length page.rows)) page.rows page.ending

  sent_comes : (t : State S) (sent : Sent) (o : Option PgWireError) → HasCome (sent_in_execute t sent o).outcome
  sent_comes t sent None = tt
  sent_comes t sent (Some e) = tt

  other_comes : (t : State S) (sent : Sent) → HasCome (sent_in_execute t sent sent.refusal).outcome
  other_comes t sent = sent_comes t sent sent.refusal

  executed_comes : (m : Execute) (p : TablePortal S) (r : ToldResponse) → HasCome (executed s m p r).outcome
  executed_comes m p (response.Query r) = fetched_comes m p r 0
  executed_comes m p (response.CopyOut c) = other_comes s (responded s.info.status (response.CopyOut c))
  executed_comes m p (response.CopyBoth c) = other_comes s (responded s.info.status (response.CopyBoth c))
  executed_comes m p _ = tt

  execute_passed : (m : Execute) (p : TablePortal S) (r : Result ToldResponse PgWireError)
      → HasCome (execute_polled s m p Passed r).outcome
  execute_passed m p (Ok r) = executed_comes m p r
  execute_passed m p (Err e) = tt

  portal_steady : (m : Execute) (p : TablePortal S) (st : Stage) → IsSteadyRow (λ answers. executed_portal h.extended answers s m p st)
  portal_steady m p Unstarted =
      let query = h.extended.query s.info p.bound m.max_rows in
      steady_asking (λ v. execute_polled s m p v query.outcome) query.owes (execute_passed m p query.outcome) tt
  portal_steady m p (Started r delivered) = fixed (silent (fetched s m p r delivered)) (fetched_comes m p r delivered)
  portal_steady m p (Ended delivered) = fixed (silent (fetched_nothing s delivered)) tt

  execute_steady : (m : Execute) (x : Option (Entry (TablePortal S))) → IsSteadyRow (λ answers. executed_entry h.extended answers s m x)
  execute_steady m None = fixed (silent (executed_nothing s m.name None)) tt
  execute_steady m (Some entry.Empty) = fixed (silent (executed_nothing s m.name (Some entry.Empty))) tt
  execute_steady m (Some (entry.Value p)) = portal_steady m p p.stage

  -- ---- Query

  answered_comes : (sent : Sent) (o : Option PgWireError) → HasCome (answered s sent o).outcome
  answered_comes sent None = either_comes sent.copying (says sent.replies (in_phase s (phase.CopyInProgress false)))
      (answered s (record sent { copying = false }) None) tt tt
  answered_comes sent (Some e) = tt

  all_come : (sent : Sent) → HasCome (answered s sent sent.refusal).outcome
  all_come sent = answered_comes sent sent.refusal

  query_passed : (r : Result (List ToldResponse) PgWireError) → HasCome (query_polled s Passed r).outcome
  query_passed (Ok responses) = all_come (responded_all s.info.status responses)
  query_passed (Err e) = tt

  -- a Query whose text is blank or not, as told
  abbrev query_if : Bool → Query → Row S
  query_if b m answers = if b then silent (says (server.EmptyQueryResponse (record {}) ∷ ready s.info.status ∷ []) s)
      else query_run answers s (h.simple s.info m.query)

  query_steady : (m : Query) (b : Bool) → IsSteadyRow (query_if b m)
  query_steady m true = fixed (silent (says (server.EmptyQueryResponse (record {}) ∷ ready s.info.status ∷ []) s)) tt
  query_steady m false =
      let query = h.simple s.info m.query in
      steady_asking (λ v. query_polled s v query.outcome) query.owes (query_passed query.outcome) tt

  -- ---- each phase

  ready_steady : (m : PgWireFrontendMessage) → IsSteadyRow (λ answers. ready_row h answers s m)
  ready_steady (client.Query m) = query_steady m (is_blank m.query)
  ready_steady (client.Execute m) = execute_steady m (fin.get s.portals m.name)
  ready_steady m = fixed (silent (statement_row h.extended s m)) (statement_row_comes m)

  waiting_comes : (m : PgWireFrontendMessage) → HasCome (awaiting_sync_row s m).outcome
  waiting_comes (client.PgSync m) = tt
  waiting_comes (client.Terminate m) = tt
  waiting_comes _ = tt

  stepped_comes : (replies : Replies) (o : Option PgWireError) (others : Effect S) → HasCome others.outcome
      → HasCome (stepped s replies o others).outcome
  stepped_comes replies None others f = f
  stepped_comes replies (Some e) others f = tt

  copied_comes : (is_extended : Bool) → HasCome (copied is_extended s).outcome
  copied_comes true = tt
  copied_comes false = tt

  copy_comes : (is_extended : Bool) (m : PgWireFrontendMessage) → HasCome (copy_row h.copying is_extended s m).outcome
  copy_comes is_extended (client.CopyData m) =
      let step = h.copying.on_data s.info m.payload in
      stepped_comes step.replies step.refusal (says [] s) tt
  copy_comes is_extended (client.CopyDone m) =
      let step = h.copying.on_done s.info in
      stepped_comes step.replies step.refusal (copied is_extended s) (copied_comes is_extended)
  copy_comes is_extended _ = tt

  pub row_steady : (m : PgWireFrontendMessage) (x : PgWireConnectionState) → IsSteadyRow (λ answers. row h answers s m x)
  row_steady m phase.AwaitingStartup = startup_steady m
  row_steady m phase.ReadyForQuery = ready_steady m
  row_steady m phase.AwaitingSync = fixed (silent (awaiting_sync_row s m)) (waiting_comes m)
  row_steady m (phase.CopyInProgress is_extended) = fixed (silent (copy_row h.copying is_extended s m)) (copy_comes is_extended m)
