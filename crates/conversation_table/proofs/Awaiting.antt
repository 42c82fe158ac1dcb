-- The startup packet is awaited until it came, and never again.
use Rattle.std.proofs.Common.{◌≡◌, ◌==◌, ℕ, Bool, true, false, if◌then◌else◌, List, [], ◌∷◌, Option, Some, None, Result, Ok, Err, nat_le, nat_lt, length, refl, ap, sym, subst, ◌∙◌}
use Rattle.std.specs.FinMap as fin
use Rattle.pg_messages.specs.declared.startup.CancelRequest.{CancelRequest}
use Rattle.pg_messages.specs.declared.simplequery.Query.{Query}
use Rattle.pg_messages.specs.declared.extendedquery.Parse.{Parse}
use Rattle.pg_messages.specs.declared.extendedquery.Bind.{Bind}
use Rattle.pg_messages.specs.declared.extendedquery.Describe.{Describe}
use Rattle.pg_messages.specs.declared.extendedquery.Close.{Close}
use Rattle.pg_messages.specs.declared.extendedquery.Execute.{Execute}
use Rattle.pg_messages.specs.declared.data.DataRow.{DataRow}
use Rattle.pg_messages.specs.declared.frontend.PgWireFrontendMessage.{PgWireFrontendMessage}
use Rattle.pg_messages.specs.declared.frontend.PgWireFrontendMessage.TheVariants as client
use Rattle.pg_messages.specs.declared.backend.PgWireBackendMessage.TheVariants as server
use Rattle.pg_messages.specs.declared.codec.ProtocolVersion.TheVariants.{PROTOCOL3_0, PROTOCOL3_2}
use Rattle.pg_messages.specs.Frames.{awaits_startup_after, protocol_3_0, protocol_3_2, statement_target, portal_target}
use Rattle.pg_results.specs.declared.client.PgWireConnectionState.{PgWireConnectionState}
use Rattle.pg_results.specs.declared.client.PgWireConnectionState.TheVariants as phase
use Rattle.pg_results.specs.declared.error.PgWireError.{PgWireError}
use Rattle.pg_results.specs.declared.error.PgWireError.TheVariants as wire
use Rattle.pg_results.specs.declared.stmt.StoredStatement.{StoredStatement}
use Rattle.pg_portal.specs.declared.store.Entry.{Entry}
use Rattle.pg_portal.specs.declared.store.Entry.TheVariants as entry
use Rattle.pg_results.specs.Describing.{is_empty_list}
use Rattle.pg_results.specs.Errors.{info_of}
use Rattle.pg_results.specs.Fields.{Field}
use Rattle.pg_results.specs.Page.{PageEnd, AtLimit, AtEnd, AtError, delivered_after, item_page}
use Rattle.pg_portal.specs.Fetching.{stage_after}
use Rattle.pg_results.specs.Responses as response
use Rattle.pg_results.specs.Responses.{ToldResponse}
use Rattle.pg_results.specs.Statements.{prepared}
use Rattle.pg_results.specs.Texts.{is_blank}
use Rattle.pg_results.specs.Told.{ToldRows}
use Rattle.pg_portal.specs.Told.{TablePortal, Stage, Unstarted, Started, Ended}
use Rattle.pg_client.specs.declared.desk.DeskCall.{DeskCall}
use Rattle.pg_client.specs.declared.ends.EndKind.{EndKind}
use Rattle.pg_client.specs.declared.ends.EndKind.TheVariants as end
use Rattle.pg_client.specs.Answer.{Answer, Next, Goes, Ends, Stops}
use Rattle.conversation_table.specs.CopyRows.{stepped, copied, copy_row}
use Rattle.pg_client.specs.Effect.{Effect, Called, Scope, UntilSync, AnswersReady, Outcome, Done, Failed, Over, Stopped, says, refuses, silent, after_error, settle, settled}
use Rattle.pg_client.specs.Errors.{is_fatal, unsupported_version, too_few_codes, values_for_empty}
use Rattle.conversation_table.specs.ExecuteRow.{at_stage, page_effect, sent_in_execute, fetched, executed, execute_polled, executed_portal, executed_entry}
use Rattle.conversation_table.specs.ExtendedRows.{bind_complete, parsed, bound_portal, bound_with_columns, bound, described, described_statement, described_portal, statement_description, portal_description, on_describe, on_close}
use Rattle.conversation_table.specs.Handlers.{Handlers}
use Rattle.conversation_table.specs.Questions.{Verdict, Passed, Canceled, Unanswered, questioned}
use Rattle.pg_replies.specs.Replies.{Replies, ready}
use Rattle.pg_replies.specs.ResponseRows.{Sent, responded}
use Rattle.conversation_table.specs.SimpleRows.{answered, responded_all, query_polled, query_run}
use Rattle.pg_client.specs.StartupRows.{accepts, startup_row, on_cancel_request}
use Rattle.pg_client.specs.State.{State, in_phase, with_portal, without_statement, without_portal}
use Rattle.conversation_table.specs.Table.{statement_row, ready_row, awaiting_sync_row, row, scope_in, is_startup_phase, awaits}

-- ---- where an answer goes on

-- the state in which the conversation goes on, or a given one
abbrev goes_to : {S : Type 0} → State S → Next (State S) → State S
goes_to s (Goes t) = t
goes_to s _ = s

abbrev IsOn : {S : Type 0} → Next (State S) → Type 0
IsOn (Goes t) = Unit {0}
IsOn _ = ⊥

-- the states in which this may go on await the startup packet as told
abbrev Keeps : {S : Type 0} → Bool → Next (State S) → Type 0
Keeps {S} at n = (t : State S) → n ≡ Goes t → awaits t ≡ at

goes_in : {S : Type 0} (s : State S) (at : Bool) → awaits s ≡ at → Keeps at (Goes s)
goes_in s at q t e = sym (ap (λ n. awaits (goes_to s n)) e) ∙ q

ends_in : {S : Type 0} (at : Bool) (kind : EndKind) → Keeps {S = S} at (Ends kind)
ends_in at kind t e = absurd (subst IsOn (sym e) tt)

stops_in : {S : Type 0} (at : Bool) → Keeps {S = S} at Stops
stops_in at t e = absurd (subst IsOn (sym e) tt)

either_keeps : {S : Type 0} (scope : Scope) (at b : Bool) (x y : Called S) → Keeps at (settle scope x).next → Keeps at (settle scope y).next
    → Keeps at (settle scope (if b then x else y)).next
either_keeps scope at true x y f g = f
either_keeps scope at false x y f g = g

-- ---- the startup phase

cancel_keeps : {S : Type 0} (scope : Scope) (answers : List Bool) (m : CancelRequest)
    → Keeps {S = S} true (settle scope (on_cancel_request answers m)).next
cancel_keeps scope [] m = stops_in true
cancel_keeps scope (told ∷ answers) m = ends_in true end.CancelServed

startup_keeps : {S : Type 0} (scope : Scope) (answers : List Bool) (s : State S) (m : PgWireFrontendMessage) → awaits s ≡ true
    → Keeps (awaits_startup_after m true) (settle scope (startup_row answers s m)).next
startup_keeps scope answers s (client.CancelRequest m) q = cancel_keeps scope answers m
startup_keeps scope answers s (client.Startup m) q =
    let refused : Called _ = silent (refuses s (wire.UserError (unsupported_version m.code))) in
    either_keeps scope false (m.code == protocol_3_0) (accepts s PROTOCOL3_0 m) (if m.code == protocol_3_2 then accepts s PROTOCOL3_2 m
    else refused)
    (goes_in _ false refl)
    (either_keeps scope false (m.code == protocol_3_2) (accepts s PROTOCOL3_2 m) refused (goes_in _ false refl) (ends_in false end.Fatal))
startup_keeps scope answers s _ q = goes_in s true q

-- ---- afterwards

-- the state that a row ends in doesn't await the startup packet; an error's state is set by its scope
abbrev HasStarted : {S : Type 0} → Outcome S → Type 0
HasStarted (Done s) = awaits s ≡ false
HasStarted _ = Unit {0}

after_keeps : {S : Type 0} (scope : Scope) (s : State S) → awaits (after_error scope s).1 ≡ false
after_keeps UntilSync s = refl
after_keeps AnswersReady s = refl

failed_keeps : {S : Type 0} (b : Bool) (x y : Replies) (calls : List DeskCall) (s : State S) → awaits s ≡ false
    → Keeps false (if b then (let a : Answer (State S) = record { replies = x; calls = calls; next = Ends end.Fatal } in a)
    else (record { replies = y; calls = calls; next = Goes s })).next
failed_keeps true x y calls s q = ends_in false end.Fatal
failed_keeps false x y calls s q = goes_in s false q

settled_keeps : {S : Type 0} (scope : Scope) (replies : Replies) (calls : List DeskCall) (o : Outcome S) → HasStarted o
    → Keeps false (settled scope replies calls o).next
settled_keeps scope replies calls (Done s) q = goes_in s false q
settled_keeps scope replies calls (Failed s e) q = failed_keeps (is_fatal (info_of e)) _ _ calls
    (after_error scope s).1 (after_keeps scope s)
settled_keeps scope replies calls (Over kind) q = ends_in false kind
settled_keeps scope replies calls Stopped q = stops_in false

either_starts : {S : Type 0} (b : Bool) (x y : Effect S) → HasStarted x.outcome → HasStarted y.outcome
    → HasStarted (if b then x else y).outcome
either_starts true x y f g = f
either_starts false x y f g = g

either_awaits : {S : Type 0} (b : Bool) (x y : State S) → awaits x ≡ false → awaits y ≡ false → awaits (if b then x else y) ≡ false
either_awaits true x y f g = f
either_awaits false x y f g = g

module _ {S : Type 0} (h : Handlers S) (s : State S) (q : awaits s ≡ false) where
  -- ---- Parse, Bind, Describe, Close

  parsed_starts : (m : Parse) (r : Result (Option (StoredStatement S)) PgWireError) → HasStarted (parsed s m r).outcome
  parsed_starts m (Ok statement) = q
  parsed_starts m (Err e) = tt

  columns_start : (m : Bind) (statement : StoredStatement S) (r : Result (List Field) PgWireError)
      → HasStarted (bound_with_columns s m statement r).outcome
  columns_start m statement (Err e) = tt
  columns_start m statement (Ok columns) = either_starts (nat_lt (length m.result_column_format_codes) (length columns))
      (refuses s (wire.UserError (too_few_codes (length m.result_column_format_codes) (length columns)))) (bound_portal s m statement) tt q

  bound_starts : (m : Bind) (x : Option (Entry (StoredStatement S))) → HasStarted (bound h.extended s m x).outcome
  bound_starts m None = tt
  bound_starts m (Some entry.Empty) = either_starts (is_empty_list m.parameters)
      (says bind_complete (with_portal s m.portal_name entry.Empty))
      (refuses s (wire.UserError (values_for_empty (length m.parameters) m.statement_name))) q tt
  bound_starts m (Some (entry.Value statement)) =
      let columns = h.extended.parser.columns statement.statement None in
      either_starts (nat_le 2 (length m.result_column_format_codes)) (bound_with_columns s m statement columns)
      (bound_portal s m statement) (columns_start m statement columns) q

  told_starts : {D : Type 0} (shown : D → Replies) (r : Result D PgWireError) → HasStarted (described s shown r).outcome
  told_starts shown (Ok d) = q
  told_starts shown (Err e) = tt

  statement_starts : (name : List ℕ) (x : Option (Entry (StoredStatement S))) → HasStarted (described_statement h.extended s name x).outcome
  statement_starts name None = tt
  statement_starts name (Some entry.Empty) = q
  statement_starts name (Some (entry.Value statement)) = told_starts statement_description (h.extended.describe_statement s.info statement)

  portal_starts : (name : List ℕ) (x : Option (Entry (TablePortal S))) → HasStarted (described_portal h.extended s name x).outcome
  portal_starts name None = tt
  portal_starts name (Some entry.Empty) = q
  portal_starts name (Some (entry.Value p)) = told_starts portal_description (h.extended.describe_portal s.info p.bound)

  describe_starts : (m : Describe) → HasStarted (on_describe h.extended s m).outcome
  describe_starts m =
      let by_statement : Effect S = described_statement h.extended s m.name (fin.get s.statements m.name) in
      let by_portal : Effect S = described_portal h.extended s m.name (fin.get s.portals m.name) in
      let refused : Effect S = refuses s (wire.InvalidTargetType m.target_type) in
      either_starts (m.target_type == statement_target) by_statement (if m.target_type == portal_target then by_portal else refused)
      (statement_starts m.name (fin.get s.statements m.name))
      (either_starts (m.target_type == portal_target) by_portal refused (portal_starts m.name (fin.get s.portals m.name)) tt)

  close_starts : (m : Close) → HasStarted (on_close s m).outcome
  close_starts m = either_awaits (m.target_type == statement_target) (without_statement s m.name)
      (if m.target_type == portal_target then without_portal s m.name else s) q
      (either_awaits (m.target_type == portal_target) (without_portal s m.name) s q q)

  statement_row_starts : (m : PgWireFrontendMessage) → HasStarted (statement_row h.extended s m).outcome
  statement_row_starts (client.Parse m) = parsed_starts m (prepared h.extended.parser s.info m)
  statement_row_starts (client.Bind m) = bound_starts m (fin.get s.statements m.statement_name)
  statement_row_starts (client.Describe m) = describe_starts m
  statement_row_starts (client.Close m) = close_starts m
  statement_row_starts (client.PgSync m) = refl
  statement_row_starts (client.Terminate m) = tt
  statement_row_starts _ = q

  -- ---- Execute

  page_starts : (t : State S) → awaits t ≡ false → (tag : List ℕ) (number : ℕ) (rows : List DataRow) (ending : PageEnd DataRow)
      → HasStarted (page_effect t tag number rows ending).outcome
  page_starts t f tag number rows (AtLimit items) = f
  page_starts t f tag number rows AtEnd = f
  page_starts t f tag number rows (AtError e items) = tt

  fetched_starts : (m : Execute) (p : TablePortal S) (r : ToldRows) (delivered : ℕ) → HasStarted (fetched s m p r delivered).outcome
  fetched_starts m p r delivered =
      let page = item_page m.max_rows r.items in
      page_starts (with_portal s m.name (entry.Value (at_stage p (stage_after r delivered page.rows page.ending)))) q r.command_tag
      (delivered_after delivered (length page.rows)) page.rows page.ending

  sent_starts : (t : State S) → awaits t ≡ false → (sent : Sent) (o : Option PgWireError) → HasStarted (sent_in_execute t sent o).outcome
  sent_starts t f sent None = either_awaits sent.copying (in_phase t (phase.CopyInProgress true)) t refl f
  sent_starts t f sent (Some e) = tt

  other_starts : (t : State S) → awaits t ≡ false → (sent : Sent) → HasStarted (sent_in_execute t sent sent.refusal).outcome
  other_starts t f sent = sent_starts t f sent sent.refusal

  executed_starts : (m : Execute) (p : TablePortal S) (r : ToldResponse) → HasStarted (executed s m p r).outcome
  executed_starts m p (response.Query r) = fetched_starts m p r 0
  executed_starts m p (response.Error info) = tt
  executed_starts m p (response.TransactionEnd tag) = q
  executed_starts m p response.EmptyQuery = q
  executed_starts m p (response.Execution tag) = q
  executed_starts m p (response.TransactionStart tag) = q
  executed_starts m p (response.CopyIn c) = refl
  executed_starts m p (response.CopyOut c) = other_starts s q (responded s.info.status (response.CopyOut c))
  executed_starts m p (response.CopyBoth c) = other_starts s q (responded s.info.status (response.CopyBoth c))

  execute_polled_starts : (m : Execute) (p : TablePortal S) (v : Verdict) (r : Result ToldResponse PgWireError)
      → HasStarted (execute_polled s m p v r).outcome
  execute_polled_starts m p Unanswered r = tt
  execute_polled_starts m p Canceled r = tt
  execute_polled_starts m p Passed (Ok r) = executed_starts m p r
  execute_polled_starts m p Passed (Err e) = tt

  run_starts : (answers : List Bool) (m : Execute) (p : TablePortal S) (st : Stage)
      → HasStarted (executed_portal h.extended answers s m p st).effect.outcome
  run_starts answers m p Unstarted =
      let query = h.extended.query s.info p.bound m.max_rows in
      execute_polled_starts m p (questioned query.owes answers).verdict query.outcome
  run_starts answers m p (Started r delivered) = fetched_starts m p r delivered
  run_starts answers m p (Ended delivered) = q

  execute_starts : (answers : List Bool) (m : Execute) (x : Option (Entry (TablePortal S)))
      → HasStarted (executed_entry h.extended answers s m x).effect.outcome
  execute_starts answers m None = tt
  execute_starts answers m (Some entry.Empty) = q
  execute_starts answers m (Some (entry.Value p)) = run_starts answers m p p.stage

  -- ---- Query

  answered_starts : (sent : Sent) (o : Option PgWireError) → HasStarted (answered s sent o).outcome
  answered_starts sent None = either_starts sent.copying (says sent.replies (in_phase s (phase.CopyInProgress false)))
      (answered s (record sent { copying = false }) None) refl q
  answered_starts sent (Some e) = tt

  all_start : (sent : Sent) → HasStarted (answered s sent sent.refusal).outcome
  all_start sent = answered_starts sent sent.refusal

  query_polled_starts : (v : Verdict) (r : Result (List ToldResponse) PgWireError) → HasStarted (query_polled s v r).outcome
  query_polled_starts Unanswered r = tt
  query_polled_starts Canceled r = tt
  query_polled_starts Passed (Ok responses) = all_start (responded_all s.info.status responses)
  query_polled_starts Passed (Err e) = tt

  query_starts : (answers : List Bool) (m : Query) (b : Bool)
      → HasStarted (if b then silent (says (server.EmptyQueryResponse (record {}) ∷ ready s.info.status ∷ []) s)
      else query_run answers s (h.simple s.info m.query)).effect.outcome
  query_starts answers m true = q
  query_starts answers m false =
      let query = h.simple s.info m.query in
      query_polled_starts (questioned query.owes answers).verdict query.outcome

  -- ---- each phase

  ready_starts : (answers : List Bool) (m : PgWireFrontendMessage) → HasStarted (ready_row h answers s m).effect.outcome
  ready_starts answers (client.Query m) = query_starts answers m (is_blank m.query)
  ready_starts answers (client.Execute m) = execute_starts answers m (fin.get s.portals m.name)
  ready_starts answers m = statement_row_starts m

  waiting_starts : (m : PgWireFrontendMessage) → HasStarted (awaiting_sync_row s m).outcome
  waiting_starts (client.PgSync m) = refl
  waiting_starts (client.Terminate m) = tt
  waiting_starts _ = q

  stepped_starts : (replies : Replies) (o : Option PgWireError) (others : Effect S) → HasStarted others.outcome
      → HasStarted (stepped s replies o others).outcome
  stepped_starts replies None others f = f
  stepped_starts replies (Some e) others f = tt

  copied_starts : (is_extended : Bool) → HasStarted (copied is_extended s).outcome
  copied_starts true = refl
  copied_starts false = refl

  copy_starts : (is_extended : Bool) (m : PgWireFrontendMessage) → HasStarted (copy_row h.copying is_extended s m).outcome
  copy_starts is_extended (client.CopyData m) =
      let step = h.copying.on_data s.info m.payload in
      stepped_starts step.replies step.refusal (says [] s) q
  copy_starts is_extended (client.CopyDone m) =
      let step = h.copying.on_done s.info in
      stepped_starts step.replies step.refusal (copied is_extended s) (copied_starts is_extended)
  copy_starts is_extended (client.CopyFail m) = tt
  copy_starts is_extended (client.Terminate m) = tt
  copy_starts is_extended _ = q

-- no message makes a conversation await its startup packet again
started_stays : (m : PgWireFrontendMessage) → awaits_startup_after m false ≡ false
started_stays (client.Startup m) = refl
started_stays _ = refl

started_keeps : {S : Type 0} (m : PgWireFrontendMessage) (scope : Scope) (c : Called S) → HasStarted c.effect.outcome
    → Keeps (awaits_startup_after m false) (settle scope c).next
started_keeps m scope c f t e = settled_keeps scope c.effect.replies c.calls c.effect.outcome f t e ∙ sym (started_stays m)

pub row_keeps : {S : Type 0} (h : Handlers S) (answers : List Bool) (s t : State S) (m : PgWireFrontendMessage) (x : PgWireConnectionState)
    → s.info.state ≡ x → (settle (scope_in x m) (row h answers s m x)).next ≡ Goes t
    → awaits t ≡ awaits_startup_after m (is_startup_phase x)
row_keeps h answers s t m phase.AwaitingStartup q e =
    startup_keeps (scope_in phase.AwaitingStartup m) answers s m (ap is_startup_phase q) t e
row_keeps h answers s t m phase.ReadyForQuery q e =
    started_keeps m (scope_in phase.ReadyForQuery m) (ready_row h answers s m) (ready_starts h s (ap is_startup_phase q) answers m) t e
row_keeps h answers s t m phase.AwaitingSync q e =
    started_keeps m (scope_in phase.AwaitingSync m) (silent (awaiting_sync_row s m)) (waiting_starts h s (ap is_startup_phase q) m) t e
row_keeps h answers s t m (phase.CopyInProgress is_extended) q e =
    started_keeps m (scope_in (phase.CopyInProgress is_extended) m) (silent (copy_row h.copying is_extended s m))
    (copy_starts h s (ap is_startup_phase q) is_extended m) t e
