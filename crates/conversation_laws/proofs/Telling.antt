-- While the server is ready, a message of an extended query tells an error only as its last reply.
use Rattle.std.proofs.Common.{◌≡◌, ◌==◌, ℕ, Bool, true, false, if◌then◌else◌, List, [], ◌∷◌, ◌++◌, Option, Some, None, Result, Ok, Err, nat_le, nat_lt, length, refl, sym, subst}
use Rattle.std.specs.FinMap as fin
use Rattle.pg_messages.specs.declared.copy.CopyData.{CopyData}
use Rattle.pg_messages.specs.declared.data.DataRow.{DataRow}
use Rattle.pg_messages.specs.declared.extendedquery.Parse.{Parse}
use Rattle.pg_messages.specs.declared.extendedquery.Bind.{Bind}
use Rattle.pg_messages.specs.declared.extendedquery.Describe.{Describe}
use Rattle.pg_messages.specs.declared.extendedquery.Execute.{Execute}
use Rattle.pg_messages.specs.declared.frontend.PgWireFrontendMessage.{PgWireFrontendMessage}
use Rattle.pg_messages.specs.declared.frontend.PgWireFrontendMessage.TheVariants as client
use Rattle.pg_messages.specs.declared.backend.PgWireBackendMessage.{PgWireBackendMessage}
use Rattle.pg_messages.specs.declared.backend.PgWireBackendMessage.TheVariants as server
use Rattle.pg_messages.specs.declared.response.ErrorInfo.{ErrorInfo}
use Rattle.pg_messages.specs.declared.response.TransactionStatus.{TransactionStatus}
use Rattle.pg_messages.specs.Frames.{statement_target, portal_target}
use Rattle.pg_results.specs.declared.client.PgWireConnectionState.{PgWireConnectionState}
use Rattle.pg_results.specs.declared.client.PgWireConnectionState.TheVariants as phase
use Rattle.pg_results.specs.declared.error.PgWireError.{PgWireError}
use Rattle.pg_results.specs.declared.error.PgWireError.TheVariants as wire
use Rattle.pg_results.specs.declared.stmt.StoredStatement.{StoredStatement}
use Rattle.pg_portal.specs.declared.store.Entry.{Entry}
use Rattle.pg_portal.specs.declared.store.Entry.TheVariants as entry
use Rattle.pg_results.specs.Describing.{is_empty_list, is_no_data}
use Rattle.pg_results.specs.Errors.{info_of}
use Rattle.pg_results.specs.Fields.{Field}
use Rattle.pg_results.specs.Page.{PageEnd, AtLimit, AtEnd, AtError, delivered_after, item_page, first_error}
use Rattle.pg_results.specs.Responses as response
use Rattle.pg_results.specs.Responses.{ToldResponse, ToldCopy}
use Rattle.pg_results.specs.Statements.{prepared}
use Rattle.pg_results.specs.Told.{ToldRows}
use Rattle.pg_portal.specs.Told.{TablePortal, Stage, Unstarted, Started, Ended}
use Rattle.pg_client.specs.declared.desk.DeskCall.{DeskCall}
use Rattle.pg_client.specs.Answer.{Answer}
use Rattle.pg_client.specs.Effect.{Effect, Scope, UntilSync, Outcome, Done, Failed, Over, Stopped, says, refuses, settle, settled}
use Rattle.pg_client.specs.Errors.{values_for_empty, too_few_codes}
use Rattle.conversation_table.specs.ExecuteRow.{at_stage, executed, executed_entry, executed_portal, execute_polled, fetched, page_effect, sent_in_execute}
use Rattle.pg_portal.specs.Fetching.{stage_after}
use Rattle.conversation_table.specs.ExtendedRows.{bind_complete, bound, bound_portal, bound_with_columns, described, described_portal, described_statement, on_describe, parsed, portal_description, statement_description}
use Rattle.conversation_table.specs.Handlers.{Handlers}
use Rattle.conversation_table.specs.Questions.{Verdict, Passed, Canceled, Unanswered, questioned}
use Rattle.pg_replies.specs.Replies.{Replies, done_with, row_description, row_replies}
use Rattle.pg_replies.specs.ResponseRows.{Sent, responded, sent_copy, unless_error, copy_replies, copy_data, copy_count, copy_end, copy_items, copy_out_reply, copy_both_reply}
use Rattle.pg_client.specs.State.{State, with_portal}
use Rattle.conversation_table.specs.Table.{ready_row, row, scope_in, statement_row, whole_table}
use Rattle.conversation_laws.specs.Discarding.{EndsWithError, IsOfExtendedQuery, has_error}
use Rattle.conversation_laws.proofs.Discards.{error_ends, extended_scope}

abbrev IsQuiet : Replies → Type 0
IsQuiet replies = has_error replies ≡ false

both_quiet : (x y : Replies) → IsQuiet x → IsQuiet y → IsQuiet (x ++ y)
both_quiet [] y a b = b
both_quiet (server.ErrorResponse m ∷ x) y a b = cc
both_quiet (_ ∷ x) y a b = both_quiet x y a b

rows_quiet : (rows : List DataRow) → IsQuiet (row_replies rows)
rows_quiet [] = refl
rows_quiet (row ∷ rows) = rows_quiet rows

copied_quiet : (copied : List CopyData) → IsQuiet (copy_replies copied)
copied_quiet [] = refl
copied_quiet (d ∷ copied) = copied_quiet copied

-- ---- Describe

columns_quiet : (fields : List Field) (b : Bool) → IsQuiet ((if b then server.NoData (record {}) else row_description fields) ∷ [])
columns_quiet fields true = refl
columns_quiet fields false = refl

-- ---- responses

unless_quiet : {A : Type 0} (status : TransactionStatus) (copying : Bool) (replies others : Replies) (o : Option (PgWireError × A))
    → IsQuiet replies → IsQuiet others → IsQuiet (unless_error status copying replies others o).replies
unless_quiet status copying replies others None a b = both_quiet replies others a b
unless_quiet status copying replies others (Some e) a b = a

copy_quiet : (status : TransactionStatus) (copying : Bool) (head : PgWireBackendMessage) (c : ToldCopy)
    → IsQuiet (head ∷ copy_replies (copy_data c)) → IsQuiet (sent_copy status copying head c).replies
copy_quiet status copying head c q =
    unless_quiet status copying (head ∷ copy_replies (copy_data c)) (copy_end (copy_count (copy_data c))) (first_error (copy_items c)) q
    refl

module _ {S : Type 0} (h : Handlers S) (s : State S) where
  either_quiet : (b : Bool) (x y : Effect S) → IsQuiet x.replies → IsQuiet y.replies → IsQuiet (if b then x else y).replies
  either_quiet true x y f g = f
  either_quiet false x y f g = g

  parsed_quiet : (m : Parse) (r : Result (Option (StoredStatement S)) PgWireError) → IsQuiet (parsed s m r).replies
  parsed_quiet m (Ok statement) = refl
  parsed_quiet m (Err e) = refl

  with_columns_quiet : (m : Bind) (statement : StoredStatement S) (r : Result (List Field) PgWireError)
      → IsQuiet (bound_with_columns s m statement r).replies
  with_columns_quiet m statement (Err e) = refl
  with_columns_quiet m statement (Ok columns) = either_quiet (nat_lt (length m.result_column_format_codes) (length columns))
      (refuses s (wire.UserError (too_few_codes (length m.result_column_format_codes) (length columns)))) (bound_portal s m statement) refl
      refl

  bound_quiet : (m : Bind) (x : Option (Entry (StoredStatement S))) → IsQuiet (bound h.extended s m x).replies
  bound_quiet m None = refl
  bound_quiet m (Some entry.Empty) = either_quiet (is_empty_list m.parameters)
      (says bind_complete (with_portal s m.portal_name entry.Empty))
      (refuses s (wire.UserError (values_for_empty (length m.parameters) m.statement_name))) refl refl
  bound_quiet m (Some (entry.Value statement)) =
      let columns = h.extended.parser.columns statement.statement None in
      either_quiet (nat_le 2 (length m.result_column_format_codes)) (bound_with_columns s m statement columns)
      (bound_portal s m statement) (with_columns_quiet m statement columns) refl

  described_quiet : {D : Type 0} (shown : D → Replies) → ((d : D) → IsQuiet (shown d)) → (r : Result D PgWireError)
      → IsQuiet (described s shown r).replies
  described_quiet shown q (Ok d) = q d
  described_quiet shown q (Err e) = refl

  statement_quiet : (k : List ℕ) (x : Option (Entry (StoredStatement S))) → IsQuiet (described_statement h.extended s k x).replies
  statement_quiet k None = refl
  statement_quiet k (Some entry.Empty) = refl
  statement_quiet k (Some (entry.Value statement)) =
      described_quiet statement_description (λ d. columns_quiet d.fields (is_no_data (record {
        parameters = Some d.parameters;
        fields = d.fields;
      })))
      (h.extended.describe_statement s.info statement)

  portal_quiet : (k : List ℕ) (x : Option (Entry (TablePortal S))) → IsQuiet (described_portal h.extended s k x).replies
  portal_quiet k None = refl
  portal_quiet k (Some entry.Empty) = refl
  portal_quiet k (Some (entry.Value p)) =
      described_quiet portal_description (λ d. columns_quiet d.fields (is_no_data (record { parameters = None; fields = d.fields })))
      (h.extended.describe_portal s.info p.bound)

  describe_quiet : (m : Describe) → IsQuiet (on_describe h.extended s m).replies
  describe_quiet m =
      let by_statement : Effect S = described_statement h.extended s m.name (fin.get s.statements m.name) in
      let by_portal : Effect S = described_portal h.extended s m.name (fin.get s.portals m.name) in
      let refused : Effect S = refuses s (wire.InvalidTargetType m.target_type) in
      either_quiet (m.target_type == statement_target) by_statement (if m.target_type == portal_target then by_portal else refused)
      (statement_quiet m.name (fin.get s.statements m.name))
      (either_quiet (m.target_type == portal_target) by_portal refused (portal_quiet m.name (fin.get s.portals m.name)) refl)

  statement_row_quiet : (m : PgWireFrontendMessage) → IsQuiet (statement_row h.extended s m).replies
  statement_row_quiet (client.Parse m) = parsed_quiet m (prepared h.extended.parser s.info m)
  statement_row_quiet (client.Bind m) = bound_quiet m (fin.get s.statements m.statement_name)
  statement_row_quiet (client.Describe m) = describe_quiet m
  statement_row_quiet _ = refl

  -- ---- Execute

  page_quiet : (t : State S) (tag : List ℕ) (number : ℕ) (rows : List DataRow) (ending : PageEnd DataRow)
      → IsQuiet (page_effect t tag number rows ending).replies
  page_quiet t tag number rows (AtLimit items) =
      both_quiet (row_replies rows) (server.PortalSuspended (record {}) ∷ []) (rows_quiet rows) refl
  page_quiet t tag number rows AtEnd = both_quiet (row_replies rows) (done_with tag number ∷ []) (rows_quiet rows) refl
  page_quiet t tag number rows (AtError e items) = refl

  sent_quiet : (t : State S) (sent : Sent) (o : Option PgWireError) → IsQuiet sent.replies → IsQuiet (sent_in_execute t sent o).replies
  sent_quiet t sent None q = q
  sent_quiet t sent (Some e) q = q

  response_quiet : (sent : Sent) → IsQuiet sent.replies → IsQuiet (sent_in_execute s sent sent.refusal).replies
  response_quiet sent q = sent_quiet s sent sent.refusal q

  fetched_quiet : (m : Execute) (p : TablePortal S) (r : ToldRows) (delivered : ℕ) → IsQuiet (fetched s m p r delivered).replies
  fetched_quiet m p r delivered =
      let page = item_page m.max_rows r.items in
      page_quiet (with_portal s m.name (entry.Value (at_stage p (stage_after r delivered page.rows page.ending)))) r.command_tag
      (delivered_after delivered (length page.rows)) page.rows page.ending

  executed_quiet : (m : Execute) (p : TablePortal S) (r : ToldResponse) → IsQuiet (executed s m p r).replies
  executed_quiet m p (response.Query r) = fetched_quiet m p r 0
  executed_quiet m p (response.CopyOut c) = response_quiet (responded s.info.status (response.CopyOut c))
      (copy_quiet s.info.status false (copy_out_reply c) c (copied_quiet (copy_data c)))
  executed_quiet m p (response.CopyBoth c) = response_quiet (responded s.info.status (response.CopyBoth c))
      (copy_quiet s.info.status true (copy_both_reply c) c (copied_quiet (copy_data c)))
  executed_quiet m p response.EmptyQuery = refl
  executed_quiet m p (response.Execution tag) = refl
  executed_quiet m p (response.TransactionStart tag) = refl
  executed_quiet m p (response.TransactionEnd tag) = refl
  executed_quiet m p (response.Error info) = refl
  executed_quiet m p (response.CopyIn c) = refl

  polled_quiet : (m : Execute) (p : TablePortal S) (v : Verdict) (o : Result ToldResponse PgWireError)
      → IsQuiet (execute_polled s m p v o).replies
  polled_quiet m p Unanswered o = refl
  polled_quiet m p Canceled o = refl
  polled_quiet m p Passed (Ok r) = executed_quiet m p r
  polled_quiet m p Passed (Err e) = refl

  run_quiet : (answers : List Bool) (m : Execute) (p : TablePortal S) (st : Stage)
      → IsQuiet (executed_portal h.extended answers s m p st).effect.replies
  run_quiet answers m p Unstarted =
      let query = h.extended.query s.info p.bound m.max_rows in
      polled_quiet m p (questioned query.owes answers).verdict query.outcome
  run_quiet answers m p (Started r d) = fetched_quiet m p r d
  run_quiet answers m p (Ended d) = refl

  entry_quiet : (answers : List Bool) (m : Execute) (x : Option (Entry (TablePortal S)))
      → IsQuiet (executed_entry h.extended answers s m x).effect.replies
  entry_quiet answers m None = refl
  entry_quiet answers m (Some entry.Empty) = refl
  entry_quiet answers m (Some (entry.Value p)) = run_quiet answers m p p.stage

  -- ---- each message

  ready_quiet : (answers : List Bool) (m : PgWireFrontendMessage) → IsOfExtendedQuery phase.ReadyForQuery m
      → IsQuiet (ready_row h answers s m).effect.replies
  ready_quiet answers (client.Query m) k = absurd k
  ready_quiet answers (client.Execute m) k = entry_quiet answers m (fin.get s.portals m.name)
  ready_quiet answers m k = statement_row_quiet m

  -- an answer that tells an error ends with it
  abbrev EndsWhereTold : Answer (State S) → Type 0
  EndsWhereTold a = has_error a.replies ≡ true → (info : ErrorInfo) × EndsWithError info a

  not_both : {A : Type 0} (b : Bool) → b ≡ false → b ≡ true → A
  not_both b f t = let contradiction : ⊥ = cc in absurd contradiction

  settled_ends : (replies : Replies) (calls : List DeskCall) (o : Outcome S) → IsQuiet replies
      → EndsWhereTold (settled UntilSync replies calls o)
  settled_ends replies calls (Done t) q e = not_both (has_error replies) q e
  settled_ends replies calls (Failed t w) q e = (info_of w, error_ends replies calls t w)
  settled_ends replies calls (Over kind) q e = not_both (has_error replies) q e
  settled_ends replies calls Stopped q e = not_both (has_error replies) q e

  ready_ends : (answers : List Bool) (m : PgWireFrontendMessage) → IsOfExtendedQuery phase.ReadyForQuery m
      → EndsWhereTold (settle (scope_in phase.ReadyForQuery m) (row h answers s m phase.ReadyForQuery))
  ready_ends answers m k =
      let c = ready_row h answers s m in
      subst (λ (scope : Scope). EndsWhereTold (settle scope c)) (sym (extended_scope h phase.ReadyForQuery m k))
      (settled_ends c.effect.replies c.calls c.effect.outcome (ready_quiet answers m k))

pub response_ends : {S : Type 0} (h : Handlers S) (answers : List Bool) (s : State S) (m : PgWireFrontendMessage)
    → s.info.state ≡ phase.ReadyForQuery
    → IsOfExtendedQuery s.info.state m → has_error (whole_table h answers s m).replies ≡ true
    → (info : ErrorInfo) × EndsWithError info (whole_table h answers s m)
response_ends h answers s m q k =
    subst (λ (x : PgWireConnectionState). EndsWhereTold h s (settle (scope_in x m) (row h answers s m x))) (sym q)
    (ready_ends h s answers m (subst (λ (x : PgWireConnectionState). IsOfExtendedQuery x m) q k))
