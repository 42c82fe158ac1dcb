-- Each message but an Execute of a portal leaves it as it is, or replaces or removes it.
use Rattle.std.proofs.Common.{◌≡◌, ◌==◌, ◌∙◌, ◌⊎◌, inl, inr, ℕ, Bool, true, false, if◌then◌else◌, List, [], ◌∷◌, ◌++◌, Option, Some, None, Result, Ok, Err, nat_le, nat_lt, length, refl, ap, sym, subst}
use Rattle.std.specs.FinMap as fin
use Rattle.pg_messages.specs.declared.startup.CancelRequest.{CancelRequest}
use Rattle.pg_messages.specs.declared.simplequery.Query.{Query}
use Rattle.pg_messages.specs.declared.extendedquery.Parse.{Parse}
use Rattle.pg_messages.specs.declared.extendedquery.Bind.{Bind}
use Rattle.pg_messages.specs.declared.extendedquery.Describe.{Describe}
use Rattle.pg_messages.specs.declared.extendedquery.Close.{Close}
use Rattle.pg_messages.specs.declared.extendedquery.Execute.{Execute}
use Rattle.pg_messages.specs.declared.data.DataRow.{DataRow}
use Rattle.pg_messages.specs.declared.frontend.PgWireFrontendMessage.{PgWireFrontendMessage}
use Rattle.pg_messages.specs.declared.frontend.PgWireFrontendMessage.TheVariants as client
use Rattle.pg_messages.specs.declared.backend.PgWireBackendMessage.TheVariants as server
use Rattle.pg_messages.specs.declared.codec.ProtocolVersion.TheVariants.{PROTOCOL3_0, PROTOCOL3_2}
use Rattle.pg_messages.specs.Frames.{protocol_3_0, protocol_3_2, statement_target, portal_target}
use Rattle.pg_results.specs.declared.client.PgWireConnectionState.{PgWireConnectionState}
use Rattle.pg_results.specs.declared.client.PgWireConnectionState.TheVariants as phase
use Rattle.pg_results.specs.declared.error.PgWireError.{PgWireError}
use Rattle.pg_results.specs.declared.error.PgWireError.TheVariants as wire
use Rattle.pg_results.specs.declared.tag.Tag.{Tag}
use Rattle.pg_results.specs.declared.stmt.StoredStatement.{StoredStatement}
use Rattle.pg_portal.specs.declared.store.Entry.{Entry}
use Rattle.pg_portal.specs.declared.store.Entry.TheVariants as entry
use Rattle.pg_results.specs.Describing.{is_empty_list}
use Rattle.pg_results.specs.Errors.{info_of}
use Rattle.pg_results.specs.Fields.{Field}
use Rattle.named_entries.specs.Names.{NameMap}
use Rattle.pg_results.specs.Page.{PageEnd, AtLimit, AtEnd, AtError, delivered_after, item_page}
use Rattle.pg_results.specs.Responses as response
use Rattle.pg_results.specs.Responses.{ToldResponse}
use Rattle.pg_results.specs.Statements.{prepared}
use Rattle.pg_results.specs.Texts.{is_blank}
use Rattle.pg_results.specs.Told.{ToldRows}
use Rattle.pg_portal.specs.Told.{TablePortal, Stage, Unstarted, Started, Ended, value_under, value_of}
use Rattle.named_entries.proofs.NameMaps.{get-put, get-other}
use Rattle.pg_client.specs.declared.desk.DeskCall.{DeskCall}
use Rattle.pg_client.specs.declared.ends.EndKind.TheVariants as end
use Rattle.pg_client.specs.Answer.{Answer, Next, Goes, Ends, Stops}
use Rattle.conversation_table.specs.CopyRows.{copied, copy_row, stepped}
use Rattle.pg_client.specs.Effect.{Effect, Called, Scope, UntilSync, AnswersReady, Outcome, Done, Failed, Over, Stopped, says, refuses, silent, settled, after_error}
use Rattle.pg_client.specs.Errors.{is_fatal, unsupported_version, values_for_empty, too_few_codes}
use Rattle.conversation_table.specs.ExecuteRow.{at_stage, executed, executed_entry, executed_portal, execute_polled, fetched, page_effect, sent_in_execute}
use Rattle.pg_portal.specs.Fetching.{stage_after}
use Rattle.conversation_table.specs.ExtendedRows.{bind_complete, bound, bound_portal, bound_with_columns, described, described_portal, described_statement, on_close, on_describe, parsed, portal_description, statement_description}
use Rattle.conversation_table.specs.Handlers.{Handlers}
use Rattle.conversation_table.specs.Questions.{Verdict, Passed, Canceled, Unanswered, questioned}
use Rattle.pg_replies.specs.Replies.{Replies, ready}
use Rattle.pg_replies.specs.ResponseRows.{Sent, responded}
use Rattle.conversation_table.specs.SimpleRows.{answered, query_polled, query_run, responded_all}
use Rattle.pg_client.specs.StartupRows.{accepts, on_cancel_request, startup_row}
use Rattle.pg_client.specs.State.{State, in_phase, with_portal, with_status, without_portal, without_statement, without_unnamed_portal}
use Rattle.conversation_table.specs.Table.{awaiting_sync_row, ready_row, row, scope_in, statement_row, whole_table}
use Rattle.std.proofs.lemmas.Bool.Decides.{Decides-eqb}
use Rattle.conversation_laws.specs.Pages.{EndsTransaction, IsUnstarted, KeepsPortal, Replaces, is_execute_of, stage_in}
use Rattle.conversation_laws.proofs.Names.{are_two, get-left, get-removed, one_or_two}

module _ {S : Type 0} (h : Handlers S) (s : State S) (name : List ℕ) where
  -- The portal of the name is as it was, or is gone where this holds.
  abbrev KeepsMap : Type 0 → NameMap (Entry (TablePortal S)) → Type 0
  KeepsMap R portals = (fin.get portals name ≡ fin.get s.portals name) ⊎ (R × IsUnstarted (stage_in (value_under (fin.get portals name))))

  abbrev Keeps : Type 0 → Outcome S → Type 0
  Keeps R (Done t) = KeepsMap R t.portals
  Keeps R (Failed t e) = KeepsMap R t.portals
  Keeps R (Over kind) = Unit {0}
  Keeps R Stopped = Unit {0}

  abbrev pub KeepsNext : Type 0 → Next (State S) → Type 0
  KeepsNext R (Goes t) = KeepsMap R t.portals
  KeepsNext R (Ends kind) = Unit {0}
  KeepsNext R Stops = Unit {0}

  stays : (R : Type 0) → KeepsMap R s.portals
  stays R = inl refl

  put_keeps : (R : Type 0) (k : List ℕ) (e : Entry (TablePortal S)) → (k ≡ name → R) → IsUnstarted (stage_in (value_of e))
      → KeepsMap R (fin.insert s.portals k e)
  put_keeps R k e r u = by_name (one_or_two name k)
    where
      by_name : (name ≡ k) ⊎ (name ≡ k → ⊥) → KeepsMap R (fin.insert s.portals k e)
      by_name (inl is) = inr (
        r (sym is),
        subst (λ o. IsUnstarted (stage_in (value_under o)))
            (sym (ap (fin.get (fin.insert s.portals k e)) is ∙ get-put s.portals k e)) u,
      )
      by_name (inr ne) = inl (get-other s.portals k e name ne)

  removed_keeps : (R : Type 0) (k : List ℕ) → (k ≡ name → R) → KeepsMap R (fin.remove s.portals k)
  removed_keeps R k r = by_name (one_or_two name k)
    where
      by_name : (name ≡ k) ⊎ (name ≡ k → ⊥) → KeepsMap R (fin.remove s.portals k)
      by_name (inl is) = inr (
        r (sym is),
        subst (λ o. IsUnstarted (stage_in (value_under o)))
            (sym (ap (fin.get (fin.remove s.portals k)) is ∙ get-removed s.portals k)) tt,
      )
      by_name (inr ne) = inl (get-left s.portals k name ne)

  -- ---- what an outcome comes to

  after_keeps : (R : Type 0) (scope : Scope) (t : State S) → KeepsMap R t.portals → KeepsMap R (after_error scope t).1.portals
  after_keeps R UntilSync t k = k
  after_keeps R AnswersReady t k = k

  failed_keeps : (R : Type 0) (b : Bool) (x y : Replies) (calls : List DeskCall) (t : State S) → KeepsMap R t.portals
      → KeepsNext R (if b then (let a : Answer (State S) = record { replies = x; calls = calls; next = Ends end.Fatal } in a)
      else (record { replies = y; calls = calls; next = Goes t })).next
  failed_keeps R true x y calls t k = tt
  failed_keeps R false x y calls t k = k

  settled_keeps : (R : Type 0) (scope : Scope) (replies : Replies) (calls : List DeskCall) (o : Outcome S) → Keeps R o
      → KeepsNext R (settled scope replies calls o).next
  settled_keeps R scope replies calls (Done t) k = k
  settled_keeps R scope replies calls (Failed t e) k =
      failed_keeps R (is_fatal (info_of e)) _ _ calls (after_error scope t).1 (after_keeps R scope t k)
  settled_keeps R scope replies calls (Over kind) k = tt
  settled_keeps R scope replies calls Stopped k = tt

  either_keeps : (R : Type 0) (b : Bool) (x y : Effect S) → Keeps R x.outcome → Keeps R y.outcome → Keeps R (if b then x else y).outcome
  either_keeps R true x y f g = f
  either_keeps R false x y f g = g

  either_called : (R : Type 0) (b : Bool) (x y : Called S) → Keeps R x.effect.outcome → Keeps R y.effect.outcome
      → Keeps R (if b then x else y).effect.outcome
  either_called R true x y f g = f
  either_called R false x y f g = g

  either_state : (R : Type 0) (b : Bool) (x y : State S) → KeepsMap R x.portals → KeepsMap R y.portals
      → KeepsMap R (if b then x else y).portals
  either_state R true x y f g = f
  either_state R false x y f g = g

  -- ---- the startup phase

  cancel_keeps : (R : Type 0) (answers : List Bool) (m : CancelRequest) → Keeps R (on_cancel_request {S = S} answers m).effect.outcome
  cancel_keeps R [] m = tt
  cancel_keeps R (told ∷ answers) m = tt

  startup_keeps : (R : Type 0) (answers : List Bool) (m : PgWireFrontendMessage) → Keeps R (startup_row answers s m).effect.outcome
  startup_keeps R answers (client.CancelRequest m) = cancel_keeps R answers m
  startup_keeps R answers (client.Startup m) =
      let refused : Called S = silent (refuses s (wire.UserError (unsupported_version m.code))) in
      either_called R (m.code == protocol_3_0) (accepts s PROTOCOL3_0 m) (if m.code == protocol_3_2 then accepts s PROTOCOL3_2 m
      else refused)
      (stays R) (either_called R (m.code == protocol_3_2) (accepts s PROTOCOL3_2 m) refused (stays R) (stays R))
  startup_keeps R answers _ = stays R

  -- ---- Parse, Bind, Describe, Close

  parsed_keeps : (R : Type 0) (m : Parse) (r : Result (Option (StoredStatement S)) PgWireError) → Keeps R (parsed s m r).outcome
  parsed_keeps R m (Ok statement) = stays R
  parsed_keeps R m (Err e) = stays R

  module _ (m : Bind) where
    abbrev OfName : Type 0
    OfName = m.portal_name ≡ name

    portal_keeps : (statement : StoredStatement S) → Keeps OfName (bound_portal s m statement).outcome
    portal_keeps statement = put_keeps OfName m.portal_name _ (λ is. is) tt

    columns_keep : (statement : StoredStatement S) (r : Result (List Field) PgWireError)
        → Keeps OfName (bound_with_columns s m statement r).outcome
    columns_keep statement (Err e) = stays OfName
    columns_keep statement (Ok columns) = either_keeps OfName (nat_lt (length m.result_column_format_codes) (length columns))
        (refuses s (wire.UserError (too_few_codes (length m.result_column_format_codes) (length columns)))) (bound_portal s m statement)
        (stays OfName) (portal_keeps statement)

    bound_keeps : (x : Option (Entry (StoredStatement S))) → Keeps OfName (bound h.extended s m x).outcome
    bound_keeps None = stays OfName
    bound_keeps (Some entry.Empty) = either_keeps OfName (is_empty_list m.parameters)
        (says bind_complete (with_portal s m.portal_name entry.Empty))
        (refuses s (wire.UserError (values_for_empty (length m.parameters) m.statement_name)))
        (put_keeps OfName m.portal_name entry.Empty (λ is. is) tt) (stays OfName)
    bound_keeps (Some (entry.Value statement)) =
        let columns = h.extended.parser.columns statement.statement None in
        either_keeps OfName (nat_le 2 (length m.result_column_format_codes)) (bound_with_columns s m statement columns)
        (bound_portal s m statement) (columns_keep statement columns) (portal_keeps statement)

  told_keeps : (R : Type 0) {D : Type 0} (shown : D → Replies) (r : Result D PgWireError) → Keeps R (described s shown r).outcome
  told_keeps R shown (Ok d) = stays R
  told_keeps R shown (Err e) = stays R

  statement_keeps : (R : Type 0) (k : List ℕ) (x : Option (Entry (StoredStatement S)))
      → Keeps R (described_statement h.extended s k x).outcome
  statement_keeps R k None = stays R
  statement_keeps R k (Some entry.Empty) = stays R
  statement_keeps R k (Some (entry.Value statement)) = told_keeps R statement_description (h.extended.describe_statement s.info statement)

  shown_keeps : (R : Type 0) (k : List ℕ) (x : Option (Entry (TablePortal S))) → Keeps R (described_portal h.extended s k x).outcome
  shown_keeps R k None = stays R
  shown_keeps R k (Some entry.Empty) = stays R
  shown_keeps R k (Some (entry.Value p)) = told_keeps R portal_description (h.extended.describe_portal s.info p.bound)

  describe_keeps : (R : Type 0) (m : Describe) → Keeps R (on_describe h.extended s m).outcome
  describe_keeps R m =
      let by_statement : Effect S = described_statement h.extended s m.name (fin.get s.statements m.name) in
      let by_portal : Effect S = described_portal h.extended s m.name (fin.get s.portals m.name) in
      let refused : Effect S = refuses s (wire.InvalidTargetType m.target_type) in
      either_keeps R (m.target_type == statement_target) by_statement (if m.target_type == portal_target then by_portal else refused)
      (statement_keeps R m.name (fin.get s.statements m.name))
      (either_keeps R (m.target_type == portal_target) by_portal refused (shown_keeps R m.name (fin.get s.portals m.name)) (stays R))

  closed_keeps : (m : Close) (b : Bool) → (m.target_type == portal_target) ≡ b
      → KeepsMap (Replaces h s name (client.Close m)) (if b then without_portal s m.name else s).portals
  closed_keeps m true e = removed_keeps (Replaces h s name (client.Close m)) m.name (λ is. (
    (Decides-eqb m.target_type portal_target).0 e,
    is,
  ))
  closed_keeps m false e = stays _

  close_keeps : (m : Close) → Keeps (Replaces h s name (client.Close m)) (on_close s m).outcome
  close_keeps m = either_state _ (m.target_type == statement_target) (without_statement s m.name)
      (if m.target_type == portal_target then without_portal s m.name
      else s) (stays _) (closed_keeps m (m.target_type == portal_target) refl)

  sync_keeps : (R : Type 0) → (name ≡ [] → R) → KeepsMap R (without_unnamed_portal s).portals
  sync_keeps R r = removed_keeps R [] (λ is. r (sym is))

  statement_row_keeps : (m : PgWireFrontendMessage) → Keeps (Replaces h s name m) (statement_row h.extended s m).outcome
  statement_row_keeps (client.Parse m) = parsed_keeps _ m (prepared h.extended.parser s.info m)
  statement_row_keeps (client.Bind m) = bound_keeps m (fin.get s.statements m.statement_name)
  statement_row_keeps (client.Describe m) = describe_keeps _ m
  statement_row_keeps (client.Close m) = close_keeps m
  statement_row_keeps (client.PgSync m) = sync_keeps (name ≡ []) (λ is. is)
  statement_row_keeps (client.Terminate m) = tt
  statement_row_keeps _ = stays _

  -- ---- Execute of another portal

  module _ (R : Type 0) (m : Execute) (ne : name ≡ m.name → ⊥) where
    other_keeps : (e : Entry (TablePortal S)) → KeepsMap R (fin.insert s.portals m.name e)
    other_keeps e = inl (get-other s.portals m.name e name ne)

    page_keeps : (t : State S) → KeepsMap R t.portals → (tag : List ℕ) (number : ℕ) (rows : List DataRow)
        (ending : PageEnd DataRow) → Keeps R (page_effect t tag number rows ending).outcome
    page_keeps t k tag number rows (AtLimit items) = k
    page_keeps t k tag number rows AtEnd = k
    page_keeps t k tag number rows (AtError e items) = k

    fetched_keeps : (p : TablePortal S) (r : ToldRows) (delivered : ℕ) → Keeps R (fetched s m p r delivered).outcome
    fetched_keeps p r delivered =
        let page = item_page m.max_rows r.items in
        let e : Entry (TablePortal S) = entry.Value (at_stage p (stage_after r delivered page.rows page.ending)) in
        page_keeps (with_portal s m.name e) (other_keeps e) r.command_tag (delivered_after delivered (length page.rows)) page.rows
        page.ending

    sent_keeps : (t : State S) → KeepsMap R t.portals → (sent : Sent) (o : Option PgWireError) → Keeps R (sent_in_execute t sent o).outcome
    sent_keeps t k sent None = either_state R sent.copying (in_phase t (phase.CopyInProgress true)) t k k
    sent_keeps t k sent (Some e) = k

    response_keeps : (t : State S) → KeepsMap R t.portals → (sent : Sent) → Keeps R (sent_in_execute t sent sent.refusal).outcome
    response_keeps t k sent = sent_keeps t k sent sent.refusal

    executed_keeps : (p : TablePortal S) (r : ToldResponse) → ((tag : Tag) → r ≡ response.TransactionEnd tag → name ≡ [] → R)
        → Keeps R (executed s m p r).outcome
    executed_keeps p (response.Query r) w = fetched_keeps p r 0
    executed_keeps p (response.Error info) w = stays R
    executed_keeps p (response.TransactionEnd tag) w = sync_keeps R (w tag refl)
    executed_keeps p response.EmptyQuery w = stays R
    executed_keeps p (response.Execution tag) w = stays R
    executed_keeps p (response.TransactionStart tag) w = stays R
    executed_keeps p (response.CopyIn c) w = stays R
    executed_keeps p (response.CopyOut c) w = response_keeps s (stays R) (responded s.info.status (response.CopyOut c))
    executed_keeps p (response.CopyBoth c) w = response_keeps s (stays R) (responded s.info.status (response.CopyBoth c))

    polled_keeps : (p : TablePortal S) (v : Verdict) (o : Result ToldResponse PgWireError)
        → ((tag : Tag) → o ≡ Ok (response.TransactionEnd tag) → name ≡ [] → R) → Keeps R (execute_polled s m p v o).outcome
    polled_keeps p Unanswered o w = tt
    polled_keeps p Canceled o w = stays R
    polled_keeps p Passed (Ok r) w = executed_keeps p r (λ tag is. w tag (ap Ok is))
    polled_keeps p Passed (Err e) w = stays R

    run_keeps : (answers : List Bool) (p : TablePortal S) (st : Stage)
        → ((tag : Tag) → (h.extended.query s.info p.bound m.max_rows).outcome ≡ Ok (response.TransactionEnd tag) → name ≡ [] → R)
        → Keeps R (executed_portal h.extended answers s m p st).effect.outcome
    run_keeps answers p Unstarted w =
        let query = h.extended.query s.info p.bound m.max_rows in
        polled_keeps p (questioned query.owes answers).verdict query.outcome w
    run_keeps answers p (Started r d) w = fetched_keeps p r d
    run_keeps answers p (Ended d) w = stays R

    entry_keeps : (answers : List Bool) (x : Option (Entry (TablePortal S))) → fin.get s.portals m.name ≡ x
        → (EndsTransaction h s m → name ≡ [] → R) → Keeps R (executed_entry h.extended answers s m x).effect.outcome
    entry_keeps answers None e w = stays R
    entry_keeps answers (Some entry.Empty) e w = stays R
    entry_keeps answers (Some (entry.Value p)) e w = run_keeps answers p p.stage (λ tag is. w (p, tag, e, is))

  -- ---- Query

  answered_keeps : (R : Type 0) (sent : Sent) (o : Option PgWireError) → Keeps R (answered s sent o).outcome
  answered_keeps R sent None = either_keeps R sent.copying (says sent.replies (in_phase s (phase.CopyInProgress false)))
      (says (sent.replies ++ ready sent.status ∷ []) (with_status s sent.status)) (stays R) (stays R)
  answered_keeps R sent (Some e) = stays R

  all_keep : (R : Type 0) (sent : Sent) → Keeps R (answered s sent sent.refusal).outcome
  all_keep R sent = answered_keeps R sent sent.refusal

  query_polled_keeps : (R : Type 0) (v : Verdict) (r : Result (List ToldResponse) PgWireError) → Keeps R (query_polled s v r).outcome
  query_polled_keeps R Unanswered r = tt
  query_polled_keeps R Canceled r = stays R
  query_polled_keeps R Passed (Ok responses) = all_keep R (responded_all s.info.status responses)
  query_polled_keeps R Passed (Err e) = stays R

  query_keeps : (R : Type 0) (answers : List Bool) (m : Query) (b : Bool)
      → Keeps R (if b then silent (says (server.EmptyQueryResponse (record {}) ∷ ready s.info.status ∷ []) s)
      else query_run answers s (h.simple s.info m.query)).effect.outcome
  query_keeps R answers m true = stays R
  query_keeps R answers m false =
      let query = h.simple s.info m.query in
      query_polled_keeps R (questioned query.owes answers).verdict query.outcome

  -- ---- COPY

  stepped_keeps : (R : Type 0) (replies : Replies) (o : Option PgWireError) (others : Effect S) → Keeps R others.outcome
      → Keeps R (stepped s replies o others).outcome
  stepped_keeps R replies None others k = k
  stepped_keeps R replies (Some e) others k = stays R

  copied_keeps : (R : Type 0) (is_extended : Bool) → Keeps R (copied is_extended s).outcome
  copied_keeps R true = stays R
  copied_keeps R false = stays R

  copy_keeps : (R : Type 0) (is_extended : Bool) (m : PgWireFrontendMessage) → Keeps R (copy_row h.copying is_extended s m).outcome
  copy_keeps R is_extended (client.CopyData m) =
      let step = h.copying.on_data s.info m.payload in
      stepped_keeps R step.replies step.refusal (says [] s) (stays R)
  copy_keeps R is_extended (client.CopyDone m) =
      let step = h.copying.on_done s.info in
      stepped_keeps R step.replies step.refusal (copied is_extended s) (copied_keeps R is_extended)
  copy_keeps R is_extended (client.CopyFail m) = stays R
  copy_keeps R is_extended (client.Terminate m) = tt
  copy_keeps R is_extended _ = stays R

  -- ---- each phase

  waiting_keeps : (m : PgWireFrontendMessage) → Keeps (Replaces h s name m) (awaiting_sync_row s m).outcome
  waiting_keeps (client.PgSync m) = sync_keeps (name ≡ []) (λ is. is)
  waiting_keeps (client.Terminate m) = tt
  waiting_keeps _ = stays _

  ready_keeps : (answers : List Bool) (m : PgWireFrontendMessage) → is_execute_of name phase.ReadyForQuery m ≡ false
      → Keeps (Replaces h s name m) (ready_row h answers s m).effect.outcome
  ready_keeps answers (client.Query m) e = query_keeps _ answers m (is_blank m.query)
  ready_keeps answers (client.Execute m) e =
      entry_keeps (Replaces h s name (client.Execute m)) m (λ is. are_two m.name name e (sym is)) answers (fin.get s.portals m.name) refl
      (λ ends is. (is, ends))
  ready_keeps answers m e = statement_row_keeps m

  row_keeps : (answers : List Bool) (m : PgWireFrontendMessage) (x : PgWireConnectionState) → is_execute_of name x m ≡ false
      → Keeps (Replaces h s name m) (row h answers s m x).effect.outcome
  row_keeps answers m phase.AwaitingStartup e = startup_keeps _ answers m
  row_keeps answers m phase.ReadyForQuery e = ready_keeps answers m e
  row_keeps answers m phase.AwaitingSync e = waiting_keeps m
  row_keeps answers m (phase.CopyInProgress is_extended) e = copy_keeps _ is_extended m

  pub message_keeps : (answers : List Bool) (m : PgWireFrontendMessage) → is_execute_of name s.info.state m ≡ false
      → KeepsNext (Replaces h s name m) (whole_table h answers s m).next
  message_keeps answers m e =
      let c = row h answers s m s.info.state in
      settled_keeps _ (scope_in s.info.state m) c.effect.replies c.calls c.effect.outcome (row_keeps answers m s.info.state e)

  pub keeps_portal : (answers : List Bool) (t : State S) (m : PgWireFrontendMessage) → is_execute_of name s.info.state m ≡ false
      → (whole_table h answers s m).next ≡ Goes t → KeepsPortal h name m s t
  keeps_portal answers t m e is = subst (KeepsNext (Replaces h s name m)) is (message_keeps answers m e)
