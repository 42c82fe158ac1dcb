-- Each row of the whole table over relations: what it tells, why it is refused, and that relations are still served behind it.
use Rattle.std.proofs.Common.{arith, ◌≡◌, ◌≢◌, ◌∙◌, ◌==◌, ◌++◌, ◌≤◌, ◌<◌, inl, inr, ℕ, zero, suc, Bool, true, false, if◌then◌else◌, List, [], ◌∷◌, Option, Some, None, Ok, nat_le, nat_lt, map, length, drop, pos, get_or, codes, refl, sym, ap, subst}
use Rattle.std.proofs.Math.Path.{ap₂}
use Rattle.std.proofs.lemmas.Bool.Decides.{nat_tests, not_from_Decides, Decides-eqb}
use Rattle.std.specs.List.{Contains}
use Rattle.std.specs.FinMap as fin
use Rattle.pg_interval.specs.declared.pg_interval.Interval.{Interval}
use Rattle.pg_messages.specs.declared.data.DataRow.{DataRow}
use Rattle.pg_messages.specs.declared.copy.CopyData.{CopyData}
use Rattle.pg_messages.specs.declared.response.TransactionStatus.TheVariants as status
use Rattle.pg_messages.specs.Status.{to_in_transaction_state}
use Rattle.pg_messages.specs.declared.startup.Startup.{Startup}
use Rattle.pg_messages.specs.declared.startup.CancelRequest.{CancelRequest}
use Rattle.pg_messages.specs.declared.startup.SslNegotiationKind.{SslNegotiationKind}
use Rattle.pg_messages.specs.declared.startup.SslNegotiationKind.TheVariants as encryption
use Rattle.pg_messages.specs.declared.simplequery.Query.{Query}
use Rattle.pg_messages.specs.declared.extendedquery.Parse.{Parse}
use Rattle.pg_messages.specs.declared.extendedquery.Bind.{Bind}
use Rattle.pg_messages.specs.declared.extendedquery.Describe.{Describe}
use Rattle.pg_messages.specs.declared.extendedquery.Close.{Close}
use Rattle.pg_messages.specs.declared.extendedquery.Execute.{Execute}
use Rattle.pg_messages.specs.declared.codec.ProtocolVersion.{ProtocolVersion}
use Rattle.pg_messages.specs.declared.codec.ProtocolVersion.TheVariants.{PROTOCOL3_0, PROTOCOL3_2}
use Rattle.pg_messages.specs.declared.frontend.PgWireFrontendMessage.{PgWireFrontendMessage}
use Rattle.pg_messages.specs.declared.frontend.PgWireFrontendMessage.TheVariants as client
use Rattle.pg_messages.specs.declared.backend.PgWireBackendMessage.TheVariants as server
use Rattle.pg_messages.specs.Frames.{protocol_3_0, protocol_3_2, statement_target, portal_target}
use Rattle.pg_text.specs.Words.{interval_style_of}
use Rattle.pg_results.specs.declared.client.PgWireConnectionState.{PgWireConnectionState}
use Rattle.pg_results.specs.declared.client.PgWireConnectionState.TheVariants as phase
use Rattle.pg_results.specs.declared.error.PgWireError.{PgWireError}
use Rattle.pg_results.specs.declared.error.PgWireError.TheVariants as wire
use Rattle.pg_results.specs.declared.format.Format.TheVariants as format
use Rattle.pg_results.specs.declared.stmt.StoredStatement.{StoredStatement}
use Rattle.pg_portal.specs.declared.store.Entry.{Entry}
use Rattle.pg_portal.specs.declared.store.Entry.TheVariants as entry
use Rattle.pg_results.specs.declared.describe.DescribeStatementResponse.{DescribeStatementResponse}
use Rattle.pg_results.specs.declared.describe.DescribePortalResponse.{DescribePortalResponse}
use Rattle.pg_results.specs.Describing.{is_empty_list, is_no_data}
use Rattle.pg_results.specs.Errors.{info_of}
use Rattle.pg_results.specs.Fields.{Field}
use Rattle.pg_results.specs.Told.{with_items, ToldRows}
use Rattle.pg_portal.specs.Fetching.{stage_after}
use Rattle.pg_results.specs.Page.{PageEnd, AtLimit, AtEnd, AtError, delivered_after, item_page, page, before_error, first_error}
use Rattle.pg_results.specs.Responses.{ToldResponse, ToldCopy}
use Rattle.pg_results.specs.Rows.{RowItem}
use Rattle.pg_results.specs.Statements.{stored, types_of}
use Rattle.pg_results.specs.Texts.{is_blank}
use Rattle.pg_portal.specs.Told.{TablePortal, Stage, Unstarted, Started, Ended, value_under}
use Rattle.pg_client.specs.declared.desk.DeskCall.{DeskCall}
use Rattle.pg_client.specs.declared.desk.DeskCall.TheVariants as desk
use Rattle.pg_client.specs.declared.ends.EndKind.TheVariants as end
use Rattle.conversation_table.specs.CopyRows.{copy_row}
use Rattle.pg_client.specs.Effect.{Effect, Called, Outcome, Done, Failed, Over, Stopped, says, refuses, silent}
use Rattle.pg_client.specs.Errors.{values_for_empty, too_few_codes, unsupported_version}
use Rattle.conversation_table.specs.ExecuteRow.{at_stage, page_effect, fetched, execute_polled, execute_run, executed_portal, executed_entry}
use Rattle.conversation_table.specs.ExtendedRows.{parse_complete, bind_complete, parsed, portal_bound, bound_portal, bound, described_statement, described_portal, statement_description, portal_description}
use Rattle.conversation_table.specs.Handlers.{Handlers}
use Rattle.conversation_table.specs.Questions.{Verdict, Passed, Canceled, Unanswered, questioned, started}
use Rattle.pg_replies.specs.Replies.{Replies, ready, row_replies, done_with, row_description}
use Rattle.pg_replies.specs.ResponseRows.{sent, unless_error, copy_replies, copy_count, copy_end, copy_out_reply, not_empty as not_empty_data}
use Rattle.conversation_table.specs.SimpleRows.{followed, answered, answered_all, query_polled, query_run}
use Rattle.pg_client.specs.StartupRows.{no_encryption, on_cancel_request, accepts, tells_less, started_session, startup_row}
use Rattle.pg_client.specs.State.{State, in_phase, with_status, with_portal, with_statement, without_statement, without_portal, without_unnamed_portal}
use Rattle.conversation_table.specs.Table.{statement_row, ready_row, awaiting_sync_row, row, message_row}
use Rattle.conversation_table.proofs.GoodStores.{Each, each_after_insert, each_after_remove, none_empty, one_value}
use Rattle.relation_tables.specs.declared.Relation.{Relation}
use Rattle.relation_tables.specs.declared.RelationStatement.{RelationStatement}
use Rattle.relation_tables.specs.declared.RelationStatement.TheVariants as statement
use Rattle.relation_tables.specs.Errors.{unknown_relation}
use Rattle.relation_tables.specs.Queries.{trimmed, words, copied_name}
use Rattle.relation_tables.specs.Relations.{relation_at, columns_of, place_of, meaning}
use Rattle.relation_tables.specs.RelationHandler.{style_text, session_style, row_item, line_item, column_formats, fields_of, or_unknown, query_of, simple_of, copy_of, copy_or_unknown, copy_response, rows_response, refused_query, columns_in, statement_described, portal_described, relation_handlers}
use Rattle.relation_tables.proofs.Meanings.{field_count}
use Rattle.relation_laws.specs.Told.{errors_among}
use Rattle.relation_laws.specs.Causes.{IsReady, IsRelationName, IsCopyOfRelation, IsPassed, CanCome, last_rows, rows_to_come}
use Rattle.relation_laws.specs.Served.{IsRest, IsStageOf, IsServed}
use Rattle.relation_laws.proofs.ErrorKinds as kind
use Rattle.relation_laws.proofs.ErrorKinds.{Kind, IsOf, CauseOf, known}
use Rattle.relation_laws.proofs.Texts.{not_empty, no_meaning, no_relation}
use Rattle.relation_laws.proofs.Items.{first_of_rows, page_met, left_by_page, left_by_error, still_last, all_are_last}
use Rattle.relation_laws.proofs.Cells.{row_refused, line_refused}

abbrev pub Talk : Type 0
Talk = State RelationStatement

-- no COPY from the client is in progress
abbrev pub OutsideCopy : PgWireConnectionState → Type 0
OutsideCopy (phase.CopyInProgress is_extended) = ⊥
OutsideCopy _ = Unit {0}

-- ---- replies that tell no error

abbrev pub Quiet : Replies → Type 0
Quiet replies = errors_among replies ≡ []

pub errors_append : (x y : Replies) → errors_among (x ++ y) ≡ errors_among x ++ errors_among y
errors_append [] y = refl
errors_append (server.ErrorResponse m ∷ x) y = ap (λ errors. m.info ∷ errors) (errors_append x y)
errors_append (_ ∷ x) y = errors_append x y

pub quiet_append : (x y : Replies) → Quiet x → Quiet y → Quiet (x ++ y)
quiet_append x y a b = errors_append x y ∙ ap₂ (λ p q. p ++ q) a b

rows_quiet : (rows : List DataRow) → Quiet (row_replies rows)
rows_quiet [] = refl
rows_quiet (row ∷ rows) = rows_quiet rows

copied_quiet : (copied : List CopyData) → Quiet (copy_replies copied)
copied_quiet [] = refl
copied_quiet (d ∷ copied) = copied_quiet copied

columns_quiet : (fields : List Field) (b : Bool) → Quiet ((if b then server.NoData (record {}) else row_description fields) ∷ [])
columns_quiet fields true = refl
columns_quiet fields false = refl

statement_quiet : (d : DescribeStatementResponse) → Quiet (statement_description d)
statement_quiet d = columns_quiet d.fields (is_no_data (record { parameters = Some d.parameters; fields = d.fields }))

portal_quiet : (d : DescribePortalResponse) → Quiet (portal_description d)
portal_quiet d = columns_quiet d.fields (is_no_data (record { parameters = None; fields = d.fields }))

-- ---- questions

later_call : (call : DeskCall) (calls : List DeskCall) (x : DeskCall) → Contains calls x → Contains (call ∷ calls) x
later_call call calls x at = (suc at.0, omega (arith, at.1), at.2)

canceled_asks : (n : ℕ) (answers : List Bool) → (questioned n answers).verdict ≡ Canceled
    → Contains (questioned n answers).calls (desk.Ask true)
canceled_asks zero answers e = cc
canceled_asks (suc n) [] e = cc
canceled_asks (suc n) (true ∷ answers) e = (0, omega arith, refl)
canceled_asks (suc n) (false ∷ answers) e = later_call (desk.Ask false) (questioned n answers).calls (desk.Ask true)
    (canceled_asks n answers e)

pub started_asks : (n : ℕ) (answers : List Bool) → (started n answers).verdict ≡ Canceled
    → Contains (started n answers).calls (desk.Ask true)
started_asks n answers e = later_call desk.Start (questioned n answers).calls (desk.Ask true) (canceled_asks n answers e)

asks_cancels : (n : ℕ) (answers : List Bool) (k : ℕ) → k < length (questioned n answers).calls
    → get_or (questioned n answers).calls k (desk.Ask true) ≡ desk.Ask true → (questioned n answers).verdict ≡ Canceled
asks_cancels zero answers k inside at = absurd (omega (arith, inside))
asks_cancels (suc n) [] k inside at = absurd (omega (arith, inside))
asks_cancels (suc n) (true ∷ answers) k inside at = refl
asks_cancels (suc n) (false ∷ answers) zero inside at = cc
asks_cancels (suc n) (false ∷ answers) (suc k) inside at = asks_cancels n answers k (omega (arith, inside)) at

pub asks_cancel : (n : ℕ) (answers : List Bool) → Contains (started n answers).calls (desk.Ask true)
    → (started n answers).verdict ≡ Canceled
asks_cancel n answers (zero, inside, at) = cc
asks_cancel n answers (suc k, inside, at) = asks_cancels n answers k (omega (arith, inside)) at

-- ---- tests

pub differ : (n k : ℕ) → (n == k) ≡ false → n ≡ k → ⊥
differ n k e = not_from_Decides (n == k) (Decides-eqb n k) e

pub agree : (n k : ℕ) → (n == k) ≡ true → n ≡ k
agree n k e = (Decides-eqb n k).0 e

-- ---- rows

module _ (relations : List Relation) (answers : List Bool) (s : Talk) (g : IsServed relations s) where
  abbrev pub told : Handlers RelationStatement
  told = relation_handlers relations

  abbrev PortalIs : TablePortal RelationStatement → Type 0
  PortalIs p = IsStageOf relations (session_style s.info) p.bound p.stage

  abbrev Portals : Talk → Type 0
  Portals t = Each (λ p. IsStageOf relations (session_style t.info) p.bound p.stage) t.portals

  -- why a row with these calls is refused
  abbrev pub Why : List DeskCall → PgWireFrontendMessage → Kind → Type 0
  Why calls m kind.Cancel = Contains calls (desk.Ask true)
  Why calls m k = CauseOf k relations answers s m

  abbrev pub Explains : List DeskCall → PgWireFrontendMessage → Outcome RelationStatement → Type 0
  Explains calls m (Failed t e) = (k : Kind) × Why calls m k × IsOf k (info_of e)
  Explains calls m (Over kind) = kind ≢ end.Fatal
  Explains calls m _ = Unit {0}

  -- relations are served behind a row, and no COPY has begun
  abbrev pub Keeps : Outcome RelationStatement → Type 0
  Keeps (Done t) = IsServed relations t × (OutsideCopy s.info.state → OutsideCopy t.info.state)
  Keeps (Failed t e) = Portals t
  Keeps (Over kind) = Unit {0}
  Keeps Stopped = Unit {0}

  -- a question that was answered true cancels the query
  abbrev pub Heeds : List DeskCall → Outcome RelationStatement → Type 0
  Heeds calls o = Contains calls (desk.Ask true) → o ≡ Failed s wire.QueryCanceled

  abbrev pub EffectIs : List DeskCall → PgWireFrontendMessage → Effect RelationStatement → Type 0
  EffectIs calls m e = Quiet e.replies × Explains calls m e.outcome × Keeps e.outcome × Heeds calls e.outcome

  abbrev pub CalledIs : PgWireFrontendMessage → Called RelationStatement → Type 0
  CalledIs m c = EffectIs c.calls m c.effect

  none_asked : (o : Outcome RelationStatement) → Heeds [] o
  none_asked o at = absurd (omega (arith, at.1))

  narrow_asks_none : (b : Bool) (o : Outcome RelationStatement) → Heeds (if b then desk.Narrow ∷ [] else []) o
  narrow_asks_none true o (zero, inside, at) = cc
  narrow_asks_none true o (suc k, inside, at) = absurd (omega (arith, inside))
  narrow_asks_none false o at = none_asked o at

  start_asks_none : (o : Outcome RelationStatement) → Heeds (desk.Start ∷ []) o
  start_asks_none o (zero, inside, at) = cc
  start_asks_none o (suc k, inside, at) = absurd (omega (arith, inside))

  either_effect : (m : PgWireFrontendMessage) (b : Bool) (x y : Effect RelationStatement) → EffectIs [] m x → EffectIs [] m y
      → EffectIs [] m (if b then x else y)
  either_effect m true x y f h = f
  either_effect m false x y f h = h

  stays : (m : PgWireFrontendMessage) (replies : Replies) → Quiet replies → EffectIs [] m (says replies s)
  stays m replies quiet = (quiet, tt, (g, λ o. o), none_asked (Done s))

  ends : (m : PgWireFrontendMessage) → EffectIs [] m (record { replies = []; outcome = Over end.Terminate })
  ends m = (refl, (λ e. let f : ⊥ = cc in f), tt, none_asked (Over end.Terminate))

  refused : (m : PgWireFrontendMessage) (e : PgWireError) (k : Kind) → Why [] m k → IsOf k (info_of e) → EffectIs [] m (refuses s e)
  refused m e k why is = (refl, (k, why, is), g.portals, none_asked (Failed s e))

  -- ---- the startup phase

  module _ (q : s.info.state ≡ phase.AwaitingStartup) where
    no_portals : (t : Talk) → t.portals ≡ s.portals → Portals t
    no_portals t e name p is =
        let gone : fin.get t.portals name ≡ None = ap (λ portals. fin.get portals name) e ∙ g.startup q name in
        let none : value_under {T = TablePortal RelationStatement} None ≡ Some p = sym (ap value_under gone) ∙ is in
        let f : ⊥ = cc in absurd f

    accepts_is : (m : Startup) (version : ProtocolVersion) → CalledIs (client.Startup m) (accepts s version m)
    accepts_is m version = (
      refl,
      tt,
      (
        record { portals = no_portals (started_session s version m) refl; startup = λ e. let f : ⊥ = cc in absurd f },
        λ o. tt,
      ),
      narrow_asks_none (tells_less version s.info.secret_key) (Done (started_session s version m)),
    )

    version_is : (m : Startup) (a b : Bool) → (m.code == protocol_3_0) ≡ a → (m.code == protocol_3_2) ≡ b
        → CalledIs (client.Startup m) (if a then accepts s PROTOCOL3_0 m else if b then accepts s PROTOCOL3_2 m
        else silent (refuses s (wire.UserError (unsupported_version m.code))))
    version_is m true b e f = accepts_is m PROTOCOL3_0
    version_is m false true e f = accepts_is m PROTOCOL3_2
    version_is m false false e f = refused (client.Startup m) (wire.UserError (unsupported_version m.code)) kind.Version
        (q, (differ m.code protocol_3_0 e, differ m.code protocol_3_2 f))
        (known _ _ refl)

    cancel_is : (given : List Bool) (m : CancelRequest) → CalledIs (client.CancelRequest m) (on_cancel_request given m)
    cancel_is [] m = (refl, tt, tt, none_asked Stopped)
    cancel_is (answer ∷ given) m = (refl, (λ e. let f : ⊥ = cc in f), tt, asks_none)
      where
        asks_none : Heeds (desk.Cancel m.pid m.secret_key answer ∷ []) (Over end.CancelServed)
        asks_none (zero, inside, at) = cc
        asks_none (suc k, inside, at) = absurd (omega (arith, inside))

    encryption_quiet : (x : SslNegotiationKind) → Quiet (no_encryption x ∷ [])
    encryption_quiet encryption.PostgresSsl = refl
    encryption_quiet encryption.PostgresGss = refl

    startup_is : (m : PgWireFrontendMessage) → CalledIs m (startup_row answers s m)
    startup_is (client.SslNegotiation x) = stays (client.SslNegotiation x) (no_encryption x ∷ []) (encryption_quiet x)
    startup_is (client.CancelRequest m) = cancel_is answers m
    startup_is (client.Startup m) = version_is m (m.code == protocol_3_0) (m.code == protocol_3_2) refl refl
    startup_is m = stays m [] refl

  -- ---- behind an error, and in COPY

  started_still : (t : Talk) (x : PgWireConnectionState) → t.info.state ≡ x → (x ≡ phase.AwaitingStartup → ⊥) → Portals t
      → IsServed relations t
  started_still t x e never portals = record { portals = portals; startup = λ w. absurd (never (sym e ∙ w)) }

  synced : (m : PgWireFrontendMessage) → EffectIs [] m
      (says (ready s.info.status ∷ []) (in_phase (without_unnamed_portal s) phase.ReadyForQuery))
  synced m = (
    refl,
    tt,
    (
      started_still (in_phase (without_unnamed_portal s) phase.ReadyForQuery) phase.ReadyForQuery refl (λ e. let f : ⊥ = cc in f)
          (each_after_remove PortalIs s.portals [] g.portals),
      λ o. tt,
    ),
    none_asked (Done (in_phase (without_unnamed_portal s) phase.ReadyForQuery)),
  )

  waiting_is : (m : PgWireFrontendMessage) → EffectIs [] m (awaiting_sync_row s m)
  waiting_is (client.PgSync m) = synced (client.PgSync m)
  waiting_is (client.Terminate m) = ends (client.Terminate m)
  waiting_is m = stays m [] refl

  copy_row_is : (is_extended : Bool) → s.info.state ≡ phase.CopyInProgress is_extended → (m : PgWireFrontendMessage)
      → EffectIs [] m (copy_row told.copying is_extended s m)
  copy_row_is is_extended q (client.CopyData m) = (
    refl,
    (kind.CopyData, ((is_extended, q), tt), known _ _ refl),
    g.portals,
    none_asked _,
  )
  copy_row_is is_extended q (client.CopyDone m) = (
    refl,
    (kind.CopyData, ((is_extended, q), tt), known _ _ refl),
    g.portals,
    none_asked _,
  )
  copy_row_is is_extended q (client.CopyFail m) = (
    refl,
    (kind.CopyFail, ((is_extended, q), tt), known _ _ refl),
    g.portals,
    none_asked _,
  )
  copy_row_is is_extended q (client.Terminate m) = ends (client.Terminate m)
  copy_row_is is_extended q m = stays m [] refl

  -- ---- the server is ready

  module _ (q : IsReady s) where
    still : (t : Talk) → t.info.state ≡ phase.ReadyForQuery → Portals t
        → IsServed relations t × (OutsideCopy s.info.state → OutsideCopy t.info.state)
    still t e portals = (
      started_still t phase.ReadyForQuery e (λ e. let f : ⊥ = cc in f) portals,
      λ o. subst OutsideCopy (sym e) tt,
    )

    done : (m : PgWireFrontendMessage) (calls : List DeskCall) (replies : Replies) (t : Talk) → Quiet replies
        → t.info.state ≡ phase.ReadyForQuery
        → Portals t → Heeds calls (Done t) → EffectIs calls m (says replies t)
    done m calls replies t quiet e portals heeds = (quiet, tt, still t e portals, heeds)

    -- ---- Parse

    parse_is : (m : Parse) (b : Bool) (x : Option RelationStatement) → is_blank m.query ≡ b → meaning relations m.query ≡ x
        → EffectIs [] (client.Parse m) (parsed s m (if b then Ok None else stored m (or_unknown (trimmed m.query) x)))
    parse_is m true x e f = done (client.Parse m) [] parse_complete (with_statement s m.name entry.Empty) refl q g.portals (none_asked _)
    parse_is m false (Some means) e f = done (client.Parse m) [] parse_complete
        (with_statement s m.name (entry.Value (record { id = m.name; statement = means; parameter_types = types_of m.type_oids }))) refl q
        g.portals
        (none_asked _)
    parse_is m false None e f =
        let nothing = no_meaning relations (trimmed m.query) f in
        refused (client.Parse m) (wire.UserError (unknown_relation (trimmed m.query))) kind.Relation
        (q, (not_empty m.query e, nothing.0, nothing.1))
        (known _ _ refl)

    -- ---- Bind

    put_is : (m : PgWireFrontendMessage) (calls : List DeskCall) (replies : Replies) (name : List ℕ)
        (e : Entry (TablePortal RelationStatement))
        → ((p : TablePortal RelationStatement) → value_under (Some e) ≡ Some p → IsStageOf relations (session_style s.info) p.bound p.stage)
        → Quiet replies → Heeds calls (Done (with_portal s name e)) → EffectIs calls m (says replies (with_portal s name e))
    put_is m calls replies name e is quiet heeds = done m calls replies (with_portal s name e) quiet q
        (each_after_insert PortalIs s.portals name e is g.portals) heeds

    bound_portal_is : (m : Bind) (x : StoredStatement RelationStatement) → EffectIs [] (client.Bind m) (bound_portal s m x)
    bound_portal_is m x = put_is (client.Bind m) [] bind_complete m.portal_name (entry.Value (portal_bound m x))
        (one_value PortalIs (portal_bound m x) tt) refl (none_asked _)

    counted : (m : Bind) (x : StoredStatement RelationStatement) → fin.get s.statements m.statement_name ≡ Some (entry.Value x)
        → (fields : List Field) → length fields ≡ length (columns_of relations x.statement)
        → (a b : Bool) → nat_le 2 (length m.result_column_format_codes) ≡ a
        → nat_lt (length m.result_column_format_codes) (length fields) ≡ b
        → EffectIs [] (client.Bind m) (if a then (if b then refuses s
        (wire.UserError (too_few_codes (length m.result_column_format_codes) (length fields)))
        else bound_portal s m x) else bound_portal s m x)
    counted m x found fields same false b e f = bound_portal_is m x
    counted m x found fields same true false e f = bound_portal_is m x
    counted m x found fields same true true e f =
        let two : 2 ≤ length m.result_column_format_codes = grind (arith, nat_tests, e) in
        let few : length m.result_column_format_codes < length fields = grind (arith, nat_tests, f) in
        refused (client.Bind m) (wire.UserError (too_few_codes (length m.result_column_format_codes) (length fields))) kind.Protocol
        (q, inr (inr (x, found, two, subst (λ n. length m.result_column_format_codes < n) same few)))
        (known _ _ refl)

    empty_is : (m : Bind) → fin.get s.statements m.statement_name ≡ Some entry.Empty → (b : Bool) → is_empty_list m.parameters ≡ b
        → EffectIs [] (client.Bind m) (if b then says bind_complete (with_portal s m.portal_name entry.Empty)
        else refuses s (wire.UserError (values_for_empty (length m.parameters) m.statement_name)))
    empty_is m found true e = put_is (client.Bind m) [] bind_complete m.portal_name entry.Empty
        (none_empty PortalIs) refl (none_asked _)
    empty_is m found false e =
        refused (client.Bind m) (wire.UserError (values_for_empty (length m.parameters) m.statement_name)) kind.Protocol
        (q, inr (inl (found, λ none. let f : true ≡ false = sym (ap is_empty_list none) ∙ e in let f : ⊥ = cc in f)))
        (known _ _ refl)

    bound_is : (m : Bind) (x : Option (Entry (StoredStatement RelationStatement))) → fin.get s.statements m.statement_name ≡ x
        → EffectIs [] (client.Bind m) (bound told.extended s m x)
    bound_is m None e = refused (client.Bind m) (wire.StatementNotFound m.statement_name) kind.Statement (q, e)
        (known _ _ refl)
    bound_is m (Some entry.Empty) e = empty_is m e (is_empty_list m.parameters) refl
    bound_is m (Some (entry.Value x)) e =
        let fields = fields_of relations x.statement format.UnifiedText in
        counted m x e fields (field_count relations x.statement format.UnifiedText) (nat_le 2 (length m.result_column_format_codes))
        (nat_lt (length m.result_column_format_codes) (length fields)) refl refl

    -- ---- Describe, Close

    statement_is : (m : Describe) → m.target_type ≡ statement_target → (x : Option (Entry (StoredStatement RelationStatement)))
        → fin.get s.statements m.name ≡ x
        → EffectIs [] (client.Describe m) (described_statement told.extended s m.name x)
    statement_is m t None e = refused (client.Describe m) (wire.StatementNotFound m.name) kind.Statement (q, (t, e))
        (known _ _ refl)
    statement_is m t (Some entry.Empty) e = stays (client.Describe m) (statement_description (record { parameters = []; fields = [] })) refl
    statement_is m t (Some (entry.Value x)) e =
        stays (client.Describe m) (statement_description (statement_described relations x))
        (statement_quiet (statement_described relations x))

    portal_is : (m : Describe) → m.target_type ≡ portal_target → (x : Option (Entry (TablePortal RelationStatement)))
        → fin.get s.portals m.name ≡ x
        → EffectIs [] (client.Describe m) (described_portal told.extended s m.name x)
    portal_is m t None e = refused (client.Describe m) (wire.PortalNotFound m.name) kind.Portal (q, (t, e))
        (known _ _ refl)
    portal_is m t (Some entry.Empty) e = stays (client.Describe m) (portal_description (record { fields = [] })) refl
    portal_is m t (Some (entry.Value p)) e =
        stays (client.Describe m) (portal_description (portal_described relations p.bound))
        (portal_quiet (portal_described relations p.bound))

    describe_is : (m : Describe) (a b : Bool) → (m.target_type == statement_target) ≡ a → (m.target_type == portal_target) ≡ b
        → EffectIs [] (client.Describe m) (if a then described_statement told.extended s m.name (fin.get s.statements m.name)
        else if b then described_portal told.extended s m.name (fin.get s.portals m.name)
        else refuses s (wire.InvalidTargetType m.target_type))
    describe_is m true b e f = statement_is m (agree m.target_type statement_target e) (fin.get s.statements m.name) refl
    describe_is m false true e f = portal_is m (agree m.target_type portal_target f) (fin.get s.portals m.name) refl
    describe_is m false false e f = refused (client.Describe m) (wire.InvalidTargetType m.target_type) kind.Protocol
        (q, inl (differ m.target_type statement_target e, differ m.target_type portal_target f))
        (known _ _ refl)

    close_is : (m : Close) (a b : Bool)
        → EffectIs [] (client.Close m) (says (server.CloseComplete (record {}) ∷ [])
        (if a then without_statement s m.name else if b then without_portal s m.name else s))
    close_is m true b = done (client.Close m) [] (server.CloseComplete (record {}) ∷ []) (without_statement s m.name) refl q g.portals
        (none_asked _)
    close_is m false true = done (client.Close m) [] (server.CloseComplete (record {}) ∷ []) (without_portal s m.name) refl q
        (each_after_remove PortalIs s.portals m.name g.portals) (none_asked _)
    close_is m false false = stays (client.Close m) (server.CloseComplete (record {}) ∷ []) refl

    statement_row_is : (m : PgWireFrontendMessage) → EffectIs [] m (statement_row told.extended s m)
    statement_row_is (client.Parse m) = parse_is m (is_blank m.query) (meaning relations m.query) refl refl
    statement_row_is (client.Bind m) = bound_is m (fin.get s.statements m.statement_name) refl
    statement_row_is (client.Describe m) = describe_is m (m.target_type == statement_target) (m.target_type == portal_target) refl refl
    statement_row_is (client.Close m) = close_is m (m.target_type == statement_target) (m.target_type == portal_target)
    statement_row_is (client.PgSync m) = synced (client.PgSync m)
    statement_row_is (client.Terminate m) = ends (client.Terminate m)
    statement_row_is m = stays m [] refl

    -- ---- Execute

    module _ (m : Execute) (p : TablePortal RelationStatement) (found : fin.get s.portals m.name ≡ Some (entry.Value p)) where
      abbrev made : ℕ → List Interval → RowItem
      made place = row_item (session_style s.info) (column_formats p.bound.result_column_format (relation_at relations place).columns)

      rest_is : (r : ToldRows) → IsRest relations (session_style s.info) p.bound r → (left : List RowItem)
          → (k : ℕ) × (left ≡ drop k r.items) → IsRest relations (session_style s.info) p.bound (with_items r left)
      rest_is r h left (k, e) = record {
        place = h.place;
        means = h.means;
        items = subst (λ (items : List RowItem). items ≡ map (made h.place) (last_rows (relation_at relations h.place).rows items)) (sym e)
            (still_last (made h.place) (relation_at relations h.place).rows r.items k h.items);
      }

      paged : (calls : List DeskCall) (replies : Replies) (stage : Stage) → IsStageOf relations (session_style s.info) p.bound stage
          → Quiet replies
          → Heeds calls (Done (with_portal s m.name (entry.Value (at_stage p stage))))
          → EffectIs calls (client.Execute m) (says replies (with_portal s m.name (entry.Value (at_stage p stage))))
      paged calls replies stage is quiet heeds = put_is (client.Execute m) calls replies m.name (entry.Value (at_stage p stage))
          (one_value PortalIs (at_stage p stage) is) quiet heeds

      page_is : (calls : List DeskCall) (r : ToldRows) (delivered : ℕ) (h : IsRest relations (session_style s.info) p.bound r)
          → CanCome relations answers h.place p.stage
          → rows_to_come (relation_at relations h.place).rows p.stage ≡ last_rows (relation_at relations h.place).rows r.items
          → ((o : Outcome RelationStatement) → Heeds calls o) → (ending : PageEnd DataRow) → (item_page m.max_rows r.items).ending ≡ ending
          → EffectIs calls (client.Execute m)
          (page_effect (with_portal s m.name (entry.Value
          (at_stage p (stage_after r delivered (item_page m.max_rows r.items).rows ending)))) r.command_tag
          (delivered_after delivered (length (item_page m.max_rows r.items).rows)) (item_page m.max_rows r.items).rows ending)
      page_is calls r delivered h came same heeds (AtLimit left) e =
          paged calls (row_replies (item_page m.max_rows r.items).rows ++ server.PortalSuspended (record {}) ∷ [])
          (Started (with_items r left) (delivered_after delivered (length (item_page m.max_rows r.items).rows)))
          (rest_is r h left (left_by_page m.max_rows r.items left e))
          (quiet_append (row_replies (item_page m.max_rows r.items).rows) (server.PortalSuspended (record {}) ∷ [])
          (rows_quiet (item_page m.max_rows r.items).rows) refl) (heeds _)
      page_is calls r delivered h came same heeds AtEnd e = paged calls
          (row_replies (item_page m.max_rows r.items).rows
          ++ done_with r.command_tag (delivered_after delivered (length (item_page m.max_rows r.items).rows)) ∷ [])
          (Ended (delivered_after delivered (length (item_page m.max_rows r.items).rows))) tt
          (quiet_append (row_replies (item_page m.max_rows r.items).rows)
          (done_with r.command_tag (delivered_after delivered (length (item_page m.max_rows r.items).rows)) ∷ [])
          (rows_quiet (item_page m.max_rows r.items).rows) refl) (heeds _)
      page_is calls r delivered h came same heeds (AtError w left) e =
          let rows = last_rows (relation_at relations h.place).rows r.items in
          let formats = column_formats p.bound.result_column_format (relation_at relations h.place).columns in
          let met = page_met (made h.place) m.max_rows rows w left
          (subst (λ (items : List RowItem). (item_page m.max_rows items).ending ≡ AtError w left) h.items e) in
          let why = row_refused (style_text s.info) (interval_style_of (style_text s.info)) formats met.0 w met.2 in
          let at : Contains (page m.max_rows (rows_to_come (relation_at relations h.place).rows p.stage)).rows met.0 =
          subst (λ (l : List (List Interval)). Contains (page m.max_rows l).rows met.0) (sym same) met.1 in
          let t : Talk = with_portal s m.name (entry.Value (at_stage p (Started (with_items r left) delivered))) in
          let is : IsOf kind.Style (info_of w) = subst (λ (w : PgWireError). IsOf kind.Style (info_of w)) (sym why.0.tells)
          (known _ _ refl) in (
            refl,
            (kind.Style, (q, why.0.no_style, (p, h.place, found, (h.means, came, (met.0, at, why.1)))), is),
            each_after_insert PortalIs s.portals m.name _
                (one_value PortalIs (at_stage p (Started (with_items r left) delivered))
                (rest_is r h left (left_by_error m.max_rows r.items w left e))) g.portals,
            heeds (Failed t w),
          )

      fetched_is : (calls : List DeskCall) (r : ToldRows) (delivered : ℕ) (h : IsRest relations (session_style s.info) p.bound r)
          → CanCome relations answers h.place p.stage
          → rows_to_come (relation_at relations h.place).rows p.stage ≡ last_rows (relation_at relations h.place).rows r.items
          → ((o : Outcome RelationStatement) → Heeds calls o) → EffectIs calls (client.Execute m) (fetched s m p r delivered)
      fetched_is calls r delivered h came same heeds =
          page_is calls r delivered h came same heeds (item_page m.max_rows r.items).ending refl

      -- the whole response of a relation is a rest
      abbrev whole_rest : (place : ℕ) → p.bound.statement.statement ≡ statement.Relation place → (r : ToldRows)
          → r.items ≡ map (made place) (relation_at relations place).rows → IsRest relations (session_style s.info) p.bound r
      whole_rest place means r e = record {
        place = place;
        means = means;
        items = e ∙ ap (map (made place)) (sym (all_are_last (made place) (relation_at relations place).rows)
            ∙ ap (last_rows (relation_at relations place).rows) (sym e));
      }

      passed_asks_none : (place : ℕ) → (started (relation_at relations place).unready answers).verdict ≡ Passed
          → (o : Outcome RelationStatement)
          → Heeds (started (relation_at relations place).unready answers).calls o
      passed_asks_none place e o at = let canceled = asks_cancel (relation_at relations place).unready answers at in
          let f : Passed ≡ Canceled = sym e ∙ canceled in let f : ⊥ = cc in absurd f

      polled_is : p.stage ≡ Unstarted → (place : ℕ) → p.bound.statement.statement ≡ statement.Relation place → (v : Verdict)
          → (started (relation_at relations place).unready answers).verdict ≡ v
          → EffectIs (started (relation_at relations place).unready answers).calls (client.Execute m)
          (execute_polled s m p v (Ok (rows_response s.info p.bound.result_column_format (relation_at relations place))))
      polled_is stage place means Unanswered e = (
        refl,
        tt,
        tt,
        λ at. let f : Unanswered ≡ Canceled = sym e ∙ asks_cancel (relation_at relations place).unready answers at in
            let f : ⊥ = cc in absurd f,
      )
      polled_is stage place means Canceled e = (
        refl,
        (
          kind.Cancel,
          started_asks (relation_at relations place).unready answers e,
          known _ _ refl,
        ),
        g.portals,
        λ at. refl,
      )
      polled_is stage place means Passed e =
          let r : ToldRows = record {
            command_tag = codes "SELECT";
            fields = columns_in p.bound.result_column_format (relation_at relations place).columns;
            items = map (made place) (relation_at relations place).rows;
          } in
          let came : CanCome relations answers place p.stage = subst (CanCome relations answers place) (sym stage) e in
          let same : rows_to_come (relation_at relations place).rows p.stage ≡ last_rows (relation_at relations place).rows r.items =
          ap (rows_to_come (relation_at relations place).rows) stage ∙ sym (all_are_last (made place) (relation_at relations place).rows) in
          fetched_is (started (relation_at relations place).unready answers).calls r 0 (whole_rest place means r refl) came same
          (passed_asks_none place e)

      unstarted_is : p.stage ≡ Unstarted → (means : RelationStatement) → p.bound.statement.statement ≡ means
          → CalledIs (client.Execute m) (execute_run answers s m p (query_of relations s.info p.bound.result_column_format means))
      unstarted_is stage statement.Begin means = (
        refl,
        tt,
        still (with_status s (to_in_transaction_state s.info.status)) q g.portals,
        start_asks_none _,
      )
      unstarted_is stage statement.Commit means = (
        refl,
        tt,
        still (with_status (without_unnamed_portal s) status.Idle) q
            (each_after_remove PortalIs s.portals [] g.portals),
        start_asks_none _,
      )
      unstarted_is stage (statement.Relation place) means =
          polled_is stage place means (started (relation_at relations place).unready answers).verdict refl

      staged_is : (stage : Stage) → p.stage ≡ stage → CalledIs (client.Execute m) (executed_portal told.extended answers s m p stage)
      staged_is Unstarted e = unstarted_is e p.bound.statement.statement refl
      staged_is (Started r delivered) e =
          let h : IsRest relations (session_style s.info) p.bound r =
          subst (IsStageOf relations (session_style s.info) p.bound) e (g.portals m.name p (ap value_under found)) in
          fetched_is [] r delivered h (subst (CanCome relations answers h.place) (sym e) tt)
          (ap (rows_to_come (relation_at relations h.place).rows) e)
          (λ o. none_asked o)
      staged_is (Ended delivered) e = stays (client.Execute m) (done_with (codes "SELECT") delivered ∷ []) refl

    execute_is : (m : Execute) (x : Option (Entry (TablePortal RelationStatement))) → fin.get s.portals m.name ≡ x
        → CalledIs (client.Execute m) (executed_entry told.extended answers s m x)
    execute_is m None e = refused (client.Execute m) (wire.PortalNotFound m.name) kind.Portal (q, e)
        (known _ _ refl)
    execute_is m (Some entry.Empty) e = stays (client.Execute m) (server.EmptyQueryResponse (record {}) ∷ []) refl
    execute_is m (Some (entry.Value p)) e = staged_is m p e p.stage refl

    -- ---- Query

    module _ (m : Query) (nonblank : is_blank m.query ≡ false) where
      -- a query of no relation
      unknown_is : (name : List ℕ) → meaning relations m.query ≡ None
          → (IsCopyOfRelation relations (trimmed m.query) → ⊥)
          → CalledIs (client.Query m) (query_run answers s (refused_query name))
      unknown_is name means no_copy =
          let nothing = no_meaning relations (trimmed m.query) means in (
            refl,
            (
              kind.Relation,
              (q, ((not_empty m.query nonblank, nothing.0, nothing.1), no_copy)),
              known _ _ refl,
            ),
            g.portals,
            start_asks_none _,
          )

      -- what a query of a relation comes to, by its verdict
      judged_is : (place : ℕ) (outcome : List ToldResponse) (v : Verdict)
          → (started (relation_at relations place).unready answers).verdict ≡ v
          → (v ≡ Passed → (((o : Outcome RelationStatement) → Heeds (started (relation_at relations place).unready answers).calls o)
          → EffectIs (started (relation_at relations place).unready answers).calls (client.Query m) (answered_all s outcome)))
          → EffectIs (started (relation_at relations place).unready answers).calls (client.Query m) (query_polled s v (Ok outcome))
      judged_is place outcome Unanswered e passed = (
        refl,
        tt,
        tt,
        λ at. let f : Unanswered ≡ Canceled = sym e ∙ asks_cancel (relation_at relations place).unready answers at in
            let f : ⊥ = cc in absurd f,
      )
      judged_is place outcome Canceled e passed = (
        refl,
        (
          kind.Cancel,
          started_asks (relation_at relations place).unready answers e,
          known _ _ refl,
        ),
        g.portals,
        λ at. refl,
      )
      judged_is place outcome Passed e passed = passed refl (λ o at.
          let f : Passed ≡ Canceled = sym e ∙ asks_cancel (relation_at relations place).unready answers at in
          let f : ⊥ = cc in absurd f)

      style_is : IsOf kind.Style (info_of (wire.InvalidOptionValue (style_text s.info)))
      style_is = known _ _ refl

      -- one response, which an error may have cut short
      abbrev one_answer : {B : Type 0} → Replies → Replies → Option (PgWireError × B) → Effect RelationStatement
      one_answer front others x =
          let first = unless_error s.info.status false front others x in
          let all = followed first first.refusal (sent first.status []) in
          answered s all all.refusal

      one_is : {B : Type 0} (calls : List DeskCall) (front others : Replies) → Quiet front → Quiet others → (x : Option (PgWireError × B))
          → ((w : PgWireError) (left : B) → x ≡ Some (w, left) → (k : Kind) × Why calls (client.Query m) k × IsOf k (info_of w))
          → ((o : Outcome RelationStatement) → Heeds calls o) → EffectIs calls (client.Query m) (one_answer front others x)
      one_is calls front others a b None why heeds =
          done (client.Query m) calls (((front ++ others) ++ []) ++ ready s.info.status ∷ []) (with_status s s.info.status)
          (quiet_append ((front ++ others) ++ []) (ready s.info.status ∷ [])
          (quiet_append (front ++ others) [] (quiet_append front others a b) refl) refl)
          q g.portals (heeds _)
      one_is calls front others a b (Some (w, left)) why heeds = (a, why w left refl, g.portals, heeds (Failed s w))

      rows_are : (place : ℕ) → meaning relations m.query ≡ Some (statement.Relation place) → IsPassed relations answers place
          → ((o : Outcome RelationStatement) → Heeds (started (relation_at relations place).unready answers).calls o)
          → EffectIs (started (relation_at relations place).unready answers).calls (client.Query m)
          (answered_all s (rows_response s.info format.UnifiedText (relation_at relations place) ∷ []))
      rows_are place means passed heeds =
          let r = relation_at relations place in
          let formats = column_formats format.UnifiedText r.columns in
          let made = row_item (session_style s.info) formats in
          let items = map made r.rows in
          one_is (started r.unready answers).calls (row_description (columns_in format.UnifiedText r.columns) ∷ []
          ++ row_replies (before_error items))
          (done_with (codes "SELECT") (length (before_error items)) ∷ []) (rows_quiet (before_error items)) refl (first_error items)
          (λ w left e.
          let met = first_of_rows made r.rows w left e in
          let why = row_refused (style_text s.info) (interval_style_of (style_text s.info)) formats met.0 w met.2 in (
            kind.Style,
            (
              q,
              why.0.no_style,
              (place, (not_empty m.query nonblank, passed, inl (means, (met.0, met.1, why.1)))),
            ),
            subst (λ (w : PgWireError). IsOf kind.Style (info_of w)) (sym why.0.tells) style_is,
          )) heeds

      copy_is : (name : List ℕ) (place : ℕ) → meaning relations m.query ≡ None → copied_name (words (trimmed m.query)) ≡ Some name
          → place_of relations name ≡ Some place → IsPassed relations answers place
          → ((o : Outcome RelationStatement) → Heeds (started (relation_at relations place).unready answers).calls o)
          → EffectIs (started (relation_at relations place).unready answers).calls (client.Query m)
          (answered_all s (copy_response s.info (relation_at relations place) ∷ []))
      copy_is name place means copies named passed heeds =
          let r = relation_at relations place in
          let made = line_item (session_style s.info) in
          let items = map made r.rows in
          let copied = not_empty_data (before_error items) in
          let c : ToldCopy = record { format = pos 0; columns = length r.columns; items = items; trailer_left = false } in
          one_is (started r.unready answers).calls (copy_out_reply c ∷ copy_replies copied) (copy_end (copy_count copied))
          (copied_quiet copied) refl
          (first_error items)
          (λ w left e.
          let met = first_of_rows made r.rows w left e in
          let why = line_refused (style_text s.info) (interval_style_of (style_text s.info)) met.0 w met.2 in (
            kind.Style,
            (
              q,
              why.0.no_style,
              (
                place,
                (
                  not_empty m.query nonblank,
                  passed,
                  inr (means, (name, copies, named), (met.0, met.1, why.1)),
                ),
              ),
            ),
            subst (λ (w : PgWireError). IsOf kind.Style (info_of w)) (sym why.0.tells) style_is,
          )) heeds

      copied_is : meaning relations m.query ≡ None → (name : List ℕ) → copied_name (words (trimmed m.query)) ≡ Some name → (x : Option ℕ)
          → place_of relations name ≡ x → CalledIs (client.Query m) (query_run answers s (copy_of relations s.info name x))
      copied_is means name copies None e = unknown_is name means
          (λ c. let same : Some c.0 ≡ Some name = sym c.1 ∙ copies in
          let is : c.0 ≡ name = cc in no_relation relations name e (subst (IsRelationName relations) is c.2))
      copied_is means name copies (Some place) e =
          let r = relation_at relations place in
          judged_is place (copy_response s.info r ∷ []) (started r.unready answers).verdict refl
          (λ passed heeds. copy_is name place means copies e passed heeds)

      no_meaning_is : meaning relations m.query ≡ None → (x : Option (List ℕ)) → copied_name (words (trimmed m.query)) ≡ x
          → CalledIs (client.Query m) (query_run answers s (copy_or_unknown relations s.info (trimmed m.query) x))
      no_meaning_is means None e = unknown_is (trimmed m.query) means (λ c. let f : None ≡ Some c.0 = sym e ∙ c.1 in let f : ⊥ = cc in f)
      no_meaning_is means (Some name) e = copied_is means name e (place_of relations name) refl

      meaning_is : (x : Option RelationStatement) → meaning relations m.query ≡ x
          → CalledIs (client.Query m) (query_run answers s (simple_of relations s.info (trimmed m.query) x))
      meaning_is None e = no_meaning_is e (copied_name (words (trimmed m.query))) refl
      meaning_is (Some statement.Begin) e =
          (refl, tt, still (with_status s (to_in_transaction_state s.info.status)) q g.portals, start_asks_none _)
      meaning_is (Some statement.Commit) e = (refl, tt, still (with_status s status.Idle) q g.portals, start_asks_none _)
      meaning_is (Some (statement.Relation place)) e =
          let r = relation_at relations place in
          judged_is place (rows_response s.info format.UnifiedText r ∷ []) (started r.unready answers).verdict refl
          (λ passed heeds. rows_are place e passed heeds)

    query_is : (m : Query) (b : Bool) → is_blank m.query ≡ b
        → CalledIs (client.Query m) (if b then silent (says (server.EmptyQueryResponse (record {}) ∷ ready s.info.status ∷ []) s)
        else query_run answers s (told.simple s.info m.query))
    query_is m true e = stays (client.Query m) (server.EmptyQueryResponse (record {}) ∷ ready s.info.status ∷ []) refl
    query_is m false e = meaning_is m e (meaning relations m.query) refl

    ready_is : (m : PgWireFrontendMessage) → CalledIs m (ready_row told answers s m)
    ready_is (client.Query m) = query_is m (is_blank m.query) refl
    ready_is (client.Execute m) = execute_is m (fin.get s.portals m.name) refl
    ready_is m = statement_row_is m

  -- ---- each phase

  phase_is : (m : PgWireFrontendMessage) (x : PgWireConnectionState) → s.info.state ≡ x → CalledIs m (row told answers s m x)
  phase_is m phase.AwaitingStartup q = startup_is q m
  phase_is m phase.ReadyForQuery q = ready_is q m
  phase_is m phase.AwaitingSync q = waiting_is m
  phase_is m (phase.CopyInProgress is_extended) q = copy_row_is is_extended q m

  pub row_is : (m : PgWireFrontendMessage) → CalledIs m (message_row told answers s m)
  row_is m = phase_is m s.info.state refl
