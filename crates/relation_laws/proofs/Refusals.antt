-- Each cause refuses its message with its error, and each error that is told has its cause.
use Rattle.std.proofs.Common.{arith, ◌≡◌, ◌≢◌, ◌∙◌, ◌==◌, ◌++◌, ◌≤◌, ◌<◌, ◌⊎◌, inl, inr, ℕ, zero, suc, Bool, true, false, if◌then◌else◌, List, [], ◌∷◌, Option, Some, None, Ok, Err, nat_le, nat_lt, map, zip, length, pos, codes, bytes_eq, refl, sym, ap, subst}
use Rattle.std.proofs.Math.Path.{ap₂}
use Rattle.std.proofs.lemmas.Bool.Decides.{nat_tests}
use Rattle.std.specs.List.{Contains}
use Rattle.std.specs.FinMap as fin
use Rattle.pg_interval.specs.declared.pg_interval.Interval.{Interval}
use Rattle.pg_messages.specs.declared.response.ErrorInfo.{ErrorInfo}
use Rattle.pg_messages.specs.declared.startup.Startup.{Startup}
use Rattle.pg_messages.specs.declared.simplequery.Query.{Query}
use Rattle.pg_messages.specs.declared.extendedquery.Bind.{Bind}
use Rattle.pg_messages.specs.declared.extendedquery.Describe.{Describe}
use Rattle.pg_messages.specs.declared.extendedquery.Execute.{Execute}
use Rattle.pg_messages.specs.declared.codec.ProtocolVersion.TheVariants.{PROTOCOL3_0, PROTOCOL3_2}
use Rattle.pg_messages.specs.declared.frontend.PgWireFrontendMessage.{PgWireFrontendMessage}
use Rattle.pg_messages.specs.declared.frontend.PgWireFrontendMessage.TheVariants as client
use Rattle.pg_types.specs.declared.field_format.FieldFormat.{FieldFormat}
use Rattle.pg_types.specs.declared.field_format.FieldFormat.TheVariants as field
use Rattle.pg_text.specs.Words.{interval_style_of}
use Rattle.pg_results.specs.declared.client.PgWireConnectionState.{PgWireConnectionState}
use Rattle.pg_results.specs.declared.client.PgWireConnectionState.TheVariants as phase
use Rattle.pg_results.specs.declared.error.PgWireError.{PgWireError}
use Rattle.pg_results.specs.declared.error.PgWireError.TheVariants as wire
use Rattle.pg_results.specs.declared.format.Format.TheVariants as format
use Rattle.pg_results.specs.declared.stmt.StoredStatement.{StoredStatement}
use Rattle.pg_portal.specs.declared.store.Entry.TheVariants as entry
use Rattle.pg_results.specs.Describing.{is_empty_list}
use Rattle.pg_results.specs.Errors.{info_of}
use Rattle.pg_results.specs.Fields.{Field}
use Rattle.pg_portal.specs.Fetching.{stage_after}
use Rattle.pg_results.specs.Page.{AtError, delivered_after, item_page, page, before_error, first_error}
use Rattle.pg_results.specs.Responses.{ToldCopy}
use Rattle.pg_results.specs.Rows.{RowItem}
use Rattle.pg_results.specs.Statements.{stored}
use Rattle.pg_results.specs.Texts.{is_blank}
use Rattle.pg_results.specs.Told.{ToldRows}
use Rattle.pg_portal.specs.Told.{TablePortal, Stage, Unstarted, Started, Ended, value_under}
use Rattle.pg_client.specs.declared.desk.DeskCall.{DeskCall}
use Rattle.pg_client.specs.declared.desk.DeskCall.TheVariants as desk
use Rattle.pg_client.specs.declared.ends.EndKind.TheVariants as end
use Rattle.pg_client.specs.Answer.{Answer, Goes, Ends}
use Rattle.pg_client.specs.Effect.{Effect, Called, Scope, UntilSync, AnswersReady, Outcome, Done, Failed, Over, Stopped, says, refuses, silent, settled, after_error}
use Rattle.pg_client.specs.Errors.{is_fatal, unsupported_version, too_few_codes, values_for_empty}
use Rattle.conversation_table.specs.ExecuteRow.{at_stage, page_effect, fetched, execute_polled, execute_run, executed_portal, executed_entry}
use Rattle.conversation_table.specs.ExtendedRows.{bind_complete, parsed, bound_portal, bound, described_statement, described_portal}
use Rattle.conversation_table.specs.Handlers.{Handlers}
use Rattle.pg_messages.specs.declared.backend.PgWireBackendMessage.TheVariants as server
use Rattle.pg_messages.specs.Frames.{protocol_3_0, protocol_3_2, statement_target, portal_target}
use Rattle.pg_replies.specs.Replies.{Replies, error_reply, ready, row_description, row_replies, done_with}
use Rattle.pg_replies.specs.ResponseRows.{sent, unless_error, copy_out_reply, copy_replies, copy_count, copy_end, not_empty}
use Rattle.conversation_table.specs.SimpleRows.{followed, answered, query_polled, query_run}
use Rattle.pg_client.specs.StartupRows.{accepts}
use Rattle.pg_client.specs.State.{with_portal}
use Rattle.conversation_table.specs.Table.{ready_row, row, message_row, scope_in}
use Rattle.relation_tables.specs.declared.Relation.{Relation}
use Rattle.relation_tables.specs.declared.RelationStatement.{RelationStatement}
use Rattle.relation_tables.specs.declared.RelationStatement.TheVariants as statement
use Rattle.relation_tables.specs.Errors.{unknown_relation}
use Rattle.relation_tables.specs.Queries.{trimmed, words, copied_name}
use Rattle.relation_tables.specs.Relations.{relation_at, columns_of, place_of, meaning}
use Rattle.relation_tables.specs.RelationHandler.{style_text, session_style, or_refused, row_item, line_item, column_formats, fields_of, or_unknown, query_of, simple_of, copy_of, copy_or_unknown, copy_response, rows_response, columns_in, relation_handlers}
use Rattle.relation_tables.proofs.Meanings.{field_count}
use Rattle.relation_laws.specs.Told.{errors_among, TellsCode, told_codes}
use Rattle.relation_laws.specs.Causes.{answer, IsOtherVersion, LacksStatement, LacksPortal, DescribesNeither, GivesValuesToEmpty, GivesTooFewCodes, IsCopyOfRelation, HasUnknownText, HasNoStyle, IsPassed, HasTextCell, HasCell, CanCome, last_rows, rows_to_come, QueryHasText, MeetsTextCell, IsCopyFail, IsCopyData, AsksOtherVersion, SendsCopy}
use Rattle.relation_laws.specs.Served.{IsStageOf, IsServed, IsToldExactlyWhere}
use Rattle.relation_laws.proofs.ErrorKinds as kind
use Rattle.relation_laws.proofs.ErrorKinds.{Kind, IsOf, CauseOf, known, severity_of, code_of, same_kind, is_fatal_kind}
use Rattle.relation_laws.proofs.Texts.{not_blank, means_nothing, relation_named}
use Rattle.relation_laws.proofs.Items.{rows_have_first, first_of_rows, page_met, page_meets, page_within}
use Rattle.relation_laws.proofs.Cells.{row_refused, row_refuses, line_refused, line_refuses}
use Rattle.relation_laws.proofs.Rows.{Talk, Quiet, errors_append, Explains, Why, row_is, agree}

-- ---- what an outcome is answered

abbrev pub errors_of : Outcome RelationStatement → List ErrorInfo
errors_of (Failed t e) = info_of e ∷ []
errors_of _ = []

after_quiet : (scope : Scope) (t : Talk) → Quiet (after_error scope t).0
after_quiet UntilSync t = refl
after_quiet AnswersReady t = refl

abbrev failed_by : Bool → Replies → Replies → List DeskCall → Talk → ErrorInfo → Answer Talk
failed_by b replies after calls t info =
    if b then (record { replies = replies ++ error_reply info ∷ []; calls = calls; next = Ends end.Fatal })
    else (record { replies = replies ++ error_reply info ∷ after; calls = calls; next = Goes t })

failed_errors : (b : Bool) (replies after : Replies) (calls : List DeskCall) (t : Talk) (info : ErrorInfo) → Quiet replies → Quiet after
    → errors_among (failed_by b replies after calls t info).replies ≡ info ∷ []
failed_errors true replies after calls t info h k = errors_append replies (error_reply info ∷ []) ∙ ap (λ x. x ++ info ∷ []) h
failed_errors false replies after calls t info h k = errors_append replies (error_reply info ∷ after) ∙ ap₂ (λ x y. x ++ info ∷ y) h k

pub settled_errors : (scope : Scope) (replies : Replies) (calls : List DeskCall) (o : Outcome RelationStatement) → Quiet replies
    → errors_among (settled scope replies calls o).replies ≡ errors_of o
settled_errors scope replies calls (Done t) h = h
settled_errors scope replies calls (Failed t e) h =
    failed_errors (is_fatal (info_of e)) replies (after_error scope t).0 calls (after_error scope t).1 (info_of e) h (after_quiet scope t)
settled_errors scope replies calls (Over kind) h = h
settled_errors scope replies calls Stopped h = h

failed_calls : (b : Bool) (replies after : Replies) (calls : List DeskCall) (t : Talk) (info : ErrorInfo)
    → (failed_by b replies after calls t info).calls ≡ calls
failed_calls true replies after calls t info = refl
failed_calls false replies after calls t info = refl

settled_calls : (scope : Scope) (replies : Replies) (calls : List DeskCall) (o : Outcome RelationStatement)
    → (settled scope replies calls o).calls ≡ calls
settled_calls scope replies calls (Done t) = refl
settled_calls scope replies calls (Failed t e) =
    failed_calls (is_fatal (info_of e)) replies (after_error scope t).0 calls (after_error scope t).1 (info_of e)
settled_calls scope replies calls (Over kind) = refl
settled_calls scope replies calls Stopped = refl

failed_fatal : (b : Bool) (replies after : Replies) (calls : List DeskCall) (t : Talk) (info : ErrorInfo)
    → (failed_by b replies after calls t info).next ≡ Ends end.Fatal → b ≡ true
failed_fatal true replies after calls t info e = refl
failed_fatal false replies after calls t info e = cc

-- an outcome that is answered by the end Fatal
abbrev FailsFatal : Outcome RelationStatement → Type 0
FailsFatal (Failed t e) = is_fatal (info_of e) ≡ true
FailsFatal (Over kind) = kind ≡ end.Fatal
FailsFatal _ = ⊥

settled_fatal : (scope : Scope) (replies : Replies) (calls : List DeskCall) (o : Outcome RelationStatement)
    → (settled scope replies calls o).next ≡ Ends end.Fatal → FailsFatal o
settled_fatal scope replies calls (Done t) e = cc
settled_fatal scope replies calls (Failed t w) e =
    failed_fatal (is_fatal (info_of w)) replies (after_error scope t).0 calls (after_error scope t).1 (info_of w) e
settled_fatal scope replies calls (Over kind) e = cc
settled_fatal scope replies calls Stopped e = cc

fatal_settled : (scope : Scope) (replies : Replies) (calls : List DeskCall) (t : Talk) (w : PgWireError) → is_fatal (info_of w) ≡ true
    → (settled scope replies calls (Failed t w)).next ≡ Ends end.Fatal
fatal_settled scope replies calls t w e =
    ap (λ b. (failed_by b replies (after_error scope t).0 calls (after_error scope t).1 (info_of w)).next) e

kind_fatal : (k : Kind) → bytes_eq (severity_of k) (codes "FATAL") ≡ is_fatal_kind k
kind_fatal kind.Version = refl
kind_fatal kind.CopyData = refl
kind_fatal kind.Statement = refl
kind_fatal kind.Portal = refl
kind_fatal kind.Protocol = refl
kind_fatal kind.Relation = refl
kind_fatal kind.Cancel = refl
kind_fatal kind.Style = refl
kind_fatal kind.CopyFail = refl

is_fatal_of : (k : Kind) (info : ErrorInfo) → IsOf k info → is_fatal info ≡ is_fatal_kind k
is_fatal_of k info is = ap (λ x. bytes_eq x (codes "FATAL")) is.severity ∙ kind_fatal k

not_empty_list : {A : Type 0} (xs : List A) → (xs ≡ [] → ⊥) → is_empty_list xs ≡ false
not_empty_list [] ne = absurd (ne refl)
not_empty_list (x ∷ xs) ne = refl

-- refused with an error of this kind
abbrev pub Refused : Kind → Outcome RelationStatement → Type 0
Refused k o = (t : Talk) × (e : PgWireError) × (o ≡ Failed t e) × IsOf k (info_of e)

module _ (relations : List Relation) (answers : List Bool) (s : Talk) (g : IsServed relations s) where
  abbrev told : Handlers RelationStatement
  told = relation_handlers relations

  -- ---- each cause

  version_refused : (m : Startup) → (m.code ≢ protocol_3_0) → (m.code ≢ protocol_3_2) → (a b : Bool) → (m.code == protocol_3_0) ≡ a
      → (m.code == protocol_3_2) ≡ b
      → Refused kind.Version (if a then accepts s PROTOCOL3_0 m else if b then accepts s PROTOCOL3_2 m
      else silent (refuses s (wire.UserError (unsupported_version m.code)))).effect.outcome
  version_refused m not_first never true b e f = absurd (not_first (agree m.code protocol_3_0 e))
  version_refused m not_first never false true e f = absurd (never (agree m.code protocol_3_2 f))
  version_refused m not_first never false false e f = (s, _, refl, known _ _ refl)

  other_version : (m : PgWireFrontendMessage) → IsOtherVersion m
      → Refused kind.Version (row told answers s m phase.AwaitingStartup).effect.outcome
  other_version (client.Startup m) h = version_refused m h.0 h.1 (m.code == protocol_3_0) (m.code == protocol_3_2) refl refl
  other_version _ h = absurd h

  no_statement : (m : PgWireFrontendMessage) → LacksStatement s m → Refused kind.Statement (ready_row told answers s m).effect.outcome
  no_statement (client.Bind m) lacks = (
    s,
    wire.StatementNotFound m.statement_name,
    ap (λ x. (bound told.extended s m x).outcome) lacks,
    known _ _ refl,
  )
  no_statement (client.Describe m) lacks = (
    s,
    wire.StatementNotFound m.name,
    ap (λ a. (if a then described_statement told.extended s m.name (fin.get s.statements m.name)
        else if m.target_type == portal_target then described_portal told.extended s m.name (fin.get s.portals m.name)
        else refuses s (wire.InvalidTargetType m.target_type)).outcome) (ap (λ n. n == statement_target) lacks.0)
        ∙ ap (λ x. (described_statement told.extended s m.name x).outcome) lacks.1,
    known _ _ refl,
  )
  no_statement _ lacks = absurd lacks

  no_portal : (m : PgWireFrontendMessage) → LacksPortal s m → Refused kind.Portal (ready_row told answers s m).effect.outcome
  no_portal (client.Execute m) lacks = (
    s,
    wire.PortalNotFound m.name,
    ap (λ x. (executed_entry told.extended answers s m x).effect.outcome) lacks,
    known _ _ refl,
  )
  no_portal (client.Describe m) lacks = (
    s,
    wire.PortalNotFound m.name,
    ap (λ a. (if a then described_statement told.extended s m.name (fin.get s.statements m.name)
        else if m.target_type == portal_target then described_portal told.extended s m.name (fin.get s.portals m.name)
        else refuses s (wire.InvalidTargetType m.target_type)).outcome) (ap (λ n. n == statement_target) lacks.0)
        ∙ ap (λ a. (if a then described_portal told.extended s m.name (fin.get s.portals m.name)
        else refuses s (wire.InvalidTargetType m.target_type)).outcome) (ap (λ n. n == portal_target) lacks.0)
        ∙ ap (λ x. (described_portal told.extended s m.name x).outcome) lacks.1,
    known _ _ refl,
  )
  no_portal _ lacks = absurd lacks

  neither : (m : Describe) → (m.target_type ≢ statement_target) → (m.target_type ≢ portal_target) → (a b : Bool)
      → (m.target_type == statement_target) ≡ a
      → (m.target_type == portal_target) ≡ b
      → Refused kind.Protocol (if a then described_statement told.extended s m.name (fin.get s.statements m.name)
      else if b then described_portal told.extended s m.name (fin.get s.portals m.name)
      else refuses s (wire.InvalidTargetType m.target_type)).outcome
  neither m not_first never true b e f = absurd (not_first (agree m.target_type statement_target e))
  neither m not_first never false true e f = absurd (never (agree m.target_type portal_target f))
  neither m not_first never false false e f = (s, _, refl, known _ _ refl)

  described_neither : (m : PgWireFrontendMessage) → DescribesNeither m → Refused kind.Protocol (ready_row told answers s m).effect.outcome
  described_neither (client.Describe m) h = neither m h.0 h.1 (m.target_type == statement_target) (m.target_type == portal_target) refl refl
  described_neither _ h = absurd h

  values_given : (m : PgWireFrontendMessage) → GivesValuesToEmpty s m → Refused kind.Protocol (ready_row told answers s m).effect.outcome
  values_given (client.Bind m) h = (
    s,
    wire.UserError (values_for_empty (length m.parameters) m.statement_name),
    ap (λ x. (bound told.extended s m x).outcome) h.0
        ∙ ap (λ b. (if b then says bind_complete (with_portal s m.portal_name entry.Empty)
        else refuses s (wire.UserError (values_for_empty (length m.parameters) m.statement_name))).outcome)
        (not_empty_list m.parameters h.1),
    known _ _ refl,
  )
  values_given _ h = absurd h

  few : (m : Bind) (x : StoredStatement RelationStatement) (fields : List Field) → length fields ≡ length (columns_of relations x.statement)
      → 2 ≤ length m.result_column_format_codes → length m.result_column_format_codes < length (columns_of relations x.statement)
      → (a b : Bool) → nat_le 2 (length m.result_column_format_codes) ≡ a → nat_lt (length m.result_column_format_codes) (length fields) ≡ b
      → Refused kind.Protocol (if a then (if b then refuses s
      (wire.UserError (too_few_codes (length m.result_column_format_codes) (length fields)))
      else bound_portal s m x) else bound_portal s m x).outcome
  few m x fields same two less false b e f = absurd (grind (arith, nat_tests, e, two))
  few m x fields same two less true false e f = absurd (grind (arith, nat_tests, f, less, same))
  few m x fields same two less true true e f = (s, _, refl, known _ _ refl)

  codes_given : (m : PgWireFrontendMessage) → GivesTooFewCodes relations s m
      → Refused kind.Protocol (ready_row told answers s m).effect.outcome
  codes_given (client.Bind m) h =
      let fields = fields_of relations h.0.statement format.UnifiedText in
      subst (λ x. Refused kind.Protocol (bound told.extended s m x).outcome) (sym h.1)
      (few m h.0 fields (field_count relations h.0.statement format.UnifiedText) h.2 h.3 (nat_le 2 (length m.result_column_format_codes))
      (nat_lt (length m.result_column_format_codes) (length fields)) refl refl)
  codes_given _ h = absurd h

  protocol_broken : (m : PgWireFrontendMessage) → DescribesNeither m ⊎ (GivesValuesToEmpty s m ⊎ GivesTooFewCodes relations s m)
      → Refused kind.Protocol (ready_row told answers s m).effect.outcome
  protocol_broken m (inl h) = described_neither m h
  protocol_broken m (inr (inl h)) = values_given m h
  protocol_broken m (inr (inr h)) = codes_given m h

  -- ---- texts

  query_asks : (m : Query) → is_blank m.query ≡ false → ready_row told answers s (client.Query m)
      ≡ query_run answers s (simple_of relations s.info (trimmed m.query) (meaning relations m.query))
  query_asks m e = ap (λ b. if b then silent (says (server.EmptyQueryResponse (record {}) ∷ ready s.info.status ∷ []) s)
      else query_run answers s (simple_of relations s.info (trimmed m.query) (meaning relations m.query))) e

  no_relation_copied : (text name : List ℕ) → copied_name (words text) ≡ Some name → (IsCopyOfRelation relations text → ⊥)
      → (x : Option ℕ) → place_of relations name ≡ x
      → Refused kind.Relation (query_run answers s (copy_of relations s.info name x)).effect.outcome
  no_relation_copied text name copies never None e = (s, _, refl, known _ _ refl)
  no_relation_copied text name copies never (Some place) e = absurd (never (name, copies, relation_named relations name place e))

  no_copy : (text : List ℕ) → (IsCopyOfRelation relations text → ⊥) → (x : Option (List ℕ)) → copied_name (words text) ≡ x
      → Refused kind.Relation (query_run answers s (copy_or_unknown relations s.info text x)).effect.outcome
  no_copy text never None e = (s, _, refl, known _ _ refl)
  no_copy text never (Some name) e = no_relation_copied text name e never (place_of relations name) refl

  unknown_text : (m : PgWireFrontendMessage) → HasUnknownText relations m
      → Refused kind.Relation (ready_row told answers s m).effect.outcome
  unknown_text (client.Parse m) h = (
    s,
    wire.UserError (unknown_relation (trimmed m.query)),
    ap (λ b. (parsed s m (if b then Ok None else stored m (or_unknown (trimmed m.query) (meaning relations m.query)))).outcome)
        (not_blank m.query h.0)
        ∙ ap (λ x. (parsed s m (stored m (or_unknown (trimmed m.query) x))).outcome) (means_nothing relations (trimmed m.query) h.1 h.2),
    known _ _ refl,
  )
  unknown_text (client.Query m) h =
      subst (λ (c : Called RelationStatement). Refused kind.Relation c.effect.outcome)
      (sym (query_asks m (not_blank m.query h.0.0)
      ∙ ap (λ x. query_run answers s (simple_of relations s.info (trimmed m.query) x))
      (means_nothing relations (trimmed m.query) h.0.1 h.0.2)))
      (no_copy (trimmed m.query) h.1 (copied_name (words (trimmed m.query))) refl)
  unknown_text _ h = absurd h

  -- ---- text cells

  abbrev IsStyle : PgWireError → Type 0
  IsStyle w = w ≡ wire.InvalidOptionValue (style_text s.info)

  style_is : (w : PgWireError) → IsStyle w → IsOf kind.Style (info_of w)
  style_is w e = subst (λ (w : PgWireError). IsOf kind.Style (info_of w)) (sym e)
      (known _ _ refl)

  module _ (none : HasNoStyle s) where
    -- a row with a text cell is refused
    row_is_refused : (formats : List FieldFormat) (row : List Interval) → ((i : Interval) × Contains (zip formats row) (field.Text, i))
        → row_item (session_style s.info) formats row ≡ Err (wire.InvalidOptionValue (style_text s.info))
    row_is_refused formats row at = ap (λ x. row_item (or_refused (style_text s.info) x) formats row) none
        ∙ row_refuses (style_text s.info) formats row at

    module _ (m : Execute) (p : TablePortal RelationStatement) (place : ℕ) where
      abbrev r : Relation
      r = relation_at relations place

      abbrev made : List Interval → RowItem
      made = row_item (session_style s.info) (column_formats p.bound.result_column_format r.columns)

      page_refused : (response : ToldRows) (delivered : ℕ) (rows : List (List Interval)) → response.items ≡ map made rows
          → HasTextCell (column_formats p.bound.result_column_format r.columns) (page m.max_rows rows).rows
          → Refused kind.Style (fetched s m p response delivered).outcome
      page_refused response delivered rows e (row, at, text) =
          let refused = row_is_refused (column_formats p.bound.result_column_format r.columns) row text in
          let met = page_meets made m.max_rows rows row (wire.InvalidOptionValue (style_text s.info)) at refused in
          let from = page_met made m.max_rows rows met.0 met.1 met.2 in
          let why = row_refused (style_text s.info) (interval_style_of (style_text s.info))
          (column_formats p.bound.result_column_format r.columns)
          from.0 met.0 from.2 in
          let ends : (item_page m.max_rows response.items).ending ≡ AtError met.0 met.1 =
          ap (λ (items : List RowItem). (item_page m.max_rows items).ending) e ∙ met.2 in
          let page = item_page m.max_rows response.items in (
            with_portal s m.name (entry.Value (at_stage p (stage_after response delivered page.rows (AtError met.0 met.1)))),
            met.0,
            ap (λ ending. (page_effect (with_portal s m.name (entry.Value (at_stage p (stage_after response delivered page.rows ending))))
                response.command_tag (delivered_after delivered (length page.rows)) page.rows ending).outcome) ends,
            style_is met.0 why.0.tells,
          )

      stage_refused : (stage : Stage) → p.bound.statement.statement ≡ statement.Relation place
          → IsStageOf relations (session_style s.info) p.bound stage → CanCome relations answers place stage
          → HasTextCell (column_formats p.bound.result_column_format r.columns) (page m.max_rows (rows_to_come r.rows stage)).rows
          → Refused kind.Style (executed_portal told.extended answers s m p stage).effect.outcome
      stage_refused Unstarted means is came text =
          subst (λ x. Refused kind.Style (execute_run answers s m p
          (query_of relations s.info p.bound.result_column_format x)).effect.outcome) (sym means)
          (subst (λ v. Refused kind.Style (execute_polled s m p v (Ok (rows_response s.info p.bound.result_column_format r))).outcome)
          (sym came)
          (page_refused (record {
            command_tag = codes "SELECT";
            fields = columns_in p.bound.result_column_format r.columns;
            items = map made r.rows;
          }) 0 r.rows refl text))
      stage_refused (Started response delivered) means is came text =
          let same : is.place ≡ place = (let e : statement.Relation is.place ≡ statement.Relation place = sym is.means ∙ means in cc) in
          page_refused response delivered (last_rows r.rows response.items)
          (subst (λ (n : ℕ). response.items
          ≡ map (row_item (session_style s.info) (column_formats p.bound.result_column_format (relation_at relations n).columns))
          (last_rows (relation_at relations n).rows response.items)) same is.items) text
      stage_refused (Ended delivered) means is came (row, at, text) = let inside = page_within made m.max_rows [] row at in
          absurd (omega (arith, inside.1))

    -- a Query whose one response is cut short
    abbrev one_answer : {B : Type 0} → Replies → Replies → Option (PgWireError × B) → Effect RelationStatement
    one_answer front others x =
        let first = unless_error s.info.status false front others x in
        let all = followed first first.refusal (sent first.status []) in
        answered s all all.refusal

    cut_short : {B : Type 0} (front others : Replies) (x : Option (PgWireError × B)) (w : PgWireError) (left : B) → x ≡ Some (w, left)
        → IsStyle w
        → Refused kind.Style (one_answer front others x).outcome
    cut_short {B} front others x w left e i =
        subst (λ (x : Option (PgWireError × B)). Refused kind.Style (one_answer front others x).outcome) (sym e) (s, w, refl, style_is w i)

    module _ (m : Query) (place : ℕ) (passed : IsPassed relations answers place) where
      abbrev q : Relation
      q = relation_at relations place

      rows_refused : meaning relations m.query ≡ Some (statement.Relation place)
          → HasTextCell (column_formats format.UnifiedText q.columns) q.rows
          → Refused kind.Style (query_run answers s (simple_of relations s.info (trimmed m.query)
          (meaning relations m.query))).effect.outcome
      rows_refused means (row, at, text) =
          let formats = column_formats format.UnifiedText q.columns in
          let cells = row_item (session_style s.info) formats in
          let met = rows_have_first cells q.rows row (wire.InvalidOptionValue (style_text s.info)) at (row_is_refused formats row text) in
          let from = first_of_rows cells q.rows met.0 met.1 met.2 in
          let why = row_refused (style_text s.info) (interval_style_of (style_text s.info)) formats from.0 met.0 from.2 in
          subst (λ x. Refused kind.Style (query_run answers s (simple_of relations s.info (trimmed m.query) x)).effect.outcome) (sym means)
          (subst (λ v. Refused kind.Style (query_polled s v (Ok (rows_response s.info format.UnifiedText q ∷ []))).outcome) (sym passed)
          (cut_short (row_description (columns_in format.UnifiedText q.columns) ∷ [] ++ row_replies (before_error (map cells q.rows)))
          (done_with (codes "SELECT") (length (before_error (map cells q.rows))) ∷ []) (first_error (map cells q.rows)) met.0 met.1 met.2
          why.0.tells))

      lines_refused : (name : List ℕ) → meaning relations m.query ≡ None → copied_name (words (trimmed m.query)) ≡ Some name
          → place_of relations name ≡ Some place → HasCell q.rows
          → Refused kind.Style (query_run answers s (simple_of relations s.info (trimmed m.query)
          (meaning relations m.query))).effect.outcome
      lines_refused name means copies named (row, at, ne) =
          let lines = line_item (session_style s.info) in
          let refused : lines row ≡ Err (wire.InvalidOptionValue (style_text s.info)) =
          ap (λ x. line_item (or_refused (style_text s.info) x) row) none ∙ line_refuses (style_text s.info) row ne in
          let met = rows_have_first lines q.rows row (wire.InvalidOptionValue (style_text s.info)) at refused in
          let from = first_of_rows lines q.rows met.0 met.1 met.2 in
          let why = line_refused (style_text s.info) (interval_style_of (style_text s.info)) from.0 met.0 from.2 in
          let copied = not_empty (before_error (map lines q.rows)) in
          let c : ToldCopy = record { format = pos 0; columns = length q.columns; items = map lines q.rows; trailer_left = false } in
          subst (λ x. Refused kind.Style (query_run answers s (simple_of relations s.info (trimmed m.query) x)).effect.outcome) (sym means)
          (subst (λ x. Refused kind.Style (query_run answers s (copy_or_unknown relations s.info (trimmed m.query) x)).effect.outcome)
          (sym copies)
          (subst (λ x. Refused kind.Style (query_run answers s (copy_of relations s.info name x)).effect.outcome) (sym named)
          (subst (λ v. Refused kind.Style (query_polled s v (Ok (copy_response s.info q ∷ []))).outcome) (sym passed)
          (cut_short (copy_out_reply c ∷ copy_replies copied) (copy_end (copy_count copied)) (first_error (map lines q.rows)) met.0 met.1
          met.2
          why.0.tells))))

    query_met : (m : Query) → (place : ℕ) × QueryHasText relations answers m.query place
        → Refused kind.Style (query_run answers s (simple_of relations s.info (trimmed m.query) (meaning relations m.query))).effect.outcome
    query_met m (place, (ne, passed, inl h)) = rows_refused m place passed h.0 h.1
    query_met m (place, (ne, passed, inr h)) = lines_refused m place passed h.1.0 h.0 h.1.1 h.1.2 h.2

    text_met : (m : PgWireFrontendMessage) → MeetsTextCell relations answers s m
        → Refused kind.Style (ready_row told answers s m).effect.outcome
    text_met (client.Execute m) (p, place, found, (means, came, text)) =
        subst (λ x. Refused kind.Style (executed_entry told.extended answers s m x).effect.outcome) (sym found)
        (stage_refused m p place p.stage means (g.portals m.name p (ap value_under found)) came text)
    text_met (client.Query m) h = subst (λ (c : Called RelationStatement). Refused kind.Style c.effect.outcome)
        (sym (query_asks m (not_blank m.query h.1.0))) (query_met m h)
    text_met _ h = absurd h

  -- ---- COPY

  copy_given_up : (is_extended : Bool) (m : PgWireFrontendMessage) → IsCopyFail m
      → Refused kind.CopyFail (row told answers s m (phase.CopyInProgress is_extended)).effect.outcome
  copy_given_up is_extended (client.CopyFail m) h = (s, _, refl, known _ _ refl)
  copy_given_up is_extended _ h = absurd h

  copy_sent : (is_extended : Bool) (m : PgWireFrontendMessage) → IsCopyData m
      → Refused kind.CopyData (row told answers s m (phase.CopyInProgress is_extended)).effect.outcome
  copy_sent is_extended (client.CopyData m) h = (s, _, refl, known _ _ refl)
  copy_sent is_extended (client.CopyDone m) h = (s, _, refl, known _ _ refl)
  copy_sent is_extended _ h = absurd h

  -- ---- each kind

  module _ (m : PgWireFrontendMessage) where
    abbrev c : Called RelationStatement
    c = message_row told answers s m

    calls_are : (answer relations answers s m).calls ≡ c.calls
    calls_are = settled_calls (scope_in s.info.state m) c.effect.replies c.calls c.effect.outcome

    errors_are : errors_among (answer relations answers s m).replies ≡ errors_of c.effect.outcome
    errors_are = settled_errors (scope_in s.info.state m) c.effect.replies c.calls c.effect.outcome (row_is relations answers s g m).0

    at_phase : (k : Kind) (x : PgWireConnectionState) → s.info.state ≡ x → Refused k (row told answers s m x).effect.outcome
        → Refused k c.effect.outcome
    at_phase k x q h = subst (λ x. Refused k (row told answers s m x).effect.outcome) (sym q) h

    canceled : Contains (answer relations answers s m).calls (desk.Ask true) → Refused kind.Cancel c.effect.outcome
    canceled at = (
      s,
      wire.QueryCanceled,
      (row_is relations answers s g m).3 (subst (λ calls. Contains calls (desk.Ask true)) calls_are at),
      known _ _ refl,
    )

    complete : (k : Kind) → CauseOf k relations answers s m → Refused k c.effect.outcome
    complete kind.Version (q, h) = at_phase kind.Version phase.AwaitingStartup q (other_version m h)
    complete kind.Statement (q, h) = at_phase kind.Statement phase.ReadyForQuery q (no_statement m h)
    complete kind.Portal (q, h) = at_phase kind.Portal phase.ReadyForQuery q (no_portal m h)
    complete kind.Protocol (q, h) = at_phase kind.Protocol phase.ReadyForQuery q (protocol_broken m h)
    complete kind.Relation (q, h) = at_phase kind.Relation phase.ReadyForQuery q (unknown_text m h)
    complete kind.Cancel h = canceled h
    complete kind.Style (q, none, h) = at_phase kind.Style phase.ReadyForQuery q (text_met none m h)
    complete kind.CopyFail ((is_extended, q), h) =
        at_phase kind.CopyFail (phase.CopyInProgress is_extended) q (copy_given_up is_extended m h)
    complete kind.CopyData ((is_extended, q), h) = at_phase kind.CopyData (phase.CopyInProgress is_extended) q (copy_sent is_extended m h)

    cause_of : (k : Kind) → Why relations answers s g c.calls m k → CauseOf k relations answers s m
    cause_of kind.Version h = h
    cause_of kind.Statement h = h
    cause_of kind.Portal h = h
    cause_of kind.Protocol h = h
    cause_of kind.Relation h = h
    cause_of kind.Cancel h = subst (λ calls. Contains calls (desk.Ask true)) (sym calls_are) h
    cause_of kind.Style h = h
    cause_of kind.CopyFail h = h
    cause_of kind.CopyData h = h

    -- an error that is told is of a kind whose cause holds
    abbrev Explained : ErrorInfo → Type 0
    Explained info = (k : Kind) × CauseOf k relations answers s m × IsOf k info

    explained_by : (o : Outcome RelationStatement) → Explains relations answers s g c.calls m o → (info : ErrorInfo)
        → Contains (errors_of o) info
        → Explained info
    explained_by (Failed t e) (k, why, is) info (zero, inside, at) = (k, cause_of k why, subst (IsOf k) at is)
    explained_by (Failed t e) h info (suc n, inside, at) = absurd (omega (arith, inside))
    explained_by (Done t) h info at = absurd (omega (arith, at.1))
    explained_by (Over x) h info at = absurd (omega (arith, at.1))
    explained_by Stopped h info at = absurd (omega (arith, at.1))

    pub explained : (info : ErrorInfo) → Contains (errors_among (answer relations answers s m).replies) info → Explained info
    explained info at = explained_by c.effect.outcome (row_is relations answers s g m).1 info (subst (λ l. Contains l info) errors_are at)

    pub has_cause : (k : Kind) → TellsCode (severity_of k) (code_of k) (answer relations answers s m).replies
        → CauseOf k relations answers s m
    has_cause k (info, at, severity, code) =
        let found = explained info at in
        subst (λ (k : Kind). CauseOf k relations answers s m)
        (same_kind found.0 k (sym found.2.severity ∙ severity) (sym found.2.code ∙ code)) found.1

    pub is_told : (k : Kind) → CauseOf k relations answers s m
        → TellsCode (severity_of k) (code_of k) (answer relations answers s m).replies
    is_told k h =
        let r = complete k h in
        let errors : errors_among (answer relations answers s m).replies ≡ info_of r.1 ∷ [] = errors_are ∙ ap errors_of r.2 in
        (info_of r.1, subst (λ l. Contains l (info_of r.1)) (sym errors) (0, omega arith, refl), r.3.severity, r.3.code)

    one_error : (o : Outcome RelationStatement) → length (errors_of o) ≤ 1
    one_error (Failed t e) = omega arith
    one_error (Done t) = omega arith
    one_error (Over x) = omega arith
    one_error Stopped = omega arith

    pub at_most_one : length (errors_among (answer relations answers s m).replies) ≤ 1
    at_most_one = subst (λ l. length l ≤ 1) (sym errors_are) (one_error c.effect.outcome)

    -- ---- the end

    fatal_kind : (k : Kind) → is_fatal_kind k ≡ true → CauseOf k relations answers s m
        → AsksOtherVersion relations answers s m ⊎ SendsCopy relations answers s m
    fatal_kind kind.Version e h = inl h
    fatal_kind kind.CopyData e h = inr h
    fatal_kind kind.Statement e h = cc
    fatal_kind kind.Portal e h = cc
    fatal_kind kind.Protocol e h = cc
    fatal_kind kind.Relation e h = cc
    fatal_kind kind.Cancel e h = cc
    fatal_kind kind.Style e h = cc
    fatal_kind kind.CopyFail e h = cc

    fatal_by : (o : Outcome RelationStatement) → Explains relations answers s g c.calls m o → FailsFatal o
        → AsksOtherVersion relations answers s m ⊎ SendsCopy relations answers s m
    fatal_by (Failed t e) (k, why, is) h = fatal_kind k (sym (is_fatal_of k (info_of e) is) ∙ h) (cause_of k why)
    fatal_by (Over x) never h = absurd (never h)
    fatal_by (Done t) x h = absurd h
    fatal_by Stopped x h = absurd h

    pub fatal_cause : (answer relations answers s m).next ≡ Ends end.Fatal
        → AsksOtherVersion relations answers s m ⊎ SendsCopy relations answers s m
    fatal_cause e = fatal_by c.effect.outcome (row_is relations answers s g m).1
        (settled_fatal (scope_in s.info.state m) c.effect.replies c.calls c.effect.outcome e)

    refused_ends : (k : Kind) → is_fatal_kind k ≡ true → Refused k c.effect.outcome → (answer relations answers s m).next ≡ Ends end.Fatal
    refused_ends k f (t, e, is, of_kind) =
        ap (λ o. (settled (scope_in s.info.state m) c.effect.replies c.calls o).next) is
        ∙ fatal_settled (scope_in s.info.state m) c.effect.replies c.calls t e (is_fatal_of k (info_of e) of_kind ∙ f)

    pub cause_ends : AsksOtherVersion relations answers s m ⊎ SendsCopy relations answers s m
        → (answer relations answers s m).next ≡ Ends end.Fatal
    cause_ends (inl h) = refused_ends kind.Version refl (complete kind.Version h)
    cause_ends (inr h) = refused_ends kind.CopyData refl (complete kind.CopyData h)

pub exactly : (k : Kind) → IsToldExactlyWhere (severity_of k) (code_of k) (CauseOf k)
exactly k relations answers s m g = (has_cause relations answers s g m k, is_told relations answers s g m k)

kind_listed : (k : Kind) → Contains told_codes (severity_of k, code_of k)
kind_listed kind.Version = (0, omega arith, refl)
kind_listed kind.Statement = (1, omega arith, refl)
kind_listed kind.Portal = (2, omega arith, refl)
kind_listed kind.Protocol = (3, omega arith, refl)
kind_listed kind.Relation = (4, omega arith, refl)
kind_listed kind.Cancel = (5, omega arith, refl)
kind_listed kind.Style = (6, omega arith, refl)
kind_listed kind.CopyFail = (7, omega arith, refl)
kind_listed kind.CopyData = (8, omega arith, refl)

pub listed : (k : Kind) (info : ErrorInfo) → IsOf k info → Contains told_codes (info.severity, info.code)
listed k info is = subst (λ (p : List ℕ × List ℕ). Contains told_codes p) (ap₂ (λ a b. (
  a,
  b,
)) (sym is.severity) (sym is.code)) (kind_listed k)
