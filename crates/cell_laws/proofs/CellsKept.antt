-- A conversation over relations shows stored rows: each row of the whole table does, and keeps that started portals have items that do.
use Rattle.std.proofs.Common.{◌≡◌, ◌∙◌, ◌==◌, ℕ, Bool, true, false, if◌then◌else◌, List, [], ◌∷◌, ◌++◌, Option, Some, None, Result, Ok, Err, nat_le, nat_lt, length, map, refl, ap, sym, subst}
use Rattle.std.specs.List.{AllByRecursion}
use Rattle.std.specs.FinMap as fin
use Rattle.pg_messages.specs.declared.data.DataRow.{DataRow}
use Rattle.pg_messages.specs.declared.backend.PgWireBackendMessage.{PgWireBackendMessage}
use Rattle.pg_messages.specs.declared.copy.CopyData.{CopyData}
use Rattle.pg_messages.specs.declared.response.ErrorInfo.{ErrorInfo}
use Rattle.pg_messages.specs.declared.simplequery.Query.{Query}
use Rattle.pg_messages.specs.declared.extendedquery.Parse.{Parse}
use Rattle.pg_messages.specs.declared.extendedquery.Bind.{Bind}
use Rattle.pg_messages.specs.declared.extendedquery.Describe.{Describe}
use Rattle.pg_messages.specs.declared.extendedquery.Close.{Close}
use Rattle.pg_messages.specs.declared.extendedquery.Execute.{Execute}
use Rattle.pg_messages.specs.declared.frontend.PgWireFrontendMessage.{PgWireFrontendMessage}
use Rattle.pg_messages.specs.declared.frontend.PgWireFrontendMessage.TheVariants as client
use Rattle.pg_messages.specs.declared.backend.PgWireBackendMessage.TheVariants as server
use Rattle.pg_messages.specs.Frames.{awaits_startup_after, statement_target, portal_target}
use Rattle.pg_text.specs.declared.format.interval_style.IntervalStyle.{IntervalStyle}
use Rattle.pg_text.specs.Words.{interval_style_of}
use Rattle.pg_results.specs.declared.client.ClientInfo.{ClientInfo}
use Rattle.pg_results.specs.declared.client.PgWireConnectionState.{PgWireConnectionState}
use Rattle.pg_results.specs.declared.client.PgWireConnectionState.TheVariants as phase
use Rattle.pg_results.specs.declared.error.PgWireError.{PgWireError}
use Rattle.pg_results.specs.declared.error.PgWireError.TheVariants as wire
use Rattle.pg_results.specs.declared.format.Format.{Format}
use Rattle.pg_results.specs.declared.format.Format.TheVariants as format
use Rattle.pg_results.specs.declared.stmt.StoredStatement.{StoredStatement}
use Rattle.pg_portal.specs.declared.store.Entry.{Entry}
use Rattle.pg_portal.specs.declared.store.Entry.TheVariants as entry
use Rattle.pg_results.specs.declared.describe.DescribeStatementResponse.{DescribeStatementResponse}
use Rattle.pg_results.specs.declared.describe.DescribePortalResponse.{DescribePortalResponse}
use Rattle.pg_results.specs.Describing.{Described, is_empty_list, is_no_data}
use Rattle.pg_results.specs.Errors.{info_of}
use Rattle.pg_results.specs.Fields.{Field}
use Rattle.pg_results.specs.Formats.{format_of}
use Rattle.pg_portal.specs.Fetching.{stage_after}
use Rattle.pg_results.specs.Page.{PageEnd, AtLimit, AtEnd, AtError, delivered_after, item_page}
use Rattle.pg_results.specs.Responses as response
use Rattle.pg_results.specs.Responses.{ToldResponse}
use Rattle.pg_results.specs.Statements.{prepared}
use Rattle.pg_results.specs.Texts.{is_blank}
use Rattle.pg_results.specs.Told.{ToldRows}
use Rattle.pg_portal.specs.Told.{TablePortal, Stage, Unstarted, Started, Ended, value_under}
use Rattle.pg_client.specs.declared.desk.DeskCall.{DeskCall}
use Rattle.pg_client.specs.declared.ends.EndKind.{EndKind}
use Rattle.pg_client.specs.declared.ends.EndKind.TheVariants as end
use Rattle.pg_client.specs.Answer.{Answer, Next, Goes, Ends, Stops, continued, conversation, left_by}
use Rattle.conversation_table.specs.CopyRows.{copy_row}
use Rattle.pg_client.specs.Effect.{Effect, Called, Scope, UntilSync, AnswersReady, Outcome, Done, Failed, Over, Stopped, says, refuses, silent, after_error, settle, settled}
use Rattle.pg_client.specs.Errors.{is_fatal, too_few_codes, values_for_empty}
use Rattle.conversation_table.specs.ExecuteRow.{at_stage, page_effect, fetched, sent_in_execute, executed, execute_polled, executed_portal, executed_entry}
use Rattle.conversation_table.specs.ExtendedRows.{bind_complete, parsed, portal_bound, bound_portal, bound_with_columns, bound, described, described_statement, described_portal, statement_description, portal_description, on_describe, on_close}
use Rattle.conversation_table.specs.Handlers.{Handlers}
use Rattle.conversation_table.specs.Questions.{Verdict, Passed, Canceled, Unanswered, questioned}
use Rattle.pg_replies.specs.Replies.{Replies, error_reply, ready, row_replies, done_with, row_description}
use Rattle.pg_replies.specs.ResponseRows.{Sent, responded}
use Rattle.conversation_table.specs.SimpleRows.{answered, responded_all, query_polled, query_run}
use Rattle.pg_client.specs.State.{State, in_phase, with_status, with_portal, without_statement, without_portal, without_unnamed_portal}
use Rattle.conversation_table.specs.Table.{statement_row, ready_row, awaiting_sync_row, row, scope_in, whole_table, is_startup_phase, awaits}
use Rattle.conversation_table.proofs.Awaiting.{row_keeps}
use Rattle.conversation_table.proofs.GoodStores.{Each, each_after_insert, each_after_remove, none_empty, one_value}
use Rattle.relation_tables.specs.declared.Relation.{Relation}
use Rattle.relation_tables.specs.declared.RelationStatement.{RelationStatement}
use Rattle.relation_tables.specs.declared.RelationStatement.TheVariants as statement
use Rattle.relation_tables.specs.Queries.{trimmed, words, copied_name}
use Rattle.relation_tables.specs.Relations.{relation_at, HaveEvenRows, place_of, meaning}
use Rattle.relation_tables.specs.RelationHandler.{style_text, or_refused, row_item, line_item, column_formats, query_of, simple_of, copy_of, copy_or_unknown, relation_handlers}
use Rattle.relation_handlers.specs.Tables.{HoldIntervals}
use Rattle.cell_laws.specs.ShownCells.{IsOwnFormat, ShowsStoredRow, ShowsStoredLine}
use Rattle.cell_laws.proofs.CellsPaged.{ItemsAre, EndIs, page_is, all_append, ReplyIs, Are, row_replies_are, either_is, ResponseIs, responded_are, all_responded_are}
use Rattle.cell_laws.proofs.CellsShown.{rows_show, lines_show}

abbrev pub Talk : Type 0
Talk = State RelationStatement

-- what a message picks as a format of results is one of these
abbrev pub Picks : (Format → Type 0) → PgWireFrontendMessage → Type 0
Picks IsFormat (client.Bind m) = IsFormat (format_of m.result_column_format_codes)
Picks IsFormat _ = Unit {0}

-- no message makes a conversation await its startup packet again
started_stays : (m : PgWireFrontendMessage) → awaits_startup_after m false ≡ false
started_stays (client.Startup m) = refl
started_stays _ = refl

-- what shows a stored row in some formats shows it in wider ones
module _ (relations : List Relation) (style : Option IntervalStyle) (F G : Format → Type 0) (wider : (chosen : Format) → F chosen
    → G chosen) where
  row_wider : (d : DataRow) → ShowsStoredRow relations style F d → ShowsStoredRow relations style G d
  row_wider d x = record {
    place = x.place;
    row = x.row;
    stored = x.stored;
    chosen = x.chosen;
    is_chosen = wider x.chosen x.is_chosen;
    shown = x.shown;
  }

  reply_wider : (m : PgWireBackendMessage)
      → ReplyIs (λ d. ShowsStoredRow relations style F d) (λ d. ShowsStoredLine relations style d) m
      → ReplyIs (λ d. ShowsStoredRow relations style G d) (λ d. ShowsStoredLine relations style d) m
  reply_wider (server.DataRow d) h = row_wider d h
  reply_wider (server.CopyData d) h = h
  reply_wider _ h = tt

  replies_wider : (replies : Replies) → Are (λ d. ShowsStoredRow relations style F d) (λ d. ShowsStoredLine relations style d) replies
      → Are (λ d. ShowsStoredRow relations style G d) (λ d. ShowsStoredLine relations style d) replies
  replies_wider [] h = tt
  replies_wider (m ∷ replies) h = (reply_wider m h.0, replies_wider replies h.1)

module _ (relations : List Relation) (within : HoldIntervals relations) (even : HaveEvenRows relations) (IsFormat : Format → Type 0)
    (text_is : IsFormat format.UnifiedText) (style : Option IntervalStyle) where
  -- ---- what is shown, in some formats

  abbrev RowIn : (Format → Type 0) → DataRow → Type 0
  RowIn F d = ShowsStoredRow relations style F d

  abbrev IsLine : CopyData → Type 0
  IsLine d = ShowsStoredLine relations style d

  abbrev pub Shown : (Format → Type 0) → Replies → Type 0
  Shown F replies = Are (RowIn F) IsLine replies

  abbrev IsText : Format → Type 0
  IsText chosen = chosen ≡ format.UnifiedText

  -- this very format
  abbrev Own : Format → Format → Type 0
  Own own chosen = chosen ≡ own

  -- ---- states, and what they come to

  abbrev pub StageIs : Format → Stage → Type 0
  StageIs own Unstarted = Unit {0}
  StageIs own (Started r delivered) = ItemsAre (RowIn (Own own)) r.items
  StageIs own (Ended delivered) = Unit {0}

  -- what is left of a portal shows stored rows in the portal's format
  abbrev pub PortalIs : TablePortal RelationStatement → Type 0
  PortalIs p = IsFormat p.bound.result_column_format × StageIs p.bound.result_column_format p.stage

  abbrev pub Good : Talk → Type 0
  Good s = (interval_style_of (style_text s.info) ≡ style) × Each PortalIs s.portals

  abbrev OutcomeIs : Outcome RelationStatement → Type 0
  OutcomeIs (Done s) = Good s
  OutcomeIs (Failed s e) = Good s
  OutcomeIs (Over kind) = Unit {0}
  OutcomeIs Stopped = Unit {0}

  abbrev EffectIs : (Format → Type 0) → Effect RelationStatement → Type 0
  EffectIs F e = Shown F e.replies × OutcomeIs e.outcome

  abbrev NextIs : Next Talk → Type 0
  NextIs (Goes s) = Good s
  NextIs (Ends kind) = Unit {0}
  NextIs Stops = Unit {0}

  abbrev AnswerIs : (Format → Type 0) → Answer Talk → Type 0
  AnswerIs F a = Shown F a.replies × NextIs a.next

  shown_append : (F : Format → Type 0) (a b : Replies) → Shown F a → Shown F b → Shown F (a ++ b)
  shown_append F a b h k = all_append (ReplyIs (RowIn F) IsLine) a b h k

  either_effect : (F : Format → Type 0) (b : Bool) (x y : Effect RelationStatement) → EffectIs F x → EffectIs F y
      → EffectIs F (if b then x else y)
  either_effect F true x y f g = f
  either_effect F false x y f g = g

  either_good : (b : Bool) (x y : Talk) → Good x → Good y → Good (if b then x else y)
  either_good true x y f g = f
  either_good false x y f g = g

  -- ---- an error

  module _ (F : Format → Type 0) where
    after_is : (scope : Scope) (s : Talk) → Good s → Shown F (after_error scope s).0 × Good (after_error scope s).1
    after_is UntilSync s g = (tt, g)
    after_is AnswersReady s g = ((tt, tt), g)

    failed_is : (b : Bool) (replies after : Replies) (calls : List DeskCall) (t : Talk) (info : ErrorInfo) → Shown F replies
        → Shown F after → Good t
        → AnswerIs F (if b
        then (let a : Answer Talk = record { replies = replies ++ error_reply info ∷ []; calls = calls; next = Ends end.Fatal } in a)
        else (record { replies = replies ++ error_reply info ∷ after; calls = calls; next = Goes t }))
    failed_is true replies after calls t info h k g = (shown_append F replies (error_reply info ∷ []) h (tt, tt), tt)
    failed_is false replies after calls t info h k g = (shown_append F replies (error_reply info ∷ after) h (tt, k), g)

    settled_is : (scope : Scope) (replies : Replies) (calls : List DeskCall) (o : Outcome RelationStatement) → Shown F replies → OutcomeIs o
        → AnswerIs F (settled scope replies calls o)
    settled_is scope replies calls (Done s) h g = (h, g)
    settled_is scope replies calls (Failed s e) h g =
        let after = after_is scope s g in
        failed_is (is_fatal (info_of e)) replies (after_error scope s).0 calls (after_error scope s).1 (info_of e) h after.0 after.1
    settled_is scope replies calls (Over kind) h g = (h, tt)
    settled_is scope replies calls Stopped h g = (h, tt)

    settle_is : (scope : Scope) (c : Called RelationStatement) → EffectIs F c.effect → AnswerIs F (settle scope c)
    settle_is scope c h = settled_is scope c.effect.replies c.calls c.effect.outcome h.0 h.1

  -- ---- what the handlers of relations tell

  abbrev ResultIs : Format → Result ToldResponse PgWireError → Type 0
  ResultIs own (Ok r) = ResponseIs (RowIn (Own own)) IsLine r
  ResultIs own (Err e) = Unit {0}

  abbrev ResultsAre : Result (List ToldResponse) PgWireError → Type 0
  ResultsAre (Ok responses) = AllByRecursion (ResponseIs (RowIn IsText) IsLine) responses
  ResultsAre (Err e) = Unit {0}

  query_is : (info : ClientInfo) → interval_style_of (style_text info) ≡ style → (own : Format) (means : RelationStatement)
      → ResultIs own (query_of relations info own means).outcome
  query_is info e own statement.Begin = tt
  query_is info e own statement.Commit = tt
  query_is info e own (statement.Relation place) =
      subst (λ x. ItemsAre (RowIn (Own own))
      (map (row_item (or_refused (style_text info) x) (column_formats own (relation_at relations place).columns))
      (relation_at relations place).rows)) (sym e)
      (rows_show relations within even (style_text info) style (Own own) place own refl)

  copy_is : (info : ClientInfo) → interval_style_of (style_text info) ≡ style → (name : List ℕ) (place : Option ℕ)
      → ResultsAre (copy_of relations info name place).outcome
  copy_is info e name None = tt
  copy_is info e name (Some place) = (
    subst (λ x. ItemsAre IsLine (map (line_item (or_refused (style_text info) x)) (relation_at relations place).rows)) (sym e)
        (lines_show relations within even (style_text info) style IsText place),
    tt,
  )

  copied_is : (info : ClientInfo) → interval_style_of (style_text info) ≡ style → (text : List ℕ) (name : Option (List ℕ))
      → ResultsAre (copy_or_unknown relations info text name).outcome
  copied_is info e text None = tt
  copied_is info e text (Some name) = copy_is info e name (place_of relations name)

  simple_is : (info : ClientInfo) → interval_style_of (style_text info) ≡ style → (text : List ℕ) (means : Option RelationStatement)
      → ResultsAre (simple_of relations info text means).outcome
  simple_is info e text None = copied_is info e text (copied_name (words text))
  simple_is info e text (Some statement.Begin) = (tt, tt)
  simple_is info e text (Some statement.Commit) = (tt, tt)
  simple_is info e text (Some (statement.Relation place)) = (query_is info e format.UnifiedText (statement.Relation place), tt)

  module _ (s : Talk) (g : Good s) where
    abbrev told : Handlers RelationStatement
    told = relation_handlers relations

    -- ---- Parse, Bind, Describe, Close, Sync

    parsed_is : (m : Parse) (r : Result (Option (StoredStatement RelationStatement)) PgWireError) → EffectIs IsText (parsed s m r)
    parsed_is m (Ok statement) = ((tt, tt), g)
    parsed_is m (Err e) = (tt, g)

    empty_is : (name : List ℕ) → Good (with_portal s name entry.Empty)
    empty_is name = (g.0, each_after_insert PortalIs s.portals name entry.Empty (none_empty PortalIs) g.1)

    portal_is : (name : List ℕ) (p : TablePortal RelationStatement) → PortalIs p → Good (with_portal s name (entry.Value p))
    portal_is name p h = (g.0, each_after_insert PortalIs s.portals name (entry.Value p) (one_value PortalIs p h) g.1)

    without_is : (name : List ℕ) → Good (without_portal s name)
    without_is name = (g.0, each_after_remove PortalIs s.portals name g.1)

    bound_portal_is : (m : Bind) → Picks IsFormat (client.Bind m) → (x : StoredStatement RelationStatement)
        → EffectIs IsText (bound_portal s m x)
    bound_portal_is m picked x = ((tt, tt), portal_is m.portal_name (portal_bound m x) (picked, tt))

    columns_is : (m : Bind) → Picks IsFormat (client.Bind m) → (x : StoredStatement RelationStatement) (r : Result (List Field) PgWireError)
        → EffectIs IsText (bound_with_columns s m x r)
    columns_is m picked x (Err e) = (tt, g)
    columns_is m picked x (Ok columns) = either_effect IsText (nat_lt (length m.result_column_format_codes) (length columns))
        (refuses s (wire.UserError (too_few_codes (length m.result_column_format_codes) (length columns)))) (bound_portal s m x)
        (tt, g) (bound_portal_is m picked x)

    bound_is : (m : Bind) → Picks IsFormat (client.Bind m) → (x : Option (Entry (StoredStatement RelationStatement)))
        → EffectIs IsText (bound told.extended s m x)
    bound_is m picked None = (tt, g)
    bound_is m picked (Some entry.Empty) = either_effect IsText (is_empty_list m.parameters)
        (says bind_complete (with_portal s m.portal_name entry.Empty))
        (refuses s (wire.UserError (values_for_empty (length m.parameters) m.statement_name))) ((tt, tt), empty_is m.portal_name) (tt, g)
    bound_is m picked (Some (entry.Value x)) =
        let columns = told.extended.parser.columns x.statement None in
        either_effect IsText (nat_le 2 (length m.result_column_format_codes)) (bound_with_columns s m x columns)
        (bound_portal s m x) (columns_is m picked x columns) (bound_portal_is m picked x)

    columns_reply_is : (d : Described) → ReplyIs (RowIn IsText) IsLine (if is_no_data d then server.NoData (record {})
        else row_description d.fields)
    columns_reply_is d = either_is (RowIn IsText) IsLine (is_no_data d) (server.NoData (record {})) (row_description d.fields) tt tt

    statement_description_is : (d : DescribeStatementResponse) → Shown IsText (statement_description d)
    statement_description_is d = (tt, (columns_reply_is (record { parameters = Some d.parameters; fields = d.fields }), tt))

    portal_description_is : (d : DescribePortalResponse) → Shown IsText (portal_description d)
    portal_description_is d = (columns_reply_is (record { parameters = None; fields = d.fields }), tt)

    told_is : {D : Type 0} (shown : D → Replies) → ((d : D) → Shown IsText (shown d)) → (r : Result D PgWireError)
        → EffectIs IsText (described s shown r)
    told_is shown h (Ok d) = (h d, g)
    told_is shown h (Err e) = (tt, g)

    statement_is : (name : List ℕ) (x : Option (Entry (StoredStatement RelationStatement)))
        → EffectIs IsText (described_statement told.extended s name x)
    statement_is name None = (tt, g)
    statement_is name (Some entry.Empty) = (statement_description_is (record { parameters = []; fields = [] }), g)
    statement_is name (Some (entry.Value x)) =
        told_is statement_description statement_description_is (told.extended.describe_statement s.info x)

    portal_told_is : (name : List ℕ) (x : Option (Entry (TablePortal RelationStatement)))
        → EffectIs IsText (described_portal told.extended s name x)
    portal_told_is name None = (tt, g)
    portal_told_is name (Some entry.Empty) = (portal_description_is (record { fields = [] }), g)
    portal_told_is name (Some (entry.Value p)) =
        told_is portal_description portal_description_is (told.extended.describe_portal s.info p.bound)

    describe_is : (m : Describe) → EffectIs IsText (on_describe told.extended s m)
    describe_is m =
        let by_statement : Effect RelationStatement = described_statement told.extended s m.name (fin.get s.statements m.name) in
        let by_portal : Effect RelationStatement = described_portal told.extended s m.name (fin.get s.portals m.name) in
        let refused : Effect RelationStatement = refuses s (wire.InvalidTargetType m.target_type) in
        either_effect IsText (m.target_type == statement_target) by_statement (if m.target_type == portal_target then by_portal
        else refused)
        (statement_is m.name (fin.get s.statements m.name))
        (either_effect IsText (m.target_type == portal_target) by_portal refused (portal_told_is m.name (fin.get s.portals m.name)) (tt, g))

    close_is : (m : Close) → EffectIs IsText (on_close s m)
    close_is m = (
      (tt, tt),
      either_good (m.target_type == statement_target) (without_statement s m.name)
          (if m.target_type == portal_target then without_portal s m.name else s) g
          (either_good (m.target_type == portal_target) (without_portal s m.name) s (without_is m.name) g),
    )

    statement_row_is : (m : PgWireFrontendMessage) → Picks IsFormat m → EffectIs IsText (statement_row told.extended s m)
    statement_row_is (client.Parse m) picked = parsed_is m (prepared told.extended.parser s.info m)
    statement_row_is (client.Bind m) picked = bound_is m picked (fin.get s.statements m.statement_name)
    statement_row_is (client.Describe m) picked = describe_is m
    statement_row_is (client.Close m) picked = close_is m
    statement_row_is (client.PgSync m) picked = ((tt, tt), without_is [])
    statement_row_is (client.Terminate m) picked = (tt, tt)
    statement_row_is _ picked = (tt, g)

    -- ---- Execute

    page_effect_is : (F : Format → Type 0) (t : Talk) → Good t
        → (tag : List ℕ) (number : ℕ) (rows : List DataRow) (ending : PageEnd DataRow)
        → AllByRecursion (RowIn F) rows → EffectIs F (page_effect t tag number rows ending)
    page_effect_is F t f tag number rows (AtLimit items) h =
        (shown_append F (row_replies rows) (server.PortalSuspended (record {}) ∷ []) (row_replies_are (RowIn F) IsLine rows h) (tt, tt), f)
    page_effect_is F t f tag number rows AtEnd h =
        (shown_append F (row_replies rows) (done_with tag number ∷ []) (row_replies_are (RowIn F) IsLine rows h) (tt, tt), f)
    page_effect_is F t f tag number rows (AtError e items) h = (tt, f)

    stage_is : (own : Format) (r : ToldRows) (delivered : ℕ) (rows : List DataRow) (ending : PageEnd DataRow)
        → EndIs (RowIn (Own own)) ending
        → StageIs own (stage_after r delivered rows ending)
    stage_is own r d rows (AtLimit items) h = h
    stage_is own r d rows AtEnd h = tt
    stage_is own r d rows (AtError e items) h = h

    module _ (m : Execute) (p : TablePortal RelationStatement) (is : IsFormat p.bound.result_column_format) where
      abbrev own : Format
      own = p.bound.result_column_format

      fetched_is : (r : ToldRows) (delivered : ℕ) → ItemsAre (RowIn (Own own)) r.items → EffectIs (Own own) (fetched s m p r delivered)
      fetched_is r delivered h =
          let page = item_page m.max_rows r.items in
          let shown = page_is (RowIn (Own own)) m.max_rows r.items h in
          page_effect_is (Own own) (with_portal s m.name (entry.Value (at_stage p (stage_after r delivered page.rows page.ending))))
          (portal_is m.name (at_stage p (stage_after r delivered page.rows page.ending))
          (is, stage_is own r delivered page.rows page.ending shown.1))
          r.command_tag (delivered_after delivered (length page.rows)) page.rows page.ending shown.0

      behind_is : (b : Bool) (t : Talk) → Good t → (x : PgWireConnectionState) → Good (if b then in_phase t x else t)
      behind_is true t f x = f
      behind_is false t f x = f

      sent_is : (t : Talk) → Good t → (sent : Sent) (o : Option PgWireError) → Shown (Own own) sent.replies
          → EffectIs (Own own) (sent_in_execute t sent o)
      sent_is t f sent None h = (h, behind_is sent.copying t f (phase.CopyInProgress true))
      sent_is t f sent (Some e) h = (h, f)

      other_is : (t : Talk) → Good t → (r : ToldResponse) → ResponseIs (RowIn (Own own)) IsLine r
          → EffectIs (Own own) (sent_in_execute t (responded t.info.status r) (responded t.info.status r).refusal)
      other_is t f r h =
          let sent = responded t.info.status r in
          sent_is t f sent sent.refusal (responded_are (RowIn (Own own)) IsLine t.info.status r h)

      executed_is : (r : ToldResponse) → ResponseIs (RowIn (Own own)) IsLine r → EffectIs (Own own) (executed s m p r)
      executed_is (response.Query r) h = fetched_is r 0 h
      executed_is (response.Error info) h = (tt, g)
      executed_is (response.TransactionEnd tag) h = other_is (without_unnamed_portal s) (without_is []) (response.TransactionEnd tag) tt
      executed_is response.EmptyQuery h = other_is s g response.EmptyQuery tt
      executed_is (response.Execution tag) h = other_is s g (response.Execution tag) tt
      executed_is (response.TransactionStart tag) h = other_is s g (response.TransactionStart tag) tt
      executed_is (response.CopyIn c) h = other_is s g (response.CopyIn c) tt
      executed_is (response.CopyOut c) h = other_is s g (response.CopyOut c) h
      executed_is (response.CopyBoth c) h = other_is s g (response.CopyBoth c) h

      polled_is : (v : Verdict) (r : Result ToldResponse PgWireError) → ResultIs own r → EffectIs (Own own) (execute_polled s m p v r)
      polled_is Unanswered r h = (tt, tt)
      polled_is Canceled r h = (tt, g)
      polled_is Passed (Ok r) h = executed_is r h
      polled_is Passed (Err e) h = (tt, g)

      staged_is : (answers : List Bool) (stage : Stage) → StageIs own stage
          → EffectIs (Own own) (executed_portal told.extended answers s m p stage).effect
      staged_is answers Unstarted h =
          let query = told.extended.query s.info p.bound m.max_rows in
          polled_is (questioned query.owes answers).verdict query.outcome (query_is s.info g.0 own p.bound.statement.statement)
      staged_is answers (Started r delivered) h = fetched_is r delivered h
      staged_is answers (Ended delivered) h = ((tt, tt), g)

    execute_is : (answers : List Bool) (m : Execute) (x : Option (Entry (TablePortal RelationStatement))) → fin.get s.portals m.name ≡ x
        → EffectIs (IsOwnFormat s (client.Execute m)) (executed_entry told.extended answers s m x).effect
    execute_is answers m None e = (tt, g)
    execute_is answers m (Some entry.Empty) e = ((tt, tt), g)
    execute_is answers m (Some (entry.Value p)) e =
        let found = ap value_under e in
        let is = g.1 m.name p found in
        let done = staged_is m p is.0 answers p.stage is.1 in (
          replies_wider relations style (Own p.bound.result_column_format) (IsOwnFormat s (client.Execute m)) (λ chosen same. (
            p,
            found,
            same,
          ))
              (executed_portal told.extended answers s m p p.stage).effect.replies done.0,
          done.1,
        )

    -- ---- Query

    answered_is : (sent : Sent) (o : Option PgWireError) → Shown IsText sent.replies → EffectIs IsText (answered s sent o)
    answered_is sent None h = either_effect IsText sent.copying (says sent.replies (in_phase s (phase.CopyInProgress false)))
        (says (sent.replies ++ ready sent.status ∷ []) (with_status s sent.status)) (h, g)
        (shown_append IsText sent.replies (ready sent.status ∷ []) h (tt, tt), g)
    answered_is sent (Some e) h = (h, g)

    query_polled_is : (v : Verdict) (r : Result (List ToldResponse) PgWireError) → ResultsAre r → EffectIs IsText (query_polled s v r)
    query_polled_is Unanswered r h = (tt, tt)
    query_polled_is Canceled r h = (tt, g)
    query_polled_is Passed (Ok responses) h =
        let sent = responded_all s.info.status responses in
        answered_is sent sent.refusal (all_responded_are (RowIn IsText) IsLine s.info.status responses h)
    query_polled_is Passed (Err e) h = (tt, g)

    query_row_is : (answers : List Bool) (m : Query) (b : Bool)
        → EffectIs IsText (if b then silent (says (server.EmptyQueryResponse (record {}) ∷ ready s.info.status ∷ []) s)
        else query_run answers s (told.simple s.info m.query)).effect
    query_row_is answers m true = ((tt, (tt, tt)), g)
    query_row_is answers m false =
        let query = told.simple s.info m.query in
        query_polled_is (questioned query.owes answers).verdict query.outcome
        (simple_is s.info g.0 (trimmed m.query) (meaning relations m.query))

    -- ---- each phase

    ready_is : (answers : List Bool) (m : PgWireFrontendMessage) → Picks IsFormat m
        → EffectIs (IsOwnFormat s m) (ready_row told answers s m).effect
    ready_is answers (client.Query m) picked = query_row_is answers m (is_blank m.query)
    ready_is answers (client.Execute m) picked = execute_is answers m (fin.get s.portals m.name) refl
    ready_is answers m picked = statement_row_is m picked

    waiting_is : (F : Format → Type 0) (m : PgWireFrontendMessage) → EffectIs F (awaiting_sync_row s m)
    waiting_is F (client.PgSync m) = ((tt, tt), without_is [])
    waiting_is F (client.Terminate m) = (tt, tt)
    waiting_is F _ = (tt, g)

    copy_row_is : (F : Format → Type 0) (is_extended : Bool) (m : PgWireFrontendMessage)
        → EffectIs F (copy_row told.copying is_extended s m)
    copy_row_is F is_extended (client.CopyData m) = (tt, g)
    copy_row_is F is_extended (client.CopyDone m) = (tt, g)
    copy_row_is F is_extended (client.CopyFail m) = (tt, g)
    copy_row_is F is_extended (client.Terminate m) = (tt, tt)
    copy_row_is F is_extended _ = (tt, g)

    row_is : (answers : List Bool) (m : PgWireFrontendMessage) → Picks IsFormat m → (x : PgWireConnectionState) → is_startup_phase x ≡ false
        → EffectIs (IsOwnFormat s m) (row told answers s m x).effect
    row_is answers m picked phase.AwaitingStartup q = absurd (let f : ⊥ = cc in f)
    row_is answers m picked phase.ReadyForQuery q = ready_is answers m picked
    row_is answers m picked phase.AwaitingSync q = waiting_is (IsOwnFormat s m) m
    row_is answers m picked (phase.CopyInProgress is_extended) q = copy_row_is (IsOwnFormat s m) is_extended m

    -- the formats of a message's results are such
    own_is : (m : PgWireFrontendMessage) (chosen : Format) → IsOwnFormat s m chosen → IsFormat chosen
    own_is (client.Execute m) chosen (p, found, same) = subst IsFormat (sym same) (g.1 m.name p found).0
    own_is _ chosen same = subst IsFormat (sym same) text_is

  -- ---- a conversation whose startup packet came

  abbrev table : List Bool → Talk → PgWireFrontendMessage → Answer Talk
  table = whole_table (relation_handlers relations)

  pub step_is : (answers : List Bool) (s : Talk) (m : PgWireFrontendMessage) → awaits s ≡ false → Good s → Picks IsFormat m
      → AnswerIs (IsOwnFormat s m) (table answers s m)
  step_is answers s m q g picked =
      settle_is (IsOwnFormat s m) (scope_in s.info.state m) (row (relation_handlers relations) answers s m s.info.state)
      (row_is s g answers m picked s.info.state q)

  -- where it goes on, the startup packet came and the state is good
  abbrev pub StartedIs : Next Talk → Type 0
  StartedIs (Goes s) = (awaits s ≡ false) × Good s
  StartedIs (Ends kind) = Unit {0}
  StartedIs Stops = Unit {0}

  abbrev pub RunIs : Answer Talk → Type 0
  RunIs a = Shown IsFormat a.replies × StartedIs a.next

  pub continued_is : (Last : Next Talk → Type 0) → ((kind : EndKind) → Last (Ends kind)) → Last Stops
      → (a : Answer Talk) (n : Next Talk) → a.next ≡ n → (others : Talk → Answer Talk) → Shown IsFormat a.replies
      → ((t : Talk) → n ≡ Goes t → Shown IsFormat (others t).replies × Last (others t).next)
      → Shown IsFormat (continued a n others).replies × Last (continued a n others).next
  continued_is Last ends stops a (Goes t) e others h k =
      let behind = k t refl in
      (shown_append IsFormat a.replies (others t).replies h behind.0, behind.1)
  continued_is Last ends stops a (Ends kind) e others h k = (h, subst Last (sym e) (ends kind))
  continued_is Last ends stops a Stops e others h k = (h, subst Last (sym e) stops)

  pub started_is : (answers : List Bool) (s : Talk) (messages : List PgWireFrontendMessage) → awaits s ≡ false → Good s
      → AllByRecursion (Picks IsFormat) messages → RunIs (conversation table answers s messages)
  started_is answers s [] q g picked = (tt, (q, g))
  started_is answers s (m ∷ messages) q g picked =
      let given = table answers s m in
      let first = step_is answers s m q g picked.0 in
      continued_is StartedIs (λ kind. tt) tt given given.next refl (λ t. conversation table (left_by given.calls answers) t messages)
      (replies_wider relations style (IsOwnFormat s m) IsFormat (own_is s g m) given.replies first.0)
      (λ t e. started_is (left_by given.calls answers) t messages
      (row_keeps (relation_handlers relations) answers s t m s.info.state refl e ∙ ap (awaits_startup_after m) q ∙ started_stays m)
      (subst NextIs e first.1) picked.1)
