-- Core conversation table: extended queries over relations with binary results (protocol: Message Flow, Extended Query).
use Rattle.std.specs.Prelude.{ℕ, ℤ, Bool, true, false, List, [], ◌∷◌, ◌++◌, ◌+◌, ◌==◌, ◌&&◌, ◌||◌, Option, Some, None, if◌then◌else◌, nat_le, nat_lt, map, length, drop, codes, is_some}
use Rattle.std.specs.FinMap as fin
use Rattle.pg_interval.specs.declared.pg_interval.Interval.{Interval}
use Rattle.pg_messages.specs.declared.codec.ProtocolVersion.{ProtocolVersion}
use Rattle.pg_messages.specs.declared.codec.ProtocolVersion.TheVariants.{PROTOCOL3_0, PROTOCOL3_2}
use Rattle.pg_messages.specs.declared.startup.Startup.{Startup}
use Rattle.pg_messages.specs.declared.extendedquery.Parse.{Parse}
use Rattle.pg_messages.specs.declared.extendedquery.Bind.{Bind}
use Rattle.pg_messages.specs.declared.extendedquery.Describe.{Describe}
use Rattle.pg_messages.specs.declared.extendedquery.Execute.{Execute}
use Rattle.pg_messages.specs.declared.extendedquery.Close.{Close}
use Rattle.pg_messages.specs.declared.frontend.PgWireFrontendMessage.{PgWireFrontendMessage}
use Rattle.pg_messages.specs.declared.frontend.PgWireFrontendMessage.TheVariants as client
use Rattle.pg_messages.specs.declared.response.TransactionStatus.{TransactionStatus}
use Rattle.pg_messages.specs.declared.response.TransactionStatus.TheVariants as status
use Rattle.pg_messages.specs.declared.backend.PgWireBackendMessage.{PgWireBackendMessage}
use Rattle.pg_messages.specs.declared.backend.PgWireBackendMessage.TheVariants as server
use Rattle.pg_messages.specs.Status.{to_error_state, to_in_transaction_state}
use Rattle.pg_messages.specs.Frames.{protocol_3_0, protocol_3_2, statement_target, portal_target}
use Rattle.pg_types.specs.declared.field_format.FieldFormat.{FieldFormat}
use Rattle.pg_types.specs.declared.field_format.FieldFormat.TheVariants as field
use Rattle.pg_types.specs.Types.{type_of_oid}
use Rattle.pg_results.specs.declared.error.PgWireError.{PgWireError}
use Rattle.pg_results.specs.declared.error.PgWireError.TheVariants as wire
use Rattle.pg_portal.specs.declared.store.Entry.{Entry}
use Rattle.pg_portal.specs.declared.store.Entry.TheVariants as entry
use Rattle.pg_results.specs.Describing.{is_empty_list}
use Rattle.pg_results.specs.Errors.{info_of}
use Rattle.named_entries.specs.Names.{NameMap}
use Rattle.pg_results.specs.Page.{Page, delivered_after, page}
use Rattle.pg_results.specs.Texts.{is_blank}
use Rattle.pg_client.specs.declared.desk.DeskCall.{DeskCall}
use Rattle.pg_client.specs.declared.desk.DeskCall.TheVariants as desk
use Rattle.pg_client.specs.declared.ends.EndKind.{EndKind}
use Rattle.pg_client.specs.declared.ends.EndKind.TheVariants as end
use Rattle.pg_client.specs.Answer.{Answer, Table, Goes, Ends, Stops}
use Rattle.pg_client.specs.Errors.{values_for_empty, too_few_codes, unsupported_version}
use Rattle.conversation_table.specs.Questions.{Verdict, Passed, Canceled, Unanswered, started}
use Rattle.pg_replies.specs.Replies.{Replies, error_reply, ready, startup_replies, done, done_with, row_replies, row_description}
use Rattle.pg_client.specs.StartupRows.{told_key, narrowing}
use Rattle.relation_tables.specs.declared.Relation.{Relation}
use Rattle.relation_tables.specs.declared.RelationStatement.{RelationStatement}
use Rattle.relation_tables.specs.declared.RelationStatement.TheVariants as statement
use Rattle.relation_tables.specs.Errors.{unknown_relation}
use Rattle.relation_tables.specs.Queries.{trimmed}
use Rattle.relation_tables.specs.Relations.{meaning, relation_at, columns_of, column, binary_row}

-- ---- states

pub data CorePhase : Type 0 where
  NotStarted : CorePhase
  Ready : CorePhase
  AwaitingSync : CorePhase

-- a statement: what it means, and the oids of its parameters
pub record CoreStatement : Type 0 where
  pub means : RelationStatement
  pub oids : List ℕ

-- a portal: what its statement meant when it was bound, the position of the next row, the number of rows delivered, and whether it was
-- started
pub record CorePortal : Type 0 where
  pub means : RelationStatement
  pub position : ℕ
  pub delivered : ℕ
  pub is_started : Bool

pub record CoreState : Type 0 where
  pub phase : CorePhase
  pub transaction : TransactionStatus
  pub statements : NameMap (Entry CoreStatement)
  pub portals : NameMap (Entry CorePortal)

-- the relations, and the pid and key of the registration
pub record Setting : Type 0 where
  pub relations : List Relation
  pub pid : ℤ
  pub key : List ℕ

abbrev pub first_core_state : CoreState
first_core_state = record { phase = NotStarted; transaction = status.Idle; statements = fin.empty; portals = fin.empty }

abbrev pub core_says : Replies → CoreState → Answer CoreState
core_says replies s = record { replies = replies; calls = []; next = Goes s }

-- an error of an extended message: all is dropped until the next Sync
abbrev pub core_refuses : CoreState → PgWireError → Answer CoreState
core_refuses s e = core_says (error_reply (info_of e) ∷ []) (record s { phase = AwaitingSync; transaction = to_error_state s.transaction })

abbrev pub core_ends : Replies → EndKind → Answer CoreState
core_ends replies kind = record { replies = replies; calls = []; next = Ends kind }

-- ---- rows

-- the versions that are served, 3.0 and 3.2
abbrev pub is_served : ℕ → Bool
is_served code = code == protocol_3_0 || code == protocol_3_2

-- A version that is served: a client of 3.0 is told the first four bytes of the key, and the registration is narrowed to them where it has more.
abbrev pub core_accepts : Setting → CoreState → ProtocolVersion → Answer CoreState
core_accepts setting s version = record {
  replies = startup_replies setting.pid (told_key version setting.key);
  calls = narrowing version setting.key;
  next = Goes (record s { phase = Ready; transaction = status.Idle });
}

-- Startup: a version that is served, or the end. Nothing is stored yet.
abbrev pub core_startup : Setting → CoreState → Startup → Answer CoreState
core_startup setting s m =
    if m.code == protocol_3_0 then core_accepts setting s PROTOCOL3_0
    else if m.code == protocol_3_2 then core_accepts setting s PROTOCOL3_2
    else core_ends (error_reply (unsupported_version m.code) ∷ []) end.Fatal

abbrev pub core_stored : CoreState → List ℕ → Entry CoreStatement → Answer CoreState
core_stored s name e = core_says (server.ParseComplete (record {}) ∷ []) (record s { statements = fin.insert s.statements name e })

-- the oid of a parameter's type: the one that was given, or 705, `unknown`, where it isn't a known one
abbrev pub core_oid : ℕ → ℕ
core_oid oid = if is_some (type_of_oid oid) then oid else 705

abbrev pub core_parsed : CoreState → Parse → Option RelationStatement → Answer CoreState
core_parsed s m None = core_refuses s (wire.UserError (unknown_relation (trimmed m.query)))
core_parsed s m (Some means) = core_stored s m.name (entry.Value (record { means = means; oids = map core_oid m.type_oids }))

-- Parse: blank, BEGIN, COMMIT, or a relation.
abbrev pub core_parse : Setting → CoreState → Parse → Answer CoreState
core_parse setting s m =
    if is_blank m.query then core_stored s m.name entry.Empty else core_parsed s m (meaning setting.relations m.query)

abbrev pub core_put : CoreState → Bind → Entry CorePortal → Answer CoreState
core_put s m e = core_says (server.BindComplete (record {}) ∷ []) (record s { portals = fin.insert s.portals m.portal_name e })

-- An empty statement takes no values. Two or more result codes have to be at least as many as the statement's columns.
abbrev pub core_bound : Setting → CoreState → Bind → Option (Entry CoreStatement) → Answer CoreState
core_bound setting s m None = core_refuses s (wire.StatementNotFound m.statement_name)
core_bound setting s m (Some entry.Empty) =
    if is_empty_list m.parameters then core_put s m entry.Empty
    else core_refuses s (wire.UserError (values_for_empty (length m.parameters) m.statement_name))
core_bound setting s m (Some (entry.Value statement)) =
    let codes = length m.result_column_format_codes in
    let columns = length (columns_of setting.relations statement.means) in
    if nat_le 2 codes && nat_lt codes columns
    then core_refuses s (wire.UserError (too_few_codes codes columns))
    else core_put s m (entry.Value (record { means = statement.means; position = 0; delivered = 0; is_started = false }))

-- Bind: a portal at its first row.
abbrev pub core_bind : Setting → CoreState → Bind → Answer CoreState
core_bind setting s m = core_bound setting s m (fin.get s.statements m.statement_name)

-- the columns in a format, or NoData
abbrev pub core_columns : FieldFormat → Bool → List (List ℕ) → PgWireBackendMessage
core_columns format has_no_data columns = if has_no_data then server.NoData (record {}) else row_description (map (column format) columns)

abbrev pub core_statement_told : CoreState → List ℕ → List (List ℕ) → Answer CoreState
core_statement_told s oids columns =
    let has_no_data = is_empty_list oids && is_empty_list columns in
    core_says (server.ParameterDescription (record { types = oids }) ∷ core_columns field.Text has_no_data columns ∷ []) s

abbrev pub core_described_statement : Setting → CoreState → List ℕ → Option (Entry CoreStatement) → Answer CoreState
core_described_statement setting s name None = core_refuses s (wire.StatementNotFound name)
core_described_statement setting s name (Some entry.Empty) = core_statement_told s [] []
core_described_statement setting s name (Some (entry.Value statement)) =
    core_statement_told s statement.oids (columns_of setting.relations statement.means)

abbrev pub core_portal_told : CoreState → List (List ℕ) → Answer CoreState
core_portal_told s columns = core_says (core_columns field.Binary (is_empty_list columns) columns ∷ []) s

abbrev pub core_described_portal : Setting → CoreState → List ℕ → Option (Entry CorePortal) → Answer CoreState
core_described_portal setting s name None = core_refuses s (wire.PortalNotFound name)
core_described_portal setting s name (Some entry.Empty) = core_portal_told s []
core_described_portal setting s name (Some (entry.Value p)) = core_portal_told s (columns_of setting.relations p.means)

-- Describe: `S` is a statement, `P` a portal.
abbrev pub core_describe : Setting → CoreState → Describe → Answer CoreState
core_describe setting s m =
    if m.target_type == statement_target then core_described_statement setting s m.name (fin.get s.statements m.name)
    else if m.target_type == portal_target then core_described_portal setting s m.name (fin.get s.portals m.name)
    else core_refuses s (wire.InvalidTargetType m.target_type)

-- ---- Execute

-- the portal after a page
abbrev pub core_portal_after : CorePortal → Page (List Interval) → CorePortal
core_portal_after p page = record p {
  position = p.position + length page.rows;
  delivered = delivered_after p.delivered (length page.rows);
  is_started = true;
}

-- after a page's rows: PortalSuspended, or the tag with the number of rows delivered
abbrev pub core_page_end : CorePortal → Bool → PgWireBackendMessage
core_page_end after suspended = if suspended then server.PortalSuspended (record {}) else done_with (codes "SELECT") after.delivered

abbrev pub core_paged : CoreState → Execute → CorePortal → Page (List Interval) → Answer CoreState
core_paged s m after page = core_says (row_replies (map binary_row page.rows) ++ core_page_end after page.suspended ∷ [])
    (record s { portals = fin.insert s.portals m.name (entry.Value after) })

-- a page of a relation from the portal's position on
abbrev pub core_fetched : Setting → CoreState → Execute → CorePortal → ℕ → Answer CoreState
core_fetched setting s m p place =
    let fetched = page m.max_rows (drop p.position (relation_at setting.relations place).rows) in
    core_paged s m (core_portal_after p fetched) fetched

abbrev pub core_polled : Setting → CoreState → Execute → CorePortal → ℕ → Verdict → Answer CoreState
core_polled setting s m p place Unanswered = record { replies = []; calls = []; next = Stops }
core_polled setting s m p place Canceled = core_refuses s wire.QueryCanceled
core_polled setting s m p place Passed = core_fetched setting s m p place

-- the unnamed portal goes
abbrev pub without_unnamed : CoreState → CoreState
without_unnamed s = record s { portals = fin.remove s.portals [] }

abbrev pub calling : List DeskCall → Answer CoreState → Answer CoreState
calling calls a = record { replies = a.replies; calls = calls ++ a.calls; next = a.next }

abbrev pub core_begin : CoreState → Answer CoreState
core_begin s = core_says (done (codes "BEGIN") ∷ []) (record s { transaction = to_in_transaction_state s.transaction })

abbrev pub core_commit : CoreState → Answer CoreState
core_commit s = core_says (done (codes "COMMIT") ∷ []) (without_unnamed (record s { transaction = status.Idle }))

-- one start, and for a relation the questions of its unready polls
abbrev pub core_run : Setting → List Bool → CoreState → Execute → CorePortal → RelationStatement → Answer CoreState
core_run setting answers s m p statement.Begin = calling (desk.Start ∷ []) (core_begin s)
core_run setting answers s m p statement.Commit = calling (desk.Start ∷ []) (core_commit s)
core_run setting answers s m p (statement.Relation place) =
    let asked = started (relation_at setting.relations place).unready answers in
    calling asked.calls (core_polled setting s m p place asked.verdict)

-- A started portal calls nothing. Only a relation's portal is ever started.
abbrev pub core_executed_started : Setting → CoreState → Execute → CorePortal → RelationStatement → Answer CoreState
core_executed_started setting s m p (statement.Relation place) = core_fetched setting s m p place
core_executed_started setting s m p _ = core_says [] s

abbrev pub core_executed : Setting → List Bool → CoreState → Execute → Option (Entry CorePortal) → Answer CoreState
core_executed setting answers s m None = core_refuses s (wire.PortalNotFound m.name)
core_executed setting answers s m (Some entry.Empty) = core_says (server.EmptyQueryResponse (record {}) ∷ []) s
core_executed setting answers s m (Some (entry.Value p)) =
    if p.is_started then core_executed_started setting s m p p.means
    else core_run setting answers s m p p.means

abbrev pub core_execute : Setting → List Bool → CoreState → Execute → Answer CoreState
core_execute setting answers s m = core_executed setting answers s m (fin.get s.portals m.name)

-- ---- Close, Sync

-- Close: portals of a removed statement stay.
abbrev pub core_close : CoreState → Close → Answer CoreState
core_close s m = core_says (server.CloseComplete (record {}) ∷ [])
    (if m.target_type == statement_target then record s { statements = fin.remove s.statements m.name }
    else if m.target_type == portal_target then record s { portals = fin.remove s.portals m.name } else s)

-- Sync: the unnamed portal goes.
abbrev pub core_sync : CoreState → Answer CoreState
core_sync s = core_says (ready s.transaction ∷ []) (record (without_unnamed s) { phase = Ready })

-- ---- each message

abbrev pub core_row : Setting → List Bool → CoreState → CorePhase → PgWireFrontendMessage → Answer CoreState
core_row setting answers s NotStarted (client.Startup m) = core_startup setting s m
core_row setting answers s NotStarted _ = core_says [] s
core_row setting answers s _ (client.Terminate m) = core_ends [] end.Terminate
core_row setting answers s _ (client.PgSync m) = core_sync s
core_row setting answers s AwaitingSync _ = core_says [] s
core_row setting answers s Ready (client.Parse m) = core_parse setting s m
core_row setting answers s Ready (client.Bind m) = core_bind setting s m
core_row setting answers s Ready (client.Describe m) = core_describe setting s m
core_row setting answers s Ready (client.Execute m) = core_execute setting answers s m
core_row setting answers s Ready (client.Close m) = core_close s m
core_row setting answers s Ready _ = core_says [] s

abbrev pub core_table : Setting → Table CoreState
core_table setting answers s m = core_row setting answers s s.phase m

-- whether the startup packet is still awaited
abbrev pub is_not_started : CorePhase → Bool
is_not_started NotStarted = true
is_not_started _ = false

abbrev pub core_awaits : CoreState → Bool
core_awaits s = is_not_started s.phase
