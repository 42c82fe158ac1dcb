-- Statements and portals: Parse, Bind, Describe, Close, Sync (protocol: Message Flow, Extended Query).
use Rattle.std.specs.Prelude.{ℕ, List, [], ◌∷◌, ◌==◌, ◌≡◌, ◌≤◌, ◌<◌, IsOkAnd, Option, Some, None, Result, Ok, Err, nat_le, nat_lt, if◌then◌else◌, length}
use Rattle.std.specs.FinMap as fin
use Rattle.pg_messages.specs.declared.extendedquery.Parse.{Parse}
use Rattle.pg_messages.specs.declared.extendedquery.Bind.{Bind}
use Rattle.pg_messages.specs.declared.extendedquery.Describe.{Describe}
use Rattle.pg_messages.specs.declared.extendedquery.Close.{Close}
use Rattle.pg_messages.specs.declared.backend.PgWireBackendMessage.{PgWireBackendMessage}
use Rattle.pg_messages.specs.declared.backend.PgWireBackendMessage.TheVariants as server
use Rattle.pg_messages.specs.Frames.{statement_target, portal_target}
use Rattle.pg_results.specs.declared.error.PgWireError.{PgWireError}
use Rattle.pg_results.specs.declared.error.PgWireError.TheVariants as wire
use Rattle.pg_results.specs.declared.client.PgWireConnectionState.TheVariants as phase
use Rattle.pg_results.specs.declared.stmt.StoredStatement.{StoredStatement}
use Rattle.pg_portal.specs.declared.store.Entry.{Entry}
use Rattle.pg_portal.specs.declared.store.Entry.TheVariants as entry
use Rattle.pg_results.specs.declared.describe.DescribeStatementResponse.{DescribeStatementResponse}
use Rattle.pg_results.specs.declared.describe.DescribePortalResponse.{DescribePortalResponse}
use Rattle.pg_results.specs.Describing.{is_empty_list}
use Rattle.pg_results.specs.Fields.{Field}
use Rattle.pg_portal.specs.Maps.{Maps, maps_without_statement, maps_without_portal}
use Rattle.pg_results.specs.Statements.{prepared}
use Rattle.pg_portal.specs.Statements.{bound_by}
use Rattle.pg_results.specs.Told.{ParserTold}
use Rattle.pg_portal.specs.Told.{TablePortal, Unstarted}
use Rattle.pg_replies.specs.Descriptions.{description}
use Rattle.pg_client.specs.Errors.{values_for_empty, too_few_codes}
use Rattle.pg_replies.specs.Replies.{Replies, ready}
use Rattle.conversation_table.specs.Handlers.{ExtendedTold}
use Rattle.pg_client.specs.State.{State, in_phase, with_statement, with_portal, without_statement, without_portal, without_unnamed_portal}
use Rattle.pg_client.specs.Effect.{Effect, says, refuses}

-- ---- Parse

abbrev pub parse_complete : Replies
parse_complete = server.ParseComplete (record {}) ∷ []

abbrev pub entry_of : {S : Type 0} → Option (StoredStatement S) → Entry (StoredStatement S)
entry_of None = entry.Empty
entry_of (Some statement) = entry.Value statement

abbrev pub parsed : {S : Type 0} → State S → Parse → Result (Option (StoredStatement S)) PgWireError → Effect S
parsed s m (Ok statement) = says parse_complete (with_statement s m.name (entry_of statement))
parsed s m (Err e) = refuses s e

-- Parse: a blank query is an empty statement, and the parser is asked about every other.
abbrev pub on_parse : {S : Type 0} → ExtendedTold S → State S → Parse → Effect S
on_parse h s m = parsed s m (prepared h.parser s.info m)

-- ---- Bind

abbrev pub bind_complete : Replies
bind_complete = server.BindComplete (record {}) ∷ []

-- an empty statement takes no values
abbrev pub bound_empty : {S : Type 0} → State S → Bind → Effect S
bound_empty s m =
    if is_empty_list m.parameters then says bind_complete (with_portal s m.portal_name entry.Empty)
    else refuses s (wire.UserError (values_for_empty (length m.parameters) m.statement_name))

-- the portal of a statement, not started
abbrev pub portal_bound : {S : Type 0} → Bind → StoredStatement S → TablePortal S
portal_bound m statement = record { bound = bound_by m statement; stage = Unstarted }

abbrev pub bound_portal : {S : Type 0} → State S → Bind → StoredStatement S → Effect S
bound_portal s m statement = says bind_complete (with_portal s m.portal_name (entry.Value (portal_bound m statement)))

-- Two or more result codes have to be at least as many as the columns.
abbrev pub bound_with_columns : {S : Type 0} → State S → Bind → StoredStatement S → Result (List Field) PgWireError → Effect S
bound_with_columns s m statement (Err e) = refuses s e
bound_with_columns s m statement (Ok columns) =
    if nat_lt (length m.result_column_format_codes) (length columns)
    then refuses s (wire.UserError (too_few_codes (length m.result_column_format_codes) (length columns)))
    else bound_portal s m statement

-- No code, or one, serves for all columns, and the parser isn't asked.
abbrev pub bound_statement : {S : Type 0} → ParserTold S → State S → Bind → StoredStatement S → Effect S
bound_statement parser s m statement =
    if nat_le 2 (length m.result_column_format_codes)
    then bound_with_columns s m statement (parser.columns statement.statement None)
    else bound_portal s m statement

abbrev pub bound : {S : Type 0} → ExtendedTold S → State S → Bind → Option (Entry (StoredStatement S)) → Effect S
bound h s m None = refuses s (wire.StatementNotFound m.statement_name)
bound h s m (Some entry.Empty) = bound_empty s m
bound h s m (Some (entry.Value statement)) = bound_statement h.parser s m statement

-- Bind: the portal holds its own statement, so that a later Parse doesn't change it.
abbrev pub on_bind : {S : Type 0} → ExtendedTold S → State S → Bind → Effect S
on_bind h s m = bound h s m (fin.get s.statements m.statement_name)

-- this many result codes are enough for the columns
abbrev pub HasEnough : ℕ → Result (List Field) PgWireError → Type 0
HasEnough codes columns = 2 ≤ codes → IsOkAnd columns (λ fields. length fields ≤ codes)

-- this many result codes are too few for the columns, or the parser told an error in place of the columns
abbrev pub IsTooFew : ℕ → Result (List Field) PgWireError → PgWireError → Type 0
IsTooFew codes (Err told) e = (2 ≤ codes) × (e ≡ told)
IsTooFew codes (Ok fields) e = (2 ≤ codes) × (codes < length fields) × (e ≡ wire.UserError (too_few_codes codes (length fields)))

-- ---- Describe

-- A statement is described by its parameters' types and its columns; it has no data where it has neither.
abbrev pub statement_description : DescribeStatementResponse → Replies
statement_description d = description (record { parameters = Some d.parameters; fields = d.fields })

abbrev pub portal_description : DescribePortalResponse → Replies
portal_description d = description (record { parameters = None; fields = d.fields })

-- a handler's description is sent as its replies, or its error is that of the message
abbrev pub described : {S D : Type 0} → State S → (D → Replies) → Result D PgWireError → Effect S
described s shown (Ok d) = says (shown d) s
described s shown (Err e) = refuses s e

abbrev pub described_statement : {S : Type 0} → ExtendedTold S → State S → List ℕ → Option (Entry (StoredStatement S)) → Effect S
described_statement h s name None = refuses s (wire.StatementNotFound name)
described_statement h s name (Some entry.Empty) = says (statement_description (record { parameters = []; fields = [] })) s
described_statement h s name (Some (entry.Value statement)) = described s statement_description (h.describe_statement s.info statement)

abbrev pub described_portal : {S : Type 0} → ExtendedTold S → State S → List ℕ → Option (Entry (TablePortal S)) → Effect S
described_portal h s name None = refuses s (wire.PortalNotFound name)
described_portal h s name (Some entry.Empty) = says (portal_description (record { fields = [] })) s
described_portal h s name (Some (entry.Value p)) = described s portal_description (h.describe_portal s.info p.bound)

-- Describe: `S` is a statement, `P` a portal.
abbrev pub on_describe : {S : Type 0} → ExtendedTold S → State S → Describe → Effect S
on_describe h s m =
    if m.target_type == statement_target then described_statement h s m.name (fin.get s.statements m.name)
    else if m.target_type == portal_target then described_portal h s m.name (fin.get s.portals m.name)
    else refuses s (wire.InvalidTargetType m.target_type)

-- ---- Close, Sync

-- Close: `S` removes a statement, `P` a portal; portals of a removed statement stay.
abbrev pub on_close : {S : Type 0} → State S → Close → Effect S
on_close s m = says (server.CloseComplete (record {}) ∷ [])
    (if m.target_type == statement_target then without_statement s m.name
    else if m.target_type == portal_target then without_portal s m.name else s)

-- the statements and portals that a Close leaves
abbrev pub maps_after_close : {S : Type 0} → Maps S → Close → Maps S
maps_after_close maps m =
    if m.target_type == statement_target then maps_without_statement maps m.name
    else if m.target_type == portal_target then maps_without_portal maps m.name
    else maps

-- Sync: the unnamed portal goes, and the client is told that the server is ready.
abbrev pub on_sync : {S : Type 0} → State S → Effect S
on_sync s = says (ready s.info.status ∷ []) (in_phase (without_unnamed_portal s) phase.ReadyForQuery)
