-- The cause of each error of the relation server: a message that is taken in a state, over relations and with the
-- registry's answers to come.
use Rattle.std.specs.Prelude.{ℕ, ℤ, Bool, true, List, [], ◌≡◌, ◌≢◌, ◌≤◌, ◌<◌, ◌-◌, ◌⊎◌, Some, None, IsTrue, length, drop, zip, codes}
use Rattle.std.specs.List.{Contains}
use Rattle.std.specs.Str.{str_eq_ignore_ascii_case}
use Rattle.std.specs.FinMap as fin
use Rattle.pg_interval.specs.declared.pg_interval.Interval.{Interval}
use Rattle.pg_messages.specs.declared.frontend.PgWireFrontendMessage.{PgWireFrontendMessage}
use Rattle.pg_messages.specs.declared.frontend.PgWireFrontendMessage.TheVariants as client
use Rattle.pg_messages.specs.Frames.{protocol_3_0, protocol_3_2, statement_target, portal_target}
use Rattle.pg_types.specs.declared.field_format.FieldFormat.{FieldFormat}
use Rattle.pg_types.specs.declared.field_format.FieldFormat.TheVariants as field
use Rattle.pg_text.specs.Words.{interval_style_of}
use Rattle.pg_results.specs.declared.client.PgWireConnectionState.TheVariants as phase
use Rattle.pg_results.specs.declared.format.Format.TheVariants as format
use Rattle.pg_results.specs.declared.stmt.StoredStatement.{StoredStatement}
use Rattle.pg_portal.specs.declared.store.Entry.TheVariants as entry
use Rattle.pg_results.specs.Page.{page}
use Rattle.pg_portal.specs.Told.{TablePortal, Stage, Unstarted, Started, Ended}
use Rattle.pg_client.specs.declared.desk.DeskCall.TheVariants as desk
use Rattle.pg_client.specs.Answer.{Answer, conversation}
use Rattle.conversation_table.specs.Questions.{Passed, started}
use Rattle.pg_client.specs.State.{State, first_state}
use Rattle.conversation_table.specs.Table.{whole_table}
use Rattle.relation_tables.specs.declared.Relation.{Relation}
use Rattle.relation_tables.specs.declared.RelationStatement.{RelationStatement}
use Rattle.relation_tables.specs.declared.RelationStatement.TheVariants as statement
use Rattle.relation_tables.specs.Queries.{trimmed, words, copied_name}
use Rattle.relation_tables.specs.RelationHandler.{style_text, column_formats, relation_handlers}
use Rattle.relation_tables.specs.Relations.{meaning, place_of, relation_at, columns_of}

-- what holds of a message that is taken in a state
abbrev pub Cause : Type 1
Cause = List Relation → List Bool → State RelationStatement → PgWireFrontendMessage → Type 0

-- the answer to the message
abbrev pub answer : List Relation → List Bool → State RelationStatement → PgWireFrontendMessage → Answer (State RelationStatement)
answer relations answers s m = whole_table (relation_handlers relations) answers s m

-- the answer to messages one after another, from the start of a session with a registration: a pid and a key
abbrev pub from_start : List Relation → ℤ × List ℕ → List Bool → List PgWireFrontendMessage → Answer (State RelationStatement)
from_start relations registration answers messages =
    conversation (whole_table (relation_handlers relations)) answers (first_state registration.0 registration.1) messages

abbrev pub IsReady : State RelationStatement → Type 0
IsReady s = s.info.state ≡ phase.ReadyForQuery

-- a COPY from the client is in progress
abbrev pub IsInCopy : State RelationStatement → Type 0
IsInCopy s = (is_extended : Bool) × (s.info.state ≡ phase.CopyInProgress is_extended)

-- ---- the startup packet

-- a startup packet of a version other than 3.0, which is 196608, and 3.2, which is 196610
abbrev pub IsOtherVersion : PgWireFrontendMessage → Type 0
IsOtherVersion (client.Startup m) = (m.code ≢ protocol_3_0) × (m.code ≢ protocol_3_2)
IsOtherVersion _ = ⊥

-- The session isn't started, and a version is asked for that isn't served.
abbrev pub AsksOtherVersion : Cause
AsksOtherVersion relations answers s m = (s.info.state ≡ phase.AwaitingStartup) × IsOtherVersion m

-- ---- names

-- a Bind, or a Describe of a statement, whose name the map of statements lacks
abbrev pub LacksStatement : State RelationStatement → PgWireFrontendMessage → Type 0
LacksStatement s (client.Bind m) = fin.get s.statements m.statement_name ≡ None
LacksStatement s (client.Describe m) = (m.target_type ≡ statement_target) × (fin.get s.statements m.name ≡ None)
LacksStatement s _ = ⊥

abbrev pub NamesNoStatement : Cause
NamesNoStatement relations answers s m = IsReady s × LacksStatement s m

-- an Execute, or a Describe of a portal, whose name the map of portals lacks
abbrev pub LacksPortal : State RelationStatement → PgWireFrontendMessage → Type 0
LacksPortal s (client.Execute m) = fin.get s.portals m.name ≡ None
LacksPortal s (client.Describe m) = (m.target_type ≡ portal_target) × (fin.get s.portals m.name ≡ None)
LacksPortal s _ = ⊥

abbrev pub NamesNoPortal : Cause
NamesNoPortal relations answers s m = IsReady s × LacksPortal s m

-- ---- bytes and counts

-- a Describe whose byte is neither `S` nor `P`
abbrev pub DescribesNeither : PgWireFrontendMessage → Type 0
DescribesNeither (client.Describe m) = (m.target_type ≢ statement_target) × (m.target_type ≢ portal_target)
DescribesNeither _ = ⊥

-- a Bind that gives values to an empty statement
abbrev pub GivesValuesToEmpty : State RelationStatement → PgWireFrontendMessage → Type 0
GivesValuesToEmpty s (client.Bind m) = (fin.get s.statements m.statement_name ≡ Some entry.Empty) × (m.parameters ≢ [])
GivesValuesToEmpty s _ = ⊥

-- a Bind with at least two result codes and fewer than its statement has columns
abbrev pub GivesTooFewCodes : List Relation → State RelationStatement → PgWireFrontendMessage → Type 0
GivesTooFewCodes relations s (client.Bind m) = (x : StoredStatement RelationStatement)
    × (fin.get s.statements m.statement_name ≡ Some (entry.Value x)) × (2 ≤ length m.result_column_format_codes)
    × (length m.result_column_format_codes < length (columns_of relations x.statement))
GivesTooFewCodes relations s _ = ⊥

abbrev pub BreaksProtocol : Cause
BreaksProtocol relations answers s m =
    IsReady s × (DescribesNeither m ⊎ (GivesValuesToEmpty s m ⊎ GivesTooFewCodes relations s m))

-- ---- texts

-- BEGIN or COMMIT in any ASCII case
abbrev pub IsTransactionWord : List ℕ → Type 0
IsTransactionWord text = IsTrue (str_eq_ignore_ascii_case text (codes "BEGIN")) ⊎ IsTrue (str_eq_ignore_ascii_case text (codes "COMMIT"))

abbrev pub IsRelationName : List Relation → List ℕ → Type 0
IsRelationName relations text = (r : Relation) × Contains relations r × (r.name ≡ text)

-- neither empty, nor BEGIN or COMMIT, nor a relation's name
abbrev pub IsUnknown : List Relation → List ℕ → Type 0
IsUnknown relations text = (text ≢ []) × (¬ IsTransactionWord text) × (¬ IsRelationName relations text)

-- `COPY name TO STDOUT` of a relation's name
abbrev pub IsCopyOfRelation : List Relation → List ℕ → Type 0
IsCopyOfRelation relations text = (name : List ℕ) × (copied_name (words text) ≡ Some name) × IsRelationName relations name

-- a Parse or Query whose text, trimmed at both ends, is unknown; in a Query it is no COPY of a relation either
abbrev pub HasUnknownText : List Relation → PgWireFrontendMessage → Type 0
HasUnknownText relations (client.Parse m) = IsUnknown relations (trimmed m.query)
HasUnknownText relations (client.Query m) = IsUnknown relations (trimmed m.query) × (¬ IsCopyOfRelation relations (trimmed m.query))
HasUnknownText relations _ = ⊥

abbrev pub NamesNoRelation : Cause
NamesNoRelation relations answers s m = IsReady s × HasUnknownText relations m

-- ---- cancels

-- A question among this message's calls was answered true.
abbrev pub IsCanceled : Cause
IsCanceled relations answers s m = Contains (answer relations answers s m).calls (desk.Ask true)

-- ---- text cells

-- the session's style text is none of the four
abbrev pub HasNoStyle : State RelationStatement → Type 0
HasNoStyle s = interval_style_of (style_text s.info) ≡ None

-- The questions of a query of the relation at this place were all answered false.
abbrev pub IsPassed : List Relation → List Bool → ℕ → Type 0
IsPassed relations answers place = (started (relation_at relations place).unready answers).verdict ≡ Passed

-- one of these rows has a cell in text
abbrev pub HasTextCell : List FieldFormat → List (List Interval) → Type 0
HasTextCell formats rows = (row : List Interval) × Contains rows row × ((i : Interval) × Contains (zip formats row) (field.Text, i))

-- one of these rows has a cell
abbrev pub HasCell : List (List Interval) → Type 0
HasCell rows = (row : List Interval) × Contains rows row × (row ≢ [])

-- as many of the last rows as there are items to come
abbrev pub last_rows : {A : Type 0} → List (List Interval) → List A → List (List Interval)
last_rows rows items = drop (length rows - length items) rows

-- the rows of a portal's relation that are still to come
abbrev pub rows_to_come : List (List Interval) → Stage → List (List Interval)
rows_to_come rows Unstarted = rows
rows_to_come rows (Started r delivered) = last_rows rows r.items
rows_to_come rows (Ended delivered) = []

-- A portal's rows can come: where it isn't started, the questions of its query were all answered false.
abbrev pub CanCome : List Relation → List Bool → ℕ → Stage → Type 0
CanCome relations answers place Unstarted = IsPassed relations answers place
CanCome relations answers place (Started r delivered) = Unit {0}
CanCome relations answers place (Ended delivered) = Unit {0}

-- A portal of the relation at a place meets a text cell in the page of this limit.
abbrev pub PageHasText : List Relation → List Bool → ℤ → TablePortal RelationStatement → ℕ → Type 0
PageHasText relations answers limit p place =
    let r = relation_at relations place in
    (p.bound.statement.statement ≡ statement.Relation place) × CanCome relations answers place p.stage
    × HasTextCell (column_formats p.bound.result_column_format r.columns) (page limit (rows_to_come r.rows p.stage)).rows

-- A query for a relation, whose cells are text in a Query, or for its COPY, whose cells are all text, meets a text cell.
abbrev pub QueryHasText : List Relation → List Bool → List ℕ → ℕ → Type 0
QueryHasText relations answers query place =
    let r = relation_at relations place in
    (trimmed query ≢ []) × IsPassed relations answers place
    × (((meaning relations query ≡ Some (statement.Relation place)) × HasTextCell (column_formats format.UnifiedText r.columns) r.rows)
    ⊎ ((meaning relations query ≡ None) × ((name : List ℕ) × (copied_name (words (trimmed query)) ≡ Some name)
    × (place_of relations name ≡ Some place)) × HasCell r.rows))

-- a message that meets a text cell
abbrev pub MeetsTextCell : List Relation → List Bool → State RelationStatement → PgWireFrontendMessage → Type 0
MeetsTextCell relations answers s (client.Execute m) = (p : TablePortal RelationStatement) × (place : ℕ)
    × (fin.get s.portals m.name ≡ Some (entry.Value p)) × PageHasText relations answers m.max_rows p place
MeetsTextCell relations answers s (client.Query m) = (place : ℕ) × QueryHasText relations answers m.query place
MeetsTextCell relations answers s _ = ⊥

abbrev pub MeetsTextWithoutStyle : Cause
MeetsTextWithoutStyle relations answers s m = IsReady s × HasNoStyle s × MeetsTextCell relations answers s m

-- ---- COPY from the client

abbrev pub IsCopyFail : PgWireFrontendMessage → Type 0
IsCopyFail (client.CopyFail m) = Unit {0}
IsCopyFail _ = ⊥

abbrev pub GivesCopyUp : Cause
GivesCopyUp relations answers s m = IsInCopy s × IsCopyFail m

abbrev pub IsCopyData : PgWireFrontendMessage → Type 0
IsCopyData (client.CopyData m) = Unit {0}
IsCopyData (client.CopyDone m) = Unit {0}
IsCopyData _ = ⊥

-- CopyData or CopyDone is taken in a COPY from the client. The handlers of relations refuse both.
abbrev pub SendsCopy : Cause
SendsCopy relations answers s m = IsInCopy s × IsCopyData m
