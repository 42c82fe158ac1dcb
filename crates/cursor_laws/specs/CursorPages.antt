-- The pages of a portal in a conversation with cursors: what each Execute and each FETCH takes of the items to come, and what is left of
-- them. The words are those of a conversation without cursors, with one more for FETCH.
use Rattle.std.specs.Prelude.{ℕ, ℤ, Bool, true, false, List, [], ◌∷◌, ◌++◌, ◌≡◌, ◌⊎◌, Option, Some, None, Ok, if◌then◌else◌, filter, bytes_eq}
use Rattle.std.specs.FinMap as fin
use Rattle.pg_messages.specs.declared.frontend.PgWireFrontendMessage.{PgWireFrontendMessage}
use Rattle.pg_messages.specs.declared.response.ErrorInfo.{ErrorInfo}
use Rattle.pg_messages.specs.declared.simplequery.Query.{Query}
use Rattle.pg_results.specs.declared.client.PgWireConnectionState.{PgWireConnectionState}
use Rattle.pg_results.specs.declared.describe.DescribePortalResponse.{DescribePortalResponse}
use Rattle.pg_results.specs.Errors.{info_of}
use Rattle.pg_results.specs.Rows.{RowItem}
use Rattle.pg_results.specs.Told.{ToldRows}
use Rattle.pg_client.specs.Answer.{Answer, Table}
use Rattle.conversation_table.specs.Handlers.{Handlers}
use Rattle.pg_replies.specs.Replies.{Replies, error_reply}
use Rattle.pg_client.specs.State.{State}
use Rattle.conversation_laws.specs.Pages.{Taken, SentRows, DroppedRows, IsUnstarted, IsWithin, Leaves, Starts, TellsInTurn, TellsPages, items_of, joined_items, rows_among, stage_under}
use Rattle.cursor_commands.specs.declared.command.CursorCommand.{CursorCommand}
use Rattle.cursor_commands.specs.declared.command.CursorCommand.TheVariants.{Declare, Fetch, Close}
use Rattle.cursor_commands.specs.Commands.{command_of}
use Rattle.cursor_commands.specs.Cursors.{is_error}
use Rattle.cursor_table.specs.CursorTable.{asked_command, is_ready_phase}

-- ---- what a FETCH takes

-- the ErrorResponses among replies
abbrev pub errors_among : Replies → Replies
errors_among replies = filter is_error replies

-- The rows that are sent are those of the DataRows, and no error is told; where rows are dropped none is sent, and the only error is that
-- of the failed item.
abbrev pub IsFetched : Taken → Replies → Type 0
IsFetched (SentRows rows) replies = (rows_among replies ≡ rows) × (errors_among replies ≡ [])
IsFetched (DroppedRows rows e) replies = (rows_among replies ≡ []) × (errors_among replies ≡ error_reply (info_of e) ∷ [])

-- No row is sent, and one error is told.
abbrev pub FailsWithoutRows : Replies → Type 0
FailsWithoutRows replies = (rows_among replies ≡ []) × ((info : ErrorInfo) × (errors_among replies ≡ error_reply info ∷ []))

-- A FETCH tells one page, within its limit; or it fails before its page, of which nothing is taken then.
abbrev pub TellsFetch : ℤ → Replies → List Taken → Type 0
TellsFetch limit replies pages = ((page : Taken) × (pages ≡ page ∷ []) × IsFetched page replies × IsWithin limit (items_of page))
    ⊎ ((pages ≡ []) × FailsWithoutRows replies)

-- A FETCH takes a page of the portal of a name, or nothing: what it takes and what it leaves join to the items.
pub record FetchesPage {S : Type 0} (name : List ℕ) (limit : ℤ) (items : List RowItem) (a : Answer (State S)) : Type 0 where
  pub pages : List Taken
  pub left : List RowItem
  pub joined : items ≡ joined_items pages ++ left
  pub told : TellsFetch limit a.replies pages
  pub leaves : Leaves name left a.next

-- A FETCH starts its portal, and this is the response: the portal's columns are told, and then its Execute starts it.
pub record FetchStarts {S : Type 0} (h : Handlers S) (answers : List Bool) (s : State S) (query : Query) (name : List ℕ) (r : ToldRows)
    : Type 0 where
  pub limit : ℤ
  pub asked : command_of query.query ≡ Some (Fetch limit name)
  pub starts : Starts h answers s (record { name = name; max_rows = limit }) r
  pub columns : DescribePortalResponse
  pub described : h.extended.describe_portal s.info starts.portal.bound ≡ Ok columns

-- ---- each other command

-- whether a command is a FETCH of the portal of this name
abbrev pub is_fetch_of : List ℕ → CursorCommand → Bool
is_fetch_of name (Fetch limit portal) = bytes_eq portal name
is_fetch_of name _ = false

-- a command that can put another portal in the place of that of a name, or remove it: its DECLARE and CLOSE, and for the unnamed portal
-- each command
abbrev pub ReplacesBy : List ℕ → CursorCommand → Type 0
ReplacesBy name (Declare portal relation) = (portal ≡ name) ⊎ (name ≡ [])
ReplacesBy name (Fetch limit portal) = name ≡ []
ReplacesBy name (Close portal) = (portal ≡ name) ⊎ (name ≡ [])

-- The portal of a name stands as it did; or it was removed, or replaced by one that hasn't started.
abbrev pub KeepsCursor : {S : Type 0} → List ℕ → CursorCommand → State S → State S → Type 0
KeepsCursor name command s t = (fin.get t.portals name ≡ fin.get s.portals name)
    ⊎ (ReplacesBy name command × IsUnstarted (stage_under t name))

-- ---- a conversation

-- the command that the server takes a message for
abbrev pub command_taken : PgWireConnectionState → PgWireFrontendMessage → Option CursorCommand
command_taken phase m = if is_ready_phase phase then asked_command m else None

-- the pages of the portal of a name that a command tells by its replies: a FETCH of it its own, and every other command none
abbrev pub TellsFetchWhere : Bool → ℤ → Replies → List Taken → Type 0
TellsFetchWhere true limit replies pages = TellsFetch limit replies pages
TellsFetchWhere false limit replies pages = pages ≡ []

abbrev pub TellsByCommand : List ℕ → CursorCommand → Replies → List Taken → Type 0
TellsByCommand name (Fetch limit portal) replies pages = TellsFetchWhere (bytes_eq portal name) limit replies pages
TellsByCommand name _ replies pages = pages ≡ []

-- the pages that a message tells: by the command that it is; where it is none, those that it tells without cursors
abbrev pub TellsBy : List ℕ → PgWireConnectionState → PgWireFrontendMessage → Option CursorCommand → Replies → List Taken → Type 0
TellsBy name phase m (Some command) replies pages = TellsByCommand name command replies pages
TellsBy name phase m None replies pages = TellsPages name phase m replies pages

abbrev pub TellsRows : {S : Type 0} → List ℕ → State S → PgWireFrontendMessage → Replies → List Taken → Type 0
TellsRows name s m replies pages = TellsBy name s.info.state m (command_taken s.info.state m) replies pages

-- The pages that a conversation tells of the portal of a name, by Execute and by FETCH in any mix, joined in order, are a front of these
-- items.
pub record RowsJoin {S : Type 0} (table : Table (State S)) (name : List ℕ) (answers : List Bool) (s : State S)
    (messages : List PgWireFrontendMessage) (items : List RowItem) : Type 0 where
  pub pages : List Taken
  pub left : List RowItem
  pub told : TellsInTurn (λ s m. TellsRows name s m) table name answers s messages pages left
  pub joined : items ≡ joined_items pages ++ left
