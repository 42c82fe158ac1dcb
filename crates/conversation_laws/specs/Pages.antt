-- The pages of a portal: what each Execute takes of the items to come, and what is left of them (protocol: Extended Query, Execute with a
-- limit of rows).
use Rattle.std.specs.Prelude.{ℕ, ℤ, pos, negsuc, Bool, true, false, List, [], ◌∷◌, ◌++◌, ◌≡◌, ◌≤◌, ◌⊎◌, Option, Some, None, Ok, Err, map, length, bytes_eq}
use Rattle.std.specs.FinMap as fin
use Rattle.pg_messages.specs.declared.data.DataRow.{DataRow}
use Rattle.pg_messages.specs.declared.extendedquery.Execute.{Execute}
use Rattle.pg_messages.specs.declared.frontend.PgWireFrontendMessage.{PgWireFrontendMessage}
use Rattle.pg_messages.specs.declared.frontend.PgWireFrontendMessage.TheVariants as client
use Rattle.pg_messages.specs.declared.backend.PgWireBackendMessage.TheVariants as server
use Rattle.pg_messages.specs.Frames.{portal_target}
use Rattle.pg_results.specs.declared.client.PgWireConnectionState.{PgWireConnectionState}
use Rattle.pg_results.specs.declared.client.PgWireConnectionState.TheVariants as phase
use Rattle.pg_results.specs.declared.error.PgWireError.{PgWireError}
use Rattle.pg_results.specs.declared.tag.Tag.{Tag}
use Rattle.pg_portal.specs.declared.store.Entry.TheVariants as entry
use Rattle.pg_results.specs.Errors.{info_of}
use Rattle.pg_portal.specs.Fetching.{items_to_come}
use Rattle.pg_results.specs.Responses as response
use Rattle.pg_results.specs.Rows.{RowItem}
use Rattle.pg_results.specs.Told.{ToldRows}
use Rattle.pg_portal.specs.Told.{TablePortal, Stage, Unstarted, Started, Ended, value_under}
use Rattle.pg_client.specs.Answer.{Answer, Table, Next, Goes, Ends, Stops, left_by}
use Rattle.conversation_table.specs.Handlers.{Handlers}
use Rattle.conversation_table.specs.Questions.{Passed, started}
use Rattle.pg_replies.specs.Replies.{Replies, error_reply}
use Rattle.pg_client.specs.State.{State}

-- ---- what an Execute takes

-- rows that are sent; or rows that are dropped, and the error after them
pub data Taken : Type 0 where
  SentRows : List DataRow → Taken
  DroppedRows : List DataRow → PgWireError → Taken

-- the items that were taken, in order
abbrev pub items_of : Taken → List RowItem
items_of (SentRows rows) = map Ok rows
items_of (DroppedRows rows e) = map Ok rows ++ Err e ∷ []

-- what several pages took, joined in order
abbrev pub joined_items : List Taken → List RowItem
joined_items [] = []
joined_items (page ∷ pages) = items_of page ++ joined_items pages

-- the rows of the DataRows among replies
abbrev pub rows_among : Replies → List DataRow
rows_among [] = []
rows_among (server.DataRow row ∷ replies) = row ∷ rows_among replies
rows_among (reply ∷ replies) = rows_among replies

-- The rows that are sent are those of the DataRows; where rows are dropped, the error after them is told alone.
abbrev pub IsTold : Taken → Replies → Type 0
IsTold (SentRows rows) replies = rows_among replies ≡ rows
IsTold (DroppedRows rows e) replies = replies ≡ error_reply (info_of e) ∷ []

-- No more items are taken than a positive limit.
abbrev pub IsWithin : ℤ → List RowItem → Type 0
IsWithin (pos limit) items = 1 ≤ limit → length items ≤ limit
IsWithin (negsuc n) items = Unit {0}

-- ---- the portal of a name

abbrev pub stage_in : {S : Type 0} → Option (TablePortal S) → Stage
stage_in None = Unstarted
stage_in (Some p) = p.stage

-- how far the portal of a name has come; where there is none, none has started
abbrev pub stage_under : {S : Type 0} → State S → List ℕ → Stage
stage_under s name = stage_in (value_under (fin.get s.portals name))

abbrev pub HasStarted : Stage → Type 0
HasStarted Unstarted = ⊥
HasStarted (Started r delivered) = Unit {0}
HasStarted (Ended delivered) = Unit {0}

abbrev pub IsUnstarted : Stage → Type 0
IsUnstarted Unstarted = Unit {0}
IsUnstarted (Started r delivered) = ⊥
IsUnstarted (Ended delivered) = ⊥

-- Where the conversation goes on, the portal of the name has started, and has these items to come.
abbrev pub Leaves : {S : Type 0} → List ℕ → List RowItem → Next (State S) → Type 0
Leaves name left (Goes t) = HasStarted (stage_under t name) × (items_to_come (stage_under t name) ≡ left)
Leaves name left (Ends kind) = Unit {0}
Leaves name left Stops = ⊥

-- An Execute takes a page: what it takes and what it leaves join to the items, its replies tell what it takes, and it
-- keeps to the limit.
pub record TakesPage {S : Type 0} (name : List ℕ) (limit : ℤ) (items : List RowItem) (a : Answer (State S)) : Type 0 where
  pub page : Taken
  pub left : List RowItem
  pub joined : items ≡ items_of page ++ left
  pub told : IsTold page a.replies
  pub within : IsWithin limit (items_of page)
  pub leaves : Leaves name left a.next

-- An Execute starts its portal, and this is the response.
pub record Starts {S : Type 0} (h : Handlers S) (answers : List Bool) (s : State S) (m : Execute) (r : ToldRows) : Type 0 where
  pub is_ready : s.info.state ≡ phase.ReadyForQuery
  pub portal : TablePortal S
  pub stored : fin.get s.portals m.name ≡ Some (entry.Value portal)
  pub is_unstarted : portal.stage ≡ Unstarted
  pub passed : (started (h.extended.query s.info portal.bound m.max_rows).owes answers).verdict ≡ Passed
  pub answered : (h.extended.query s.info portal.bound m.max_rows).outcome ≡ Ok (response.Query r)

-- ---- each other message

-- an Execute of the portal of this name, which the server takes
abbrev pub is_execute_of : List ℕ → PgWireConnectionState → PgWireFrontendMessage → Bool
is_execute_of name phase.ReadyForQuery (client.Execute m) = bytes_eq m.name name
is_execute_of name _ _ = false

-- an Execute whose response ends the transaction
abbrev pub EndsTransaction : {S : Type 0} → Handlers S → State S → Execute → Type 0
EndsTransaction {S} h s m = (p : TablePortal S) × (tag : Tag) × (fin.get s.portals m.name ≡ Some (entry.Value p))
    × ((h.extended.query s.info p.bound m.max_rows).outcome ≡ Ok (response.TransactionEnd tag))

-- a message that can put another portal in the place of that of a name, or remove it
abbrev pub Replaces : {S : Type 0} → Handlers S → State S → List ℕ → PgWireFrontendMessage → Type 0
Replaces h s name (client.Bind m) = m.portal_name ≡ name
Replaces h s name (client.Close m) = (m.target_type ≡ portal_target) × (m.name ≡ name)
Replaces h s name (client.PgSync m) = name ≡ []
Replaces h s name (client.Execute m) = (name ≡ []) × EndsTransaction h s m
Replaces h s name _ = ⊥

-- The portal of a name stands as it did; or it was removed, or replaced by one that hasn't started.
abbrev pub KeepsPortal : {S : Type 0} → Handlers S → List ℕ → PgWireFrontendMessage → State S → State S → Type 0
KeepsPortal h name m s t = (fin.get t.portals name ≡ fin.get s.portals name) ⊎ (Replaces h s name m × IsUnstarted (stage_under t name))

-- ---- a conversation

-- An Execute of the portal tells one page, and each other message tells none.
abbrev pub TellsPageWhere : Bool → ℤ → Replies → List Taken → Type 0
TellsPageWhere true limit replies pages = (page : Taken) × (pages ≡ page ∷ []) × IsTold page replies × IsWithin limit (items_of page)
TellsPageWhere false limit replies pages = pages ≡ []

-- the pages of the portal of a name that a message tells by its replies
abbrev pub TellsPages : List ℕ → PgWireConnectionState → PgWireFrontendMessage → Replies → List Taken → Type 0
TellsPages name phase.ReadyForQuery (client.Execute m) replies pages = TellsPageWhere (bytes_eq m.name name) m.max_rows replies pages
TellsPages name _ _ replies pages = pages ≡ []

-- a condition on the pages that are still to be told, while the portal is started; else there are none
abbrev pub WhileStarted : Stage → List Taken → Type 0 → Type 0
WhileStarted Unstarted pages later = pages ≡ []
WhileStarted (Started r delivered) pages later = later
WhileStarted (Ended delivered) pages later = later

abbrev pub TellsLater : {S : Type 0} → List ℕ → Next (State S) → List Taken → (State S → Type 0) → Type 0
TellsLater name (Goes t) pages later = WhileStarted (stage_under t name) pages (later t)
TellsLater name (Ends kind) pages later = pages ≡ []
TellsLater name Stops pages later = pages ≡ []

-- A conversation tells these pages of the portal of a name, in order and message by message, until the portal is
-- replaced or removed. Where the portal still stands at the end, these items are left of it.
abbrev pub TellsInTurn : {S : Type 0} → (State S → PgWireFrontendMessage → Replies → List Taken → Type 0) → Table (State S) → List ℕ
    → List Bool → State S → List PgWireFrontendMessage → List Taken → List RowItem → Type 0
TellsInTurn tells table name answers s [] pages left = (pages ≡ []) × (left ≡ items_to_come (stage_under s name))
TellsInTurn tells table name answers s (m ∷ messages) pages left =
    let given = table answers s m in
    (first : List Taken) × (others : List Taken) × (pages ≡ first ++ others) × tells s m given.replies first
    × TellsLater name given.next others (λ t. TellsInTurn tells table name (left_by given.calls answers) t messages others left)

-- the same by what each Execute tells
abbrev pub TellsPagesInTurn : {S : Type 0} → Table (State S) → List ℕ → List Bool → State S → List PgWireFrontendMessage → List Taken
    → List RowItem → Type 0
TellsPagesInTurn table name answers s messages pages left =
    TellsInTurn (λ s m. TellsPages name s.info.state m) table name answers s messages pages left

-- The pages that a conversation tells of the portal of a name, joined in order, are a front of these items.
pub record PagesJoin {S : Type 0} (table : Table (State S)) (name : List ℕ) (answers : List Bool) (s : State S)
    (messages : List PgWireFrontendMessage) (items : List RowItem) : Type 0 where
  pub pages : List Taken
  pub left : List RowItem
  pub told : TellsPagesInTurn table name answers s messages pages left
  pub joined : items ≡ joined_items pages ++ left
