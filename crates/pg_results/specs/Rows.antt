-- Rows to come: the items of a row source, and what one call takes of them.
use Rattle.std.specs.Prelude.{Bool, true, false, List, [], ◌∷◌, Option, Some, None, Result, Ok, Err, ◌≡◌, ◌≢◌, ◌⊎◌}
use Rattle.std.specs.declared.alloc.AllocError.{AllocError}
use Rattle.pg_messages.specs.declared.data.DataRow.{DataRow}
use Rattle.pg_messages.specs.declared.backend.PgWireBackendMessage.TheVariants as server
use Rattle.pg_messages.specs.Replies.{IsEncodable}
use Rattle.pg_results.specs.declared.error.PgWireError.{PgWireError}
use Rattle.pg_results.specs.declared.error.PgWireError.TheVariants.{NoMemory, QueryCanceled, NotReadyForQuery, PortalNotStarted}
use Rattle.pg_results.specs.Errors.{info_of}

-- a row, or the error that stands in its place
abbrev pub RowItem : Type 0
RowItem = Result DataRow PgWireError

-- The first item is taken, or there is none. An AllocError takes nothing.
abbrev pub IsNext : List RowItem → Result (Option RowItem) AllocError → List RowItem → Type 0
IsNext old (Ok (Some item)) new = old ≡ item ∷ new
IsNext old (Ok None) new = (old ≡ []) × (new ≡ [])
IsNext old (Err e) new = new ≡ old

-- The first item is taken, which is this row, or none is taken.
abbrev pub IsNextRow : List RowItem → Result Bool AllocError → DataRow → List RowItem → Type 0
IsNextRow old (Ok true) row new = old ≡ Ok row ∷ new
IsNextRow old (Ok false) row new = new ≡ old
IsNextRow old (Err e) row new = new ≡ old

-- an error that a reply can tell
pub record IsTellable (error : PgWireError) : Type 0 where
  pub is_told : error ≢ NoMemory
  pub encodable : IsEncodable (server.ErrorResponse (record { info = info_of error }))

-- the session's own errors: out of memory, a canceled query, a message in a wrong phase, a portal that isn't started
abbrev pub is_of_session : PgWireError → Bool
is_of_session NoMemory = true
is_of_session QueryCanceled = true
is_of_session NotReadyForQuery = true
is_of_session PortalNotStarted = true
is_of_session _ = false

-- An error in the place of a row, of data, or of a query's response: a reply can tell it, and it is none of the
-- session's own.
pub record IsItemError (error : PgWireError) : Type 0 where
  pub tellable : IsTellable error
  pub is_own : is_of_session error ≡ false

-- a row that becomes a reply
abbrev pub IsSendableRow : DataRow → Type 0
IsSendableRow row = IsEncodable (server.DataRow row)

-- an item that becomes a reply
abbrev pub IsSendable : RowItem → Type 0
IsSendable (Ok row) = IsEncodable (server.DataRow row)
IsSendable (Err error) = IsItemError error

-- an error that a call may return: NoMemory, or one that a reply can tell
abbrev pub IsAnswerable : PgWireError → Type 0
IsAnswerable error = (error ≡ NoMemory) ⊎ IsTellable error

-- an error that ends a page, data or a query: NoMemory, or one that stood in the place of an item
abbrev pub IsAnswerableItem : PgWireError → Type 0
IsAnswerableItem error = (error ≡ NoMemory) ⊎ IsItemError error
