-- What a cursor command is answered: the replies to the messages that it asks of the session, changed (protocol: Message Flow, Extended
-- Query).
use Rattle.std.specs.Prelude.{ℕ, Bool, true, false, List, [], ◌∷◌, ◌++◌, if◌then◌else◌, nat_eq, codes, filter, count_by}
use Rattle.std.specs.List.{list_any, flat_map, starts_with}
use Rattle.pg_messages.specs.declared.frontend.PgWireFrontendMessage.{PgWireFrontendMessage}
use Rattle.pg_messages.specs.declared.backend.PgWireBackendMessage.{PgWireBackendMessage}
use Rattle.pg_messages.specs.declared.backend.PgWireBackendMessage.TheVariants as server
use Rattle.pg_messages.specs.Frames.{statement_target, portal_target}
use Rattle.pg_results.specs.Tags.{spaced}
use Rattle.cursor_commands.specs.declared.command.CursorCommand.{CursorCommand}
use Rattle.cursor_commands.specs.declared.command.CursorCommand.TheVariants.{Declare, Fetch, Close}
use Rattle.cursor_commands.specs.Asking.{parsing, binding, closing, describing, executing, sync}

-- ---- the messages of a command

abbrev pub Replies : Type 0
Replies = List PgWireBackendMessage

-- a command was done
abbrev pub done : List ℕ → PgWireBackendMessage
done tag = server.CommandComplete (record { tag = tag })

-- this many rows were fetched
abbrev pub fetched : ℕ → PgWireBackendMessage
fetched rows = done (codes "FETCH" ++ spaced rows)

-- What a command asks of the session. DECLARE binds a portal to the unnamed statement, which then goes; FETCH and CLOSE are of that portal.
abbrev pub messages_of : CursorCommand → List PgWireFrontendMessage
messages_of (Declare name relation) = parsing relation ∷ binding name ∷ closing statement_target [] ∷ sync ∷ []
messages_of (Fetch limit name) = describing portal_target name ∷ executing name limit ∷ sync ∷ []
messages_of (Close name) = closing portal_target name ∷ sync ∷ []

-- ---- its replies

abbrev pub is_error : PgWireBackendMessage → Bool
is_error (server.ErrorResponse m) = true
is_error _ = false

abbrev pub is_ready : PgWireBackendMessage → Bool
is_ready (server.ReadyForQuery m) = true
is_ready _ = false

abbrev pub is_row : PgWireBackendMessage → Bool
is_row (server.DataRow m) = true
is_row _ = false

-- of a command that failed: the columns where they came, the error, and that the server is ready
abbrev pub is_left_by_error : PgWireBackendMessage → Bool
is_left_by_error (server.RowDescription m) = true
is_left_by_error (server.ErrorResponse m) = true
is_left_by_error (server.ReadyForQuery m) = true
is_left_by_error _ = false

-- One reply of a FETCH of `rows` rows: nothing in the place of NoData, and `FETCH rows` where the rows end or are suspended.
abbrev pub fetch_reply : ℕ → PgWireBackendMessage → Replies
fetch_reply rows (server.NoData m) = []
fetch_reply rows (server.PortalSuspended m) = fetched rows ∷ []
fetch_reply rows (server.CommandComplete m) =
    (if starts_with nat_eq m.tag (codes "SELECT ") then fetched rows else server.CommandComplete m) ∷ []
fetch_reply rows m = m ∷ []

-- the replies of a command that succeeded, by those of its messages
abbrev pub success_replies : CursorCommand → Replies → Replies
success_replies (Declare name relation) replies = done (codes "DECLARE CURSOR") ∷ filter is_ready replies
success_replies (Fetch limit name) replies = flat_map (fetch_reply (count_by is_row replies)) replies
success_replies (Close name) replies = done (codes "CLOSE CURSOR") ∷ filter is_ready replies

-- the replies of a command, by those of its messages
abbrev pub replies_of : CursorCommand → Replies → Replies
replies_of command replies = if list_any is_error replies then filter is_left_by_error replies else success_replies command replies
