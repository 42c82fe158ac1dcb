-- How many rows stand among replies.
use Rattle.std.specs.Prelude.{ℕ, Bool, true, false, List, ◌+◌, ◌^◌, ◌<◌, length, count_by}
use Rattle.std.specs.List.{AllByRecursion}
use Rattle.pg_messages.specs.declared.backend.PgWireBackendMessage.{PgWireBackendMessage}
use Rattle.pg_messages.specs.declared.backend.PgWireBackendMessage.TheVariants as server
use Rattle.pg_messages.specs.Replies.{reply_body}

abbrev pub is_row : PgWireBackendMessage → Bool
is_row (server.DataRow m) = true
is_row _ = false

-- how many of the messages are rows
abbrev pub row_count : List PgWireBackendMessage → ℕ
row_count messages = count_by is_row messages

-- the length of the body, and four for the length itself, fit in 32 bits
abbrev pub IsTold : PgWireBackendMessage → Type 0
IsTold m = 4 + length (reply_body m) < 2 ^ 32

abbrev pub AreTold : List PgWireBackendMessage → Type 0
AreTold messages = AllByRecursion IsTold messages
