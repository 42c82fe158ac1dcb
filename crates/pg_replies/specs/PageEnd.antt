-- The replies of a page: its rows, and what follows them (protocol: Message Flow, Extended Query).
use Rattle.std.specs.Prelude.{ℕ, Bool, true, false, List, [], ◌∷◌, ◌++◌}
use Rattle.pg_messages.specs.declared.data.DataRow.{DataRow}
use Rattle.pg_messages.specs.declared.backend.PgWireBackendMessage.TheVariants as server
use Rattle.pg_results.specs.Page.{PageEnd, AtLimit, AtEnd, AtError}
use Rattle.pg_replies.specs.Replies.{Replies, done_with, row_replies}

-- what follows the rows: PortalSuspended, or CommandComplete with the tag and a number
abbrev pub page_end : List ℕ → ℕ → Bool → Replies
page_end tag number true = server.PortalSuspended (record {}) ∷ []
page_end tag number false = done_with tag number ∷ []

-- the replies of a page: its rows, and PortalSuspended or CommandComplete with the tag and a number. There are none
-- where an error is met.
abbrev pub page_replies : List ℕ → ℕ → List DataRow → PageEnd DataRow → Replies
page_replies tag number rows (AtLimit items) = row_replies rows ++ server.PortalSuspended (record {}) ∷ []
page_replies tag number rows AtEnd = row_replies rows ++ done_with tag number ∷ []
page_replies tag number rows (AtError e items) = []
