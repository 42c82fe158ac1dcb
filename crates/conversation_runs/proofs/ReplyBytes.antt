-- The bytes of replies.
use Rattle.std.proofs.Common.{◌≡◌, List, ◌++◌}
use Rattle.std.proofs.lemmas.Grind.{flat_map-append}
use Rattle.pg_messages.specs.Replies.{reply_bytes, replies_bytes}
use Rattle.pg_messages.specs.declared.backend.PgWireBackendMessage.{PgWireBackendMessage}

-- the bytes of replies and of more replies
pub replies_bytes-append : (a b : List PgWireBackendMessage) → replies_bytes (a ++ b) ≡ replies_bytes a ++ replies_bytes b
replies_bytes-append a b = flat_map-append reply_bytes a b
