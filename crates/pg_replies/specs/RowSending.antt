-- Sending rows, and then more rows, sends the same bytes as sending all of them at once. A receiver that sends each row
-- keeps this law.
use Rattle.std.specs.Prelude.{ℕ, List, ◌++◌, ◌≡◌}
use Rattle.std.proofs.Common.{sym, ap, ◌∙◌, append_assoc}
use Rattle.std.proofs.lemmas.List.{map-append}
use Rattle.std.proofs.lemmas.Grind.{flat_map-append}
use Rattle.pg_messages.specs.declared.data.DataRow.{DataRow}
use Rattle.pg_messages.specs.declared.backend.PgWireBackendMessage.TheVariants as server
use Rattle.pg_messages.specs.Replies.{reply_bytes, replies_bytes}
use Rattle.pg_replies.specs.Replies.{row_replies}

pub rows_behind : (out : List ℕ) (rows behind : List DataRow)
    → (out ++ replies_bytes (row_replies rows)) ++ replies_bytes (row_replies behind) ≡ out ++ replies_bytes (row_replies (rows ++ behind))
rows_behind out rows behind =
    append_assoc out (replies_bytes (row_replies rows)) (replies_bytes (row_replies behind))
    ∙ ap (λ (l : List ℕ). out ++ l) (sym (ap replies_bytes (map-append (λ (row : DataRow). server.DataRow row) rows behind)
    ∙ flat_map-append reply_bytes (row_replies rows) (row_replies behind)))
