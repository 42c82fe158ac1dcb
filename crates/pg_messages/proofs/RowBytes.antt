-- A row that is sent in two pieces.
use Rattle.std.proofs.Common.{◌≡◌, ℕ, ◌+◌, List, ◌∷◌, ◌++◌, length, ap, ◌∙◌, append_assoc, arith}
use Rattle.pg_messages.specs.declared.data.DataRow.{DataRow}
use Rattle.pg_messages.specs.declared.backend.PgWireBackendMessage.TheVariants as server
use Rattle.pg_messages.specs.Fields.{count32, int16}
use Rattle.pg_messages.specs.Replies.{reply_bytes}

pub row_sent : (row : DataRow) (before start mid out head cells : List ℕ) → start ≡ before
    → head ≡ 68 ∷ count32 (length row.payload + 6) ++ int16 row.field_count
    → mid ≡ start ++ head → out ≡ mid ++ cells → cells ≡ row.payload → out ≡ before ++ reply_bytes (server.DataRow row)
row_sent row before start mid out head cells a b d e f =
    let len : length row.payload + 6 ≡ 4 + length (int16 row.field_count ++ row.payload) = omega arith in
    e ∙ ap (λ (l : List ℕ). l ++ cells) (d ∙ ap (λ (l : List ℕ). l ++ head) a ∙ ap (λ (l : List ℕ). before ++ l) b)
    ∙ append_assoc before (68 ∷ count32 (length row.payload + 6) ++ int16 row.field_count) cells
    ∙ (λ i. before ++ ((68 ∷ count32 (len i) ++ int16 row.field_count) ++ f i))
