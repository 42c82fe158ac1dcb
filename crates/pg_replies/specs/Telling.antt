-- What becomes of a handler's description, or of its error.
use Rattle.std.specs.Prelude.{ℕ, List, ◌++◌, ◌≡◌, Result, Ok, Err}
use Rattle.pg_messages.specs.Replies.{replies_bytes}
use Rattle.pg_results.specs.declared.error.PgWireError.{PgWireError}
use Rattle.pg_results.specs.declared.error.PgWireError.TheVariants as wire
use Rattle.pg_replies.specs.Replies.{Replies}

-- A description is appended as its replies, or memory ran out. An error is returned as it is.
abbrev pub IsToldSo : {D A : Type 0} → (D → Replies) → Result D PgWireError → List ℕ → List ℕ → Result A PgWireError → Type 0
IsToldSo shown (Ok d) out new_out (Ok x) = new_out ≡ out ++ replies_bytes (shown d)
IsToldSo shown (Ok d) out new_out (Err e) = (e ≡ wire.NoMemory) × (new_out ≡ out)
IsToldSo shown (Err told) out new_out (Ok x) = ⊥
IsToldSo shown (Err told) out new_out (Err e) = (e ≡ told) × (new_out ≡ out)
