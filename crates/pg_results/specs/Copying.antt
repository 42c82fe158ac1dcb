-- COPY: the data that the server sends, and the formats of its columns (protocol: COPY Operations).
use Rattle.std.specs.Prelude.{ℕ, ℤ, pos, Bool, true, false, List, [], ◌∷◌, Option, Some, None, Result, Ok, Err, ◌≡◌, replicate}
use Rattle.std.specs.Ordering.{int_eq}
use Rattle.std.specs.declared.alloc.AllocError.{AllocError}
use Rattle.pg_messages.specs.declared.copy.CopyData.{CopyData}
use Rattle.pg_messages.specs.declared.backend.PgWireBackendMessage.TheVariants as server
use Rattle.pg_messages.specs.Replies.{IsEncodable}
use Rattle.pg_results.specs.declared.error.PgWireError.{PgWireError}
use Rattle.pg_results.specs.Rows.{IsItemError}

-- data, or the error that stands in their place
abbrev pub CopyItem : Type 0
CopyItem = Result CopyData PgWireError

-- The first item is taken, or there is none. An AllocError takes nothing.
abbrev pub IsNextCopy : List CopyItem → Result (Option CopyItem) AllocError → List CopyItem → Type 0
IsNextCopy old (Ok (Some item)) new = old ≡ item ∷ new
IsNextCopy old (Ok None) new = (old ≡ []) × (new ≡ [])
IsNextCopy old (Err e) new = new ≡ old

-- The first item is taken, which is these data, or none is taken.
abbrev pub IsNextCopied : List CopyItem → Result Bool AllocError → CopyData → List CopyItem → Type 0
IsNextCopied old (Ok true) copied new = old ≡ Ok copied ∷ new
IsNextCopied old (Ok false) copied new = new ≡ old
IsNextCopied old (Err e) copied new = new ≡ old

-- data that become a reply
abbrev pub IsSendableData : CopyData → Type 0
IsSendableData copied = IsEncodable (server.CopyData copied)

-- an item that becomes a reply
abbrev pub IsSendableCopy : CopyItem → Type 0
IsSendableCopy (Ok copied) = IsEncodable (server.CopyData copied)
IsSendableCopy (Err error) = IsItemError error

-- what follows binary data
abbrev pub trailer : CopyData
trailer = record { payload = 255 ∷ 255 ∷ [] }

-- a trailer follows exactly in the binary format, 1
abbrev pub has_trailer : ℤ → Bool
has_trailer format = int_eq format (pos 1)

-- each column has the format of the whole
abbrev pub formats : ℤ → ℕ → List ℤ
formats format columns = replicate columns format
