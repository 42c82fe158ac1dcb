-- Bytes of replies: what becomes of each reply, and of all of them.
use Rattle.std.specs.Prelude.{ℕ, Bool, false, ◌||◌, ◌&&◌, ◌==◌, nat_eq, codes, take, drop, List, [], ◌∷◌, ◌++◌, ◌≡◌, ◌≢◌, ◌≤◌, ◌<◌, ◌+◌, ◌^◌, if◌then◌else◌, length, slice_index, filter, count_by}
use Rattle.std.specs.List.{AllByRecursion, list_any, flat_map, starts_with}
use Rattle.pg_messages.specs.declared.backend.PgWireBackendMessage.{PgWireBackendMessage}
use Rattle.pg_messages.specs.Frames.{told_len}
use Rattle.pg_messages.specs.Replies.{reply_body, reply_bytes, replies_bytes}
use Rattle.cursor_commands.specs.declared.command.CursorCommand.{CursorCommand}
use Rattle.cursor_commands.specs.declared.command.CursorCommand.TheVariants.{Declare, Fetch, Close}
use Rattle.cursor_commands.specs.declared.rewrite.Change.{Change}
use Rattle.cursor_commands.specs.declared.rewrite.Change.TheVariants.{Ready, Failed, Fetched}
use Rattle.cursor_commands.specs.Cursors.{Replies, done, is_ready, is_row, is_error, is_left_by_error, fetch_reply}

-- the reply where it stays
abbrev pub kept : Bool → PgWireBackendMessage → Replies
kept stays m = if stays then m ∷ [] else []

-- what becomes of a reply
abbrev pub changed : Change → PgWireBackendMessage → Replies
changed Ready m = kept (is_ready m) m
changed Failed m = kept (is_left_by_error m) m
changed (Fetched rows) m = fetch_reply rows m

-- This is the length that the bytes tell of the reply in front: the byte that refuses to encrypt, 78, stands alone; every other reply has a
-- header.
pub record TellsLen (bytes : List ℕ) (len : ℕ) : Type 0 where
  pub one : slice_index bytes 0 ≡ 78 → len ≡ 1
  pub told : slice_index bytes 0 ≢ 78 → 5 ≤ length bytes → told_len false bytes ≤ length bytes → len ≡ told_len false bytes

-- The length that a reply tells fits in 31 bits.
abbrev pub FitsLen : PgWireBackendMessage → Type 0
FitsLen m = 4 + length (reply_body m) < 2 ^ 31

-- Bytes have grown by what becomes of the reply that these bytes are.
abbrev pub AppendsReply : (PgWireBackendMessage → Replies) → List ℕ → List ℕ → List ℕ → Type 0
AppendsReply change reply old new = (m : PgWireBackendMessage) → FitsLen m → reply ≡ reply_bytes m
    → new ≡ old ++ replies_bytes (change m)

-- Bytes have grown by what becomes of the replies that these bytes are.
abbrev pub AppendsReplies : (Replies → Replies) → List ℕ → List ℕ → List ℕ → Type 0
AppendsReplies change bytes old new = (replies : Replies) → AllByRecursion FitsLen replies → bytes ≡ replies_bytes replies
    → new ≡ old ++ replies_bytes (change replies)

-- Bytes of replies have become those of what becomes of them.
abbrev pub Becomes : (Replies → Replies) → List ℕ → List ℕ → Type 0
Becomes change old new = (replies : Replies) → AllByRecursion FitsLen replies → old ≡ replies_bytes replies
    → new ≡ replies_bytes (change replies)

-- the replies of a FETCH of `rows` rows
abbrev pub fetch_replies : ℕ → Replies → Replies
fetch_replies rows replies = flat_map (fetch_reply rows) replies

-- the replies of a command that succeeded, by those of its messages, where `rows` of them are rows
abbrev pub counted_replies : CursorCommand → ℕ → Replies → Replies
counted_replies (Declare name relation) rows replies = done (codes "DECLARE CURSOR") ∷ filter is_ready replies
counted_replies (Fetch limit name) rows replies = fetch_replies rows replies
counted_replies (Close name) rows replies = done (codes "CLOSE CURSOR") ∷ filter is_ready replies

-- A reply of this type begins the bytes, and has `len` of them: as many as its header tells.
pub record BeginsReply (kind : ℕ) (bytes : List ℕ) (len : ℕ) : Type 0 where
  pub some : 0 < len
  pub within : len ≤ length bytes
  pub type : slice_index bytes 0 ≡ kind
  pub told : 5 ≤ length bytes → told_len false bytes ≤ length bytes → len ≡ told_len false bytes

-- A row's header begins `front`. Of the `left` bytes that are left from there on, `len` belong to the row: as many as its header tells.
pub record BeginsRow (front : List ℕ) (left len : ℕ) : Type 0 where
  pub header : 5 ≤ length front
  pub type : slice_index front 0 ≡ 68
  pub some : 0 < left → 0 < len
  pub within : len ≤ left
  pub told : told_len false front ≤ left → len ≡ told_len false front

-- Replies begin with a page, which is columns and then `rows` rows. What becomes of the replies, whatever count is told, is the page and
-- then what becomes of those that are left. Where an error is among them, it is the columns and then what becomes of those that are left.
pub record IsPage (change : ℕ → Replies → Replies) (replies : Replies) (columns page rest : List ℕ) (rows : ℕ) : Type 0 where
  pub left : Replies
  pub fits : AllByRecursion FitsLen left
  pub bytes : rest ≡ replies_bytes left
  pub errors : list_any is_error replies ≡ list_any is_error left
  pub counted : count_by is_row replies ≡ rows + count_by is_row left
  pub same : (n : ℕ) → replies_bytes (change n replies) ≡ page ++ replies_bytes (change n left)
  pub failed : replies_bytes (flat_map (changed Failed) replies) ≡ columns ++ replies_bytes (flat_map (changed Failed) left)

-- The replies that these bytes are begin with a page: its columns have `columns` bytes, all of it has `len` bytes, and it has `rows` rows.
abbrev pub HasPage : (ℕ → Replies → Replies) → List ℕ → ℕ → ℕ → ℕ → Type 0
HasPage change bytes columns len rows = (replies : Replies) → AllByRecursion FitsLen replies → bytes ≡ replies_bytes replies
    → IsPage change replies (take columns bytes) (take len bytes) (drop len bytes) rows

-- At place `at` stand `count` rows, with `len` bytes: a page that ends there goes on through them.
abbrev pub HasRows : List ℕ → ℕ → ℕ → ℕ → Type 0
HasRows bytes at len count = (columns rows : ℕ) → HasPage fetch_replies bytes columns at rows
    → HasPage fetch_replies bytes columns (at + len) (rows + count)

-- what the replies that these bytes are tell: whether one is an error, and how many are rows
abbrev pub IsSurvey : List ℕ → Bool → ℕ → Type 0
IsSurvey bytes failed rows = (replies : Replies) → AllByRecursion FitsLen replies → bytes ≡ replies_bytes replies
    → (failed ≡ list_any is_error replies) × (rows ≡ count_by is_row replies)

-- the bytes of CommandComplete whose tag begins with `SELECT `
abbrev pub is_select : List ℕ → Bool
is_select reply = slice_index reply 0 == 67 && starts_with nat_eq (drop 5 reply) (codes "SELECT ")

-- the bytes of what ends or suspends rows
abbrev pub ends_rows : List ℕ → Bool
ends_rows reply = slice_index reply 0 == 115 || is_select reply
