-- What the outbox holds after a call that sends.
use Rattle.std.specs.Prelude.{ℕ, Bool, true, false, List, ◌++◌, Some, None, Result, Ok, Err, ◌≡◌, ◌⊎◌}
use Rattle.pg_messages.specs.declared.copy.CopyData.{CopyData}
use Rattle.pg_messages.specs.declared.data.DataRow.{DataRow}
use Rattle.pg_messages.specs.Replies.{replies_bytes}
use Rattle.pg_results.specs.declared.error.PgWireError.{PgWireError}
use Rattle.pg_results.specs.declared.error.PgWireError.TheVariants as wire
use Rattle.pg_results.specs.Told.{with_items, ToldRows}
use Rattle.pg_results.specs.Page.{PageEnd, AtLimit, AtEnd, AtError, before_error, first_error}
use Rattle.pg_results.specs.Rows.{RowItem}
use Rattle.pg_replies.specs.Replies.{row_replies}
use Rattle.pg_replies.specs.ResponseRows.{Sent, copy_replies, copy_count, not_empty}

-- A page was sent, and this is how it ended: whether it was suspended, and what is left of the response.
abbrev pub IsSentPage : ToldRows → PageEnd DataRow → Bool → ToldRows → Type 0
IsSentPage old (AtLimit items) suspended new = (suspended ≡ true) × (new ≡ with_items old items)
IsSentPage old AtEnd suspended new = suspended ≡ false
IsSentPage old (AtError e items) suspended new = ⊥

-- A page met this error: the error is consumed, and the rows before it stand in the outbox.
pub record IsMetError (old : ToldRows) (ending : PageEnd DataRow) (e : PgWireError) (new : ToldRows) (out new_out : List ℕ) : Type 0 where
  pub items : List RowItem
  pub met : ending ≡ AtError e items
  pub left : new ≡ with_items old items
  pub rows : new_out ≡ out ++ replies_bytes (row_replies (before_error old.items))

-- All was sent; or the replies before an error were sent, and the error is returned; or memory ran out.
abbrev pub IsAllSent : {A : Type 0} → Sent → List ℕ → List ℕ → Result A PgWireError → Type 0
IsAllSent sent out new_out (Ok x) = (sent.refusal ≡ None) × (new_out ≡ out ++ replies_bytes sent.replies)
IsAllSent sent out new_out (Err e) = (e ≡ wire.NoMemory) ⊎ ((sent.refusal ≡ Some e) × (new_out ≡ out ++ replies_bytes sent.replies))

-- the data of a COPY were sent, and this many of them count
pub record IsSentData (items : List (Result CopyData PgWireError)) (out new_out : List ℕ) (count : ℕ) : Type 0 where
  pub whole : first_error items ≡ None
  pub replied : new_out ≡ out ++ replies_bytes (copy_replies (not_empty (before_error items)))
  pub counted : count ≡ copy_count (not_empty (before_error items))

-- An error stood in the place of data.
pub record IsRefusedData (items : List (Result CopyData PgWireError)) (out new_out : List ℕ) (e : PgWireError) : Type 0 where
  pub left : List (Result CopyData PgWireError)
  pub met : first_error items ≡ Some (e, left)
  pub replied : new_out ≡ out ++ replies_bytes (copy_replies (not_empty (before_error items)))
