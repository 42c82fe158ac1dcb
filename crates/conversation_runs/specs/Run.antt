-- Run of the conversation: a table over the frames of the client's bytes, in their order.
use Rattle.std.specs.Prelude.{ℕ, Bool, List, ◌≡◌}
use Rattle.pg_messages.specs.declared.frontend.PgWireFrontendMessage.{PgWireFrontendMessage}
use Rattle.pg_messages.specs.declared.backend.PgWireBackendMessage.{PgWireBackendMessage}
use Rattle.pg_messages.specs.Frames.{DividesInto, IsBad, IsUnfinished}
use Rattle.pg_messages.specs.Replies.{replies_bytes}
use Rattle.pg_client.specs.declared.desk.DeskCall.{DeskCall}
use Rattle.pg_client.specs.declared.ends.EndKind.{EndKind}
use Rattle.pg_client.specs.declared.ends.EndKind.TheVariants as end
use Rattle.pg_client.specs.Answer.{BeginsWith}
use Rattle.pg_client.specs.Answer.{Answer, Table, Next, Goes, Ends, Stops, answers_of, conversation}

-- the rules of a conversation: a table, and in which of its states the startup packet is still awaited
pub record Rules (T : Type 0) : Type 0 where
  pub table : Table T
  pub awaits : T → Bool

-- The whole frames of a text were answered by these bytes and these registry calls, with exactly the answers that the
-- calls hold. `rest` is left of the text, and `next` comes next.
pub record IsFed {T : Type 0} (rules : Rules T) (s : T) (text rest bytes : List ℕ) (calls : List DeskCall) (next : Next T) : Type 0 where
  pub messages : List PgWireFrontendMessage
  pub replies : List PgWireBackendMessage
  pub division : DividesInto (rules.awaits s) text messages rest
  pub answered : conversation rules.table (answers_of calls) s messages ≡ record { replies = replies; calls = calls; next = next }
  pub replied : bytes ≡ replies_bytes replies

-- How the conversation ends: by its last message, or else by what is left of the bytes. Where it stops because an
-- answer is missing, it has no end.
abbrev pub EndsWith : {T : Type 0} → (T → Bool) → Next T → List ℕ → EndKind → Type 0
EndsWith awaits (Ends kind) rest e = kind ≡ e
EndsWith awaits (Goes s) rest end.BadFrame = IsBad (awaits s) rest
EndsWith awaits (Goes s) rest end.InputEnd = IsUnfinished (awaits s) rest
EndsWith awaits (Goes s) rest _ = ⊥
EndsWith awaits Stops rest e = ⊥

-- Run: these reply bytes, these registry calls with their answers, and this end are the table's answer to the client's bytes.
pub record IsRun {T : Type 0} (rules : Rules T) (s : T) (text bytes : List ℕ) (calls : List DeskCall) (kind : EndKind) : Type 0 where
  pub rest : List ℕ
  pub next : Next T
  pub fed : IsFed rules s text rest bytes calls next
  pub ended : EndsWith rules.awaits next rest kind

-- A run that was cut off: these reply bytes and calls are a front of the answer to the client's bytes as far as it was taken.
pub record IsCutRun {T : Type 0} (rules : Rules T) (s : T) (text bytes : List ℕ) (calls : List DeskCall) : Type 0 where
  pub messages : List PgWireFrontendMessage
  pub rest : List ℕ
  pub given : Answer T
  pub division : DividesInto (rules.awaits s) text messages rest
  pub answered : given ≡ conversation rules.table (answers_of calls) s messages
  pub replied : BeginsWith (replies_bytes given.replies) bytes
  pub called : BeginsWith given.calls calls
