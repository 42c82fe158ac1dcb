-- The front of a session: what it holds before the session, and what a step of it does.
use Rattle.std.specs.Prelude.{ℕ, Bool, true, List, [], ◌++◌, ◌+◌, ◌≡◌, ◌≢◌, ◌≤◌, ◌<◌, ◌⊎◌, Option, Some, None, Result, Ok, length}
use Rattle.pg_messages.specs.declared.frontend.PgWireFrontendMessage.{PgWireFrontendMessage}
use Rattle.pg_messages.specs.Replies.{replies_bytes}
use Rattle.pg_messages.specs.Frames.{IsFrame, IsUnfinished, IsGoodHeader, header_len, told_len}
use Rattle.pg_results.specs.declared.client.PgWireConnectionState.{PgWireConnectionState}
use Rattle.pg_client.specs.declared.ends.EndKind.{EndKind}
use Rattle.pg_client.specs.declared.ends.Turns.{Turns}
use Rattle.pg_client.specs.Desk.{DeskTold, GoesOn}
use Rattle.conversation_table.specs.Handlers.{Handlers}
use Rattle.conversation_table.specs.Questions.{questions_since}
use Rattle.pg_client.specs.State.{State}
use Rattle.conversation_table.specs.Table.{is_startup_phase}
use Rattle.conversation_runs.specs.declared.ends.Progress.{Progress}
use Rattle.conversation_runs.specs.declared.ends.Progress.TheVariants as progress
use Rattle.conversation_runs.specs.declared.ends.ServeError.{ServeError}
use Rattle.conversation_runs.specs.Run.{Rules}
use Rattle.conversation_runs.specs.Session.{SessionValue, HasFed}
use Rattle.conversation_runs.specs.Steps.{WasFed}
use Rattle.conversation_runs.specs.Streams.{GrowsBy, GrowsByFront, HasSinkCause}
use Rattle.pg_engine.specs.Conversing.{Talk}
use Rattle.cursor_commands.specs.declared.command.CursorCommand.{CursorCommand}
use Rattle.cursor_commands.specs.Cursors.{Replies, replies_of}
use Rattle.cursor_table.specs.CursorTable.{asked_command, cursor_rules, is_ready_phase}

-- the session behind, the bytes that are held before it, and how many bytes are to come of the frame that it has begun
pub record FrontValue (H S : Type 0) : Type 0 where
  pub inner : SessionValue H S
  pub held : List ℕ
  pub owed : ℕ

-- a session behind a front, and whether it takes more
pub record CursorValue (H S : Type 0) : Type 0 where
  pub front : FrontValue H S
  pub is_open : Bool

-- the bytes of a frame that isn't whole: those that the session has, or those that are held
abbrev pub rest_of : {H S : Type 0} → FrontValue H S → List ℕ
rest_of v = v.inner.rest ++ v.held

-- the front as a conversation, by what handlers tell
abbrev pub talk_of : {H S : Type 0} → (H → Handlers S) → CursorValue H S → Talk (State S)
talk_of told v = record {
  rules = cursor_rules (told v.front.inner.handlers);
  state = v.front.inner.state;
  rest = rest_of v.front;
  unsent = [];
  is_open = v.is_open;
}

-- No frame that begins with these bytes is a command in this phase.
abbrev pub BeginsNoCommand : PgWireConnectionState → List ℕ → Type 0
BeginsNoCommand phase bytes = (more : List ℕ) (m : PgWireFrontendMessage) → IsFrame (is_startup_phase phase) (bytes ++ more) m
    → is_ready_phase phase ≡ true → asked_command m ≡ None

-- Bytes of a frame that the session has begun, and that is no command: `owed` of its bytes are to come.
pub record IsBegun (phase : PgWireConnectionState) (bytes : List ℕ) (owed : ℕ) : Type 0 where
  pub header : header_len (is_startup_phase phase) ≤ length bytes
  pub told : IsGoodHeader (is_startup_phase phase) bytes → told_len (is_startup_phase phase) bytes ≡ length bytes + owed
  pub plain : BeginsNoCommand phase bytes

-- the bytes are no more than the header or the frame in front of them
abbrev pub FitsFrame : Bool → List ℕ → Type 0
FitsFrame awaiting bytes = (length bytes ≤ header_len awaiting) ⊎ (length bytes ≤ told_len awaiting bytes)

-- Bytes belong to the frame at hand: to the one that the session has begun, or to the one in front of which bytes may be held.
pub record IsPart {H S : Type 0} (v : FrontValue H S) (bytes : List ℕ) : Type 0 where
  pub some : 0 < length bytes
  pub within : v.owed ≢ 0 → length bytes ≤ v.owed
  pub between : v.owed ≡ 0 → FitsFrame (is_startup_phase v.inner.state.info.state) (v.held ++ bytes)

-- The session behind takes more, and no reply waits.
pub record IsQuiet {H S : Type 0} (v : SessionValue H S) : Type 0 where
  pub opened : v.is_open ≡ true
  pub sent : v.unsent ≡ []

-- The front is between two frames: the session behind takes more, no reply waits, and neither has begun a frame.
pub record IsBetween {H S : Type 0} (v : FrontValue H S) : Type 0 where
  pub quiet : IsQuiet v.inner
  pub none : v.inner.rest ≡ []
  pub owed : v.owed ≡ 0

-- The front is between two frames, where it may hold bytes of the next, or within a frame that the session has begun.
abbrev pub IsPlaced : {H S : Type 0} → FrontValue H S → Type 0
IsPlaced v = ((v.owed ≡ 0) × (v.inner.rest ≡ []))
    ⊎ ((0 < v.owed) × (v.held ≡ []) × IsBegun v.inner.state.info.state v.inner.rest v.owed)

-- The front between two calls: no whole frame is left.
pub record IsStanding {H S : Type 0} (v : FrontValue H S) : Type 0 where
  pub quiet : IsQuiet v.inner
  pub short : IsUnfinished (is_startup_phase v.inner.state.info.state) (rest_of v)
  pub placed : IsPlaced v

-- what surrounds a conversation: what its sink tells, its desk and its turns
pub record Around : Type 0 where
  pub written : Option (List ℕ)
  pub faults : ℕ
  pub origin : List ℕ
  pub desk : DeskTold
  pub turns : Turns

-- the same by what the traits of a sink and a desk tell
abbrev pub around : {K D : Type 0} → (K → Option (List ℕ)) → (K → ℕ) → (K → List ℕ) → (D → DeskTold) → K → D → Turns → Around
around written faults origin told sink desk turns = record {
  written = written sink;
  faults = faults sink;
  origin = origin sink;
  desk = told desk;
  turns = turns;
}

-- A text was taken: its frames were answered by the rules, and what is left of it is the new rest where the conversation goes on. Each
-- error has its cause.
pub record Takes {T : Type 0} (rules : Rules T) (s : T) (text : List ℕ) (new_s : T) (new_rest : List ℕ) (before after : Around)
    (result : Result Progress ServeError) : Type 0 where
  pub rest : List ℕ
  pub fed : WasFed rules s text new_s rest before.written after.written [] before.desk.calls after.desk.calls result
  pub left : result ≡ Ok progress.More → rest ≡ new_rest
  pub cause : HasSinkCause before.faults after.faults result
  pub turns : HasFed before.turns after.turns (questions_since before.desk.calls after.desk.calls) result
  pub bounded : before.turns.spent ≤ before.turns.limit → after.turns.spent ≤ after.turns.limit
  pub registration : GoesOn before.desk after.desk
  pub sink : after.origin ≡ before.origin

-- What was written has grown by the replies to a command, where these bytes are the replies to its messages; or by a front of them.
abbrev pub SendsReplies : CursorCommand → List ℕ → Option (List ℕ) → Option (List ℕ) → Type 0
SendsReplies command bytes written new_written = (replies : Replies) → bytes ≡ replies_bytes replies
    → GrowsBy written new_written (replies_bytes (replies_of command replies))

abbrev pub SendsFront : CursorCommand → List ℕ → Option (List ℕ) → Option (List ℕ) → Type 0
SendsFront command bytes written new_written = (replies : Replies) → bytes ≡ replies_bytes replies
    → GrowsByFront written new_written (replies_bytes (replies_of command replies))

-- what a front tells of the end that the messages of a command came to
abbrev pub told_by : Option EndKind → Progress
told_by None = progress.More
told_by (Some kind) = progress.Ended kind
