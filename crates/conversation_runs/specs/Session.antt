-- A session as contracts see it, and the rules that it goes by.
use Rattle.std.specs.Prelude.{ℕ, Bool, true, false, List, Option, Some, None, Result, Ok, Err, ◌≡◌, ◌+◌, ◌≤◌, ◌⊎◌}
use Rattle.std.specs.Option.{option_map}
use Rattle.pg_results.specs.declared.error.PgWireError.TheVariants as wire
use Rattle.pg_messages.specs.Frames.{IsUnfinished, IsBad}
use Rattle.pg_messages.specs.declared.codec.FrameError.{FrameError}
use Rattle.pg_messages.specs.declared.codec.FrameError.TheVariants as frame
use Rattle.pg_client.specs.declared.ends.EndKind.{EndKind}
use Rattle.pg_client.specs.declared.ends.EndKind.TheVariants as end
use Rattle.pg_client.specs.declared.ends.SessionError.{SessionError}
use Rattle.pg_client.specs.declared.ends.SessionError.TheVariants as session
use Rattle.pg_client.specs.declared.ends.Turns.{Turns}
use Rattle.conversation_table.specs.Handlers.{Handlers}
use Rattle.pg_client.specs.State.{State}
use Rattle.conversation_table.specs.Table.{whole_table, awaits}
use Rattle.conversation_runs.specs.declared.ends.Progress.{Progress}
use Rattle.conversation_runs.specs.declared.ends.Progress.TheVariants as progress
use Rattle.conversation_runs.specs.declared.ends.ServeError.{ServeError}
use Rattle.conversation_runs.specs.declared.ends.ServeError.TheVariants as serve
use Rattle.conversation_runs.specs.Run.{Rules}

-- the handlers that it calls, where the conversation stands, the bytes of a frame that isn't whole, the replies that wait, and whether it
-- takes more
pub record SessionValue (H S : Type 0) : Type 0 where
  pub handlers : H
  pub state : State S
  pub rest : List ℕ
  pub unsent : List ℕ
  pub is_open : Bool

-- nothing has changed but the replies that wait
pub record ChangesUnsent {H S : Type 0} (old new : SessionValue H S) : Type 0 where
  pub state : new.state ≡ old.state
  pub handlers : new.handlers ≡ old.handlers
  pub rest : new.rest ≡ old.rest
  pub opened : new.is_open ≡ old.is_open

-- nothing has changed but the bytes of a frame that isn't whole
pub record ChangesRest {H S : Type 0} (old new : SessionValue H S) : Type 0 where
  pub state : new.state ≡ old.state
  pub handlers : new.handlers ≡ old.handlers
  pub unsent : new.unsent ≡ old.unsent
  pub opened : new.is_open ≡ old.is_open

-- the most bytes of a frame that isn't whole: one less than a whole frame may have, while the startup packet is awaited
-- and afterwards
abbrev pub most_held : Bool → ℕ
most_held true = 9999
most_held false = 1048576

-- the rules of the conversation with these handlers
abbrev pub whole_rules : {S : Type 0} → Handlers S → Rules (State S)
whole_rules h = record { table = whole_table h; awaits = awaits }

-- an error that the client is told leaves a session open; an end, NoMemory and TurnLimit close it
abbrev pub stays_open : Result (Option EndKind) SessionError → Bool
stays_open (Ok None) = true
stays_open (Ok (Some kind)) = false
stays_open (Err (session.Wire wire.NoMemory)) = false
stays_open (Err (session.Wire e)) = true
stays_open (Err session.TurnLimit) = false

-- Turns were spent on questions, and on nothing else. Where memory ran out, one more may be spent. At TurnLimit none is
-- left.
abbrev pub HasFed : {A : Type 0} → Turns → Turns → ℕ → Result A ServeError → Type 0
HasFed old new asked (Err serve.NoMemory) = (new ≡ record { spent = old.spent + asked; limit = old.limit })
    ⊎ (new ≡ record { spent = old.spent + asked + 1; limit = old.limit })
HasFed old new asked (Err serve.TurnLimit) = (new ≡ record { spent = old.spent + asked; limit = old.limit }) × (old.limit ≤ new.spent)
HasFed old new asked result = new ≡ record { spent = old.spent + asked; limit = old.limit }

-- an end and an error close a session
abbrev pub goes_on : {E : Type 0} → Result (Option EndKind) E → Bool
goes_on (Ok None) = true
goes_on (Ok (Some kind)) = false
goes_on (Err e) = false

-- the result of a step that answered a message: how the conversation ended, if it did, or the error
abbrev pub told_end : Result (Option EndKind) ServeError → Result (Option Progress) ServeError
told_end (Ok end) = Ok (option_map (λ kind. progress.Ended kind) end)
told_end (Err error) = Err error

-- the result of a step where no message could be read
abbrev pub unread : FrameError → Result (Option Progress) ServeError
unread frame.Bad = Ok (Some (progress.Ended end.BadFrame))
unread frame.NoMemory = Err serve.NoMemory

-- the result of a step over bytes that begin with no good frame: more bytes are awaited, or they begin with a bad
-- frame, or memory ran out
abbrev pub IsUnread : Bool → List ℕ → Result (Option Progress) ServeError → Type 0
IsUnread awaiting text (Ok (Some progress.More)) = IsUnfinished awaiting text
IsUnread awaiting text (Ok (Some (progress.Ended kind))) = (kind ≡ end.BadFrame) × IsBad awaiting text
IsUnread awaiting text (Ok None) = ⊥
IsUnread awaiting text (Err error) = error ≡ serve.NoMemory

-- the result of a round; without one the conversation goes on
abbrev pub told_or_more : Option (Result Progress ServeError) → Result Progress ServeError
told_or_more None = Ok progress.More
told_or_more (Some told) = told

-- the conversation goes on after a step
abbrev pub is_going : Option Progress → Bool
is_going None = true
is_going (Some progress.More) = true
is_going (Some (progress.Ended kind)) = false

-- the conversation goes on after a piece
abbrev pub is_more : Result Progress ServeError → Bool
is_more (Ok progress.More) = true
is_more (Ok (progress.Ended kind)) = false
is_more (Err e) = false
