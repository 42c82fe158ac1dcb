-- What a message and an error come to.
use Rattle.std.specs.Prelude.{ℕ, Bool, true, false, List, Option, Some, None, Result, Ok, Err}
use Rattle.pg_messages.specs.declared.frontend.PgWireFrontendMessage.{PgWireFrontendMessage}
use Rattle.pg_messages.specs.declared.frontend.PgWireFrontendMessage.TheVariants as client
use Rattle.pg_messages.specs.Frames.{IsFrame}
use Rattle.pg_results.specs.declared.error.PgWireError.{PgWireError}
use Rattle.pg_client.specs.declared.ends.EndKind.{EndKind}
use Rattle.pg_client.specs.declared.ends.SessionError.{SessionError}
use Rattle.pg_client.specs.declared.ends.SessionError.TheVariants as session
use Rattle.pg_client.specs.Answer.{Next, Goes, Ends}
use Rattle.pg_client.specs.Effect.{Scope, UntilSync, AnswersReady}
use Rattle.pg_client.specs.State.{State}
use Rattle.conversation_table.specs.Table.{awaits}

-- the message is one that a good frame carries in the phase of a state
abbrev pub IsGivenIn : {S : Type 0} → State S → PgWireFrontendMessage → Type 0
IsGivenIn s m = (frame : List ℕ) × IsFrame (awaits s) frame m

-- what an error ends, by whether the session waits for Sync
abbrev pub scope_for : Bool → Scope
scope_for true = UntilSync
scope_for false = AnswersReady

-- the end, or the state where there is none
abbrev pub next_of : {T : Type 0} → Option EndKind → T → Next T
next_of None s = Goes s
next_of (Some kind) s = Ends kind

-- the same result, with an error of a message as one of a session
abbrev pub with_session_error : {A : Type 0} → Result A PgWireError → Result A SessionError
with_session_error (Ok answer) = Ok answer
with_session_error (Err error) = Err (session.Wire error)

-- the same result, as that of a message that doesn't end the conversation
abbrev pub going : {A : Type 0} → Result A SessionError → Result (Option EndKind) SessionError
going (Ok done) = Ok None
going (Err error) = Err error

-- a message that a ready session doesn't read as its own type
abbrev pub IsRarer : PgWireFrontendMessage → Type 0
IsRarer (client.Query m) = ⊥
IsRarer (client.Parse m) = ⊥
IsRarer (client.Bind m) = ⊥
IsRarer (client.Describe m) = ⊥
IsRarer (client.Execute m) = ⊥
IsRarer (client.Close m) = ⊥
IsRarer (client.PgSync m) = ⊥
IsRarer _ = Unit {0}
