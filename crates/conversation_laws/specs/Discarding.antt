-- Messages that are dropped after an error, and the Sync that ends it (protocol: Message Flow, Extended Query).
use Rattle.std.specs.Prelude.{Bool, true, false, [], ◌∷◌, ◌++◌, ◌≡◌}
use Rattle.pg_messages.specs.declared.frontend.PgWireFrontendMessage.{PgWireFrontendMessage}
use Rattle.pg_messages.specs.declared.frontend.PgWireFrontendMessage.TheVariants as client
use Rattle.pg_messages.specs.declared.response.ErrorInfo.{ErrorInfo}
use Rattle.pg_results.specs.declared.client.PgWireConnectionState.{PgWireConnectionState}
use Rattle.pg_results.specs.declared.client.PgWireConnectionState.TheVariants as phase
use Rattle.pg_messages.specs.declared.backend.PgWireBackendMessage.TheVariants as server
use Rattle.pg_client.specs.declared.ends.EndKind.TheVariants as end
use Rattle.pg_client.specs.Errors.{is_fatal}
use Rattle.pg_client.specs.Answer.{Answer, Next, Goes, Ends}
use Rattle.pg_replies.specs.Replies.{Replies, error_reply, ready}
use Rattle.pg_client.specs.State.{State, in_phase, without_unnamed_portal}

-- a message that is dropped after an error: each but Sync and Terminate
abbrev pub IsDiscarded : PgWireFrontendMessage → Type 0
IsDiscarded (client.PgSync m) = ⊥
IsDiscarded (client.Terminate m) = ⊥
IsDiscarded _ = Unit {0}

-- a message of an extended query: each but Query while the server is ready, and each of a COPY that an Execute began
abbrev pub IsOfExtendedQuery : PgWireConnectionState → PgWireFrontendMessage → Type 0
IsOfExtendedQuery phase.ReadyForQuery (client.Query m) = ⊥
IsOfExtendedQuery phase.ReadyForQuery _ = Unit {0}
IsOfExtendedQuery (phase.CopyInProgress true) _ = Unit {0}
IsOfExtendedQuery _ _ = ⊥

-- the session has started, and no COPY is in progress
abbrev pub IsOutsideCopy : PgWireConnectionState → Type 0
IsOutsideCopy phase.ReadyForQuery = Unit {0}
IsOutsideCopy phase.AwaitingSync = Unit {0}
IsOutsideCopy _ = ⊥

-- Nothing is replied or called, and the state stays.
abbrev pub unchanged : {S : Type 0} → State S → Answer (State S)
unchanged s = record { replies = []; calls = []; next = Goes s }

-- the state after a Sync: the unnamed portal is gone, and the server is ready
abbrev pub behind_sync : {S : Type 0} → State S → State S
behind_sync s = in_phase (without_unnamed_portal s) phase.ReadyForQuery

-- one ReadyForQuery, with the status of the transaction
abbrev pub synced : {S : Type 0} → State S → Answer (State S)
synced s = record { replies = ready s.info.status ∷ []; calls = []; next = Goes (behind_sync s) }

-- what follows an error: the end where it is fatal, and else the phase that awaits Sync
abbrev pub FollowsError : {S : Type 0} → Bool → Next (State S) → Type 0
FollowsError true next = next ≡ Ends end.Fatal
FollowsError {S} false next = (t : State S) × (next ≡ Goes t) × (t.info.state ≡ phase.AwaitingSync)

-- The last reply is this error's, and its severity decides what follows.
pub record EndsWithError {S : Type 0} (info : ErrorInfo) (a : Answer (State S)) : Type 0 where
  pub front : Replies
  pub replied : a.replies ≡ front ++ error_reply info ∷ []
  pub follows : FollowsError (is_fatal info) a.next

-- whether an ErrorResponse is among replies
abbrev pub has_error : Replies → Bool
has_error [] = false
has_error (server.ErrorResponse m ∷ replies) = true
has_error (reply ∷ replies) = has_error replies
