-- One row of the table, and what its outcome comes to: an error is told, and the conversation waits for Sync, is ready again, or ends.
use Rattle.std.specs.Prelude.{ℕ, Bool, List, [], ◌∷◌, ◌++◌, ◌≡◌, ◌⊎◌, if◌then◌else◌}
use Rattle.pg_messages.specs.declared.response.ErrorInfo.{ErrorInfo}
use Rattle.pg_messages.specs.Status.{to_error_state}
use Rattle.pg_messages.specs.Replies.{replies_bytes}
use Rattle.pg_results.specs.declared.error.PgWireError.{PgWireError}
use Rattle.pg_results.specs.declared.error.PgWireError.TheVariants as wire
use Rattle.pg_results.specs.declared.client.PgWireConnectionState.{PgWireConnectionState}
use Rattle.pg_results.specs.declared.client.PgWireConnectionState.TheVariants as phase
use Rattle.pg_client.specs.declared.ends.SessionError.{SessionError}
use Rattle.pg_client.specs.declared.ends.SessionError.TheVariants as session
use Rattle.pg_results.specs.Errors.{info_of}
use Rattle.pg_client.specs.declared.desk.DeskCall.{DeskCall}
use Rattle.pg_client.specs.declared.ends.EndKind.{EndKind}
use Rattle.pg_client.specs.declared.ends.EndKind.TheVariants as end
use Rattle.pg_client.specs.Answer.{Answer, Goes, Ends, Stops, answers_of, BeginsWith, AsksNext}
use Rattle.pg_client.specs.Errors.{is_fatal}
use Rattle.pg_replies.specs.Replies.{Replies, error_reply, ready}
use Rattle.pg_client.specs.State.{State, in_phase, with_status}

-- a row's outcome: a state; an error, and the state that it leaves; an end; or a registry call for which no answer is
-- left
pub data Outcome (S : Type 0) : Type 0 where
  Done : State S → Outcome S
  Failed : State S → PgWireError → Outcome S
  Over : EndKind → Outcome S
  Stopped : Outcome S

-- what a row replies, and its outcome
pub record Effect (S : Type 0) : Type 0 where
  pub replies : Replies
  pub outcome : Outcome S

-- These replies are given, and the conversation goes on in this state.
abbrev pub says : {S : Type 0} → Replies → State S → Effect S
says replies s = record { replies = replies; outcome = Done s }

-- The message is refused with this error.
abbrev pub refuses : {S : Type 0} → State S → PgWireError → Effect S
refuses s e = record { replies = []; outcome = Failed s e }

abbrev pub over : {S : Type 0} → EndKind → Effect S
over kind = record { replies = []; outcome = Over kind }

-- A registry call needs an answer, and none is left.
abbrev pub stopped : {S : Type 0} → Effect S
stopped = record { replies = []; outcome = Stopped }

-- an effect with the registry calls that led to it
pub record Called (S : Type 0) : Type 0 where
  pub calls : List DeskCall
  pub effect : Effect S

-- Nothing is called.
abbrev pub silent : {S : Type 0} → Effect S → Called S
silent e = record { calls = []; effect = e }

-- A query is taken only while the server is ready.
abbrev pub ready_or_refused : {S : Type 0} → State S → Called S → PgWireConnectionState → Called S
ready_or_refused s c phase.ReadyForQuery = c
ready_or_refused s c _ = silent (refuses s wire.NotReadyForQuery)

abbrev pub when_ready : {S : Type 0} → State S → Called S → Called S
when_ready s c = ready_or_refused s c s.info.state

-- a row of the table, under the registry's answers to come
abbrev pub Row : Type 0 → Type 0
Row S = List Bool → Called S

-- What an error ends: an extended message, so that all is dropped until the next Sync; or a Query, so that the server is ready for the
-- next.
pub data Scope : Type 0 where
  UntilSync : Scope
  AnswersReady : Scope

-- what comes after an error that isn't fatal: replies and a state
abbrev pub after_error : {S : Type 0} → Scope → State S → Replies × State S
after_error UntilSync s = ([], in_phase (with_status s (to_error_state s.info.status)) phase.AwaitingSync)
after_error AnswersReady s = (
  ready (to_error_state s.info.status) ∷ [],
  in_phase (with_status s (to_error_state s.info.status)) phase.ReadyForQuery,
)

-- Error: ErrorResponse, then the end where it is fatal, and else what its scope says.
abbrev pub failed : {S : Type 0} → Scope → Replies → List DeskCall → State S → ErrorInfo → Answer (State S)
failed scope replies calls s info =
    let after = after_error scope s in
    if is_fatal info
    then (record { replies = replies ++ error_reply info ∷ []; calls = calls; next = Ends end.Fatal })
    else (record { replies = replies ++ error_reply info ∷ after.0; calls = calls; next = Goes after.1 })

abbrev pub settled : {S : Type 0} → Scope → Replies → List DeskCall → Outcome S → Answer (State S)
settled scope replies calls (Done s) = record { replies = replies; calls = calls; next = Goes s }
settled scope replies calls (Failed s e) = failed scope replies calls s (info_of e)
settled scope replies calls (Over kind) = record { replies = replies; calls = calls; next = Ends kind }
settled scope replies calls Stopped = record { replies = replies; calls = calls; next = Stops }

abbrev pub settle : {S : Type 0} → Scope → Called S → Answer (State S)
settle scope c = settled scope c.effect.replies c.calls c.effect.outcome

-- ---- what a call made of a row

-- An effect was carried out: the bytes that wait have grown by its replies, and this is its outcome.
pub record IsEffect {S : Type 0} (effect : Effect S) (out new_out : List ℕ) (outcome : Outcome S) : Type 0 where
  pub replied : new_out ≡ out ++ replies_bytes effect.replies
  pub came : effect.outcome ≡ outcome

-- An effect was refused with this error, or memory ran out.
abbrev pub IsRefusedEffect : {S : Type 0} → Effect S → List ℕ → List ℕ → State S → PgWireError → Type 0
IsRefusedEffect effect out new_out s e = (e ≡ wire.NoMemory) ⊎ IsEffect effect out new_out (Failed s e)

-- A row was carried out, with exactly the answers that its calls hold.
pub record IsRow {S : Type 0} (row : Row S) (out new_out : List ℕ) (calls new_calls : List DeskCall) (outcome : Outcome S) : Type 0 where
  pub made : List DeskCall
  pub own : (row (answers_of made)).calls ≡ made
  pub called : new_calls ≡ calls ++ made
  pub effect : IsEffect (row (answers_of made)).effect out new_out outcome

-- A row was cut off: the calls that were made are a front of its calls.
pub record IsCutRow {S : Type 0} (row : Row S) (calls new_calls : List DeskCall) : Type 0 where
  pub made : List DeskCall
  pub front : BeginsWith (row (answers_of made)).calls made
  pub grown : new_calls ≡ calls ++ made

-- A row stops at a question: its next call is one, whether its answer would be yes or no.
pub record IsStoppedRow {S : Type 0} (row : Row S) (out new_out : List ℕ) (calls new_calls : List DeskCall) : Type 0 where
  pub made : List DeskCall
  pub own : (row (answers_of made)).calls ≡ made
  pub called : new_calls ≡ calls ++ made
  pub effect : IsEffect (row (answers_of made)).effect out new_out Stopped
  pub asks : AsksNext (λ answers. (row answers).calls) made

-- A row was refused: with this error, or because memory ran out, or it stops at a question for which no turn is left.
abbrev pub IsRefusedRow : {S : Type 0} → Row S → List ℕ → List ℕ → List DeskCall → List DeskCall → State S → SessionError → Type 0
IsRefusedRow row out new_out calls new_calls s (session.Wire e) = ((e ≡ wire.NoMemory) × IsCutRow row calls new_calls)
    ⊎ IsRow row out new_out calls new_calls (Failed s e)
IsRefusedRow row out new_out calls new_calls s session.TurnLimit = IsStoppedRow row out new_out calls new_calls
