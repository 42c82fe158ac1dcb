-- Rows of a phase that calls nothing, told with an error of a session.
use Rattle.std.proofs.Common.{◌≡◌, ◌≢◌, ℕ, List, Bool, Option, Some, Result, Ok, Err, IfOk, IfErr, refl, subst, sym, inl}
use Rattle.pg_messages.specs.declared.frontend.PgWireFrontendMessage.{PgWireFrontendMessage}
use Rattle.pg_results.specs.declared.client.PgWireConnectionState.{PgWireConnectionState}
use Rattle.pg_results.specs.declared.client.PgWireConnectionState.TheVariants as phase
use Rattle.conversation_table.specs.CopyRows.{copy_row}
use Rattle.conversation_table.specs.Handlers.{Handlers}
use Rattle.conversation_table.specs.Table.{message_row, row, ready_row, awaiting_sync_row}
use Rattle.pg_results.specs.declared.error.PgWireError.{PgWireError}
use Rattle.pg_client.specs.declared.desk.DeskCall.{DeskCall}
use Rattle.pg_client.specs.declared.ends.EndKind.{EndKind}
use Rattle.pg_client.specs.declared.ends.EndKind.TheVariants as end
use Rattle.pg_client.specs.declared.ends.Turns.{Turns}
use Rattle.pg_results.specs.Rows.{IsAnswerable}
use Rattle.conversation_table.specs.Questions.{HasSpent, questions_since}
use Rattle.pg_client.specs.Ends.{IsAnswerableError, outcome_of}
use Rattle.conversation_table.proofs.Rows.{no_turn}
use Rattle.pg_client.specs.declared.ends.SessionError.{SessionError}
use Rattle.pg_client.specs.declared.ends.SessionError.TheVariants as session
use Rattle.pg_client.specs.Effect.{Effect, Row, IsEffect, IsRefusedEffect, IsRow, IsRefusedRow, silent}
use Rattle.pg_client.specs.StartupRows.{startup_row}
use Rattle.pg_client.specs.State.{State}
use Rattle.conversation_runs.specs.Messages.{going, with_session_error}
use Rattle.conversation_runs.proofs.Rows.{silent_row, silent_refused, same_row, same_refused}

pub with_session_error_ok : {S : Type 0} (row : Row S) (e : Effect S) (out new_out : List ℕ) (calls : List DeskCall) (s : State S)
    (answer : Result (Option EndKind) PgWireError)
    → ((answers : List Bool) → row answers ≡ silent e)
    → IfOk answer (λ end. IsEffect e out new_out (outcome_of end s))
    → IfOk (with_session_error answer) (λ end. IsRow row out new_out calls calls (outcome_of end s))
with_session_error_ok row e out new_out calls s (Ok end) same x = same_row same (silent_row e calls x)
with_session_error_ok row e out new_out calls s (Err error) same x = tt

pub with_session_error_refused : {S : Type 0} (row : Row S) (e : Effect S) (out new_out : List ℕ) (calls : List DeskCall) (s : State S)
    (answer : Result (Option EndKind) PgWireError)
    → ((answers : List Bool) → row answers ≡ silent e)
    → IfErr answer (IsRefusedEffect e out new_out s)
    → IfErr (with_session_error answer) (IsRefusedRow row out new_out calls calls s)
with_session_error_refused row e out new_out calls s (Ok end) same x = tt
with_session_error_refused row e out new_out calls s (Err error) same x =
    same_refused row (λ answers. silent e) out new_out calls calls s (session.Wire error) same (silent_refused e calls x)

pub with_session_error_answerable : (answer : Result (Option EndKind) PgWireError) → IfErr answer IsAnswerable
    → IfErr (with_session_error answer) IsAnswerableError
with_session_error_answerable (Ok end) x = tt
with_session_error_answerable (Err error) x = x

pub with_session_error_ends : (answer : Result (Option EndKind) PgWireError) → IfOk answer (λ kind. kind ≢ Some end.InputEnd)
    → IfOk (with_session_error answer) (λ kind. kind ≢ Some end.InputEnd)
with_session_error_ends (Ok kind) x = x
with_session_error_ends (Err error) x = tt

-- no turn is spent where nothing is asked
pub with_session_error_turns : (turns : Turns) (calls : List DeskCall) (answer : Result (Option EndKind) PgWireError)
    → HasSpent turns turns (questions_since calls calls) (with_session_error answer)
with_session_error_turns turns calls (Ok kind) = no_turn turns calls
with_session_error_turns turns calls (Err error) = inl (no_turn turns calls)

-- an error of a message that doesn't end the conversation
pub going_refused : {A : Type 0} (P : SessionError → Type 0) (answer : Result A SessionError) → IfErr answer P → IfErr (going answer) P
going_refused P (Ok done) x = tt
going_refused P (Err error) x = x

-- ---- the row of a phase

pub startup_refused : {S : Type 0} (h : Handlers S) (s : State S) (m : PgWireFrontendMessage) (out new_out : List ℕ)
    (calls new_calls : List DeskCall) (n : State S) (answer : Result (Option EndKind) SessionError)
    → s.info.state ≡ phase.AwaitingStartup
    → IfErr answer (IsRefusedRow (λ answers. startup_row answers s m) out new_out calls new_calls n)
    → IfErr answer (IsRefusedRow (λ answers. message_row h answers s m) out new_out calls new_calls n)
startup_refused h s m out new_out calls new_calls n answer is x = subst (λ p. IfErr answer (IsRefusedRow
    (λ answers. row h answers s m p) out new_out calls new_calls n)) (sym is) x

pub startup_ok : {S : Type 0} (h : Handlers S) (s : State S) (m : PgWireFrontendMessage) (out new_out : List ℕ)
    (calls new_calls : List DeskCall) (n : State S) (answer : Result (Option EndKind) SessionError)
    → s.info.state ≡ phase.AwaitingStartup
    → IfOk answer (λ end. IsRow (λ answers. startup_row answers s m) out new_out calls new_calls (outcome_of end n))
    → IfOk answer (λ end. IsRow (λ answers. message_row h answers s m) out new_out calls new_calls (outcome_of end n))
startup_ok h s m out new_out calls new_calls n answer is x = subst (λ p. IfOk answer (λ end. IsRow
    (λ answers. row h answers s m p) out new_out calls new_calls (outcome_of end n))) (sym is) x

pub ready_ok : {S : Type 0} (h : Handlers S) (s : State S) (m : PgWireFrontendMessage) (out new_out : List ℕ)
    (calls new_calls : List DeskCall) (n : State S) (answer : Result (Option EndKind) SessionError)
    → s.info.state ≡ phase.ReadyForQuery
    → IfOk answer (λ end. IsRow (λ answers. ready_row h answers s m) out new_out calls new_calls (outcome_of end n))
    → IfOk answer (λ end. IsRow (λ answers. message_row h answers s m) out new_out calls new_calls (outcome_of end n))
ready_ok h s m out new_out calls new_calls n answer is x = subst (λ p. IfOk answer (λ end. IsRow
    (λ answers. row h answers s m p) out new_out calls new_calls (outcome_of end n))) (sym is) x

pub ready_refused : {S : Type 0} (h : Handlers S) (s : State S) (m : PgWireFrontendMessage) (out new_out : List ℕ)
    (calls new_calls : List DeskCall) (n : State S) (answer : Result (Option EndKind) SessionError)
    → s.info.state ≡ phase.ReadyForQuery
    → IfErr answer (IsRefusedRow (λ answers. ready_row h answers s m) out new_out calls new_calls n)
    → IfErr answer (IsRefusedRow (λ answers. message_row h answers s m) out new_out calls new_calls n)
ready_refused h s m out new_out calls new_calls n answer is x = subst (λ p. IfErr answer (IsRefusedRow
    (λ answers. row h answers s m p) out new_out calls new_calls n)) (sym is) x

pub sync_row : {S : Type 0} (h : Handlers S) (answers : List Bool) (s : State S) (m : PgWireFrontendMessage)
    → s.info.state ≡ phase.AwaitingSync
    → message_row h answers s m ≡ silent (awaiting_sync_row s m)
sync_row h answers s m is = rw is refl

pub copy_phase_row : {S : Type 0} (h : Handlers S) (answers : List Bool) (s : State S) (m : PgWireFrontendMessage) (is_extended : Bool)
    → s.info.state ≡ phase.CopyInProgress is_extended → message_row h answers s m ≡ silent (copy_row h.copying is_extended s m)
copy_phase_row h answers s m is_extended is = rw is refl

-- the phase that is left
pub last_phase : (p : PgWireConnectionState) → (p ≡ phase.AwaitingStartup → ⊥) → ((b : Bool) → p ≡ phase.CopyInProgress b → ⊥)
    → (p ≡ phase.ReadyForQuery → ⊥) → p ≡ phase.AwaitingSync
last_phase phase.AwaitingStartup startup copy ready = absurd (startup refl)
last_phase phase.ReadyForQuery startup copy ready = absurd (ready refl)
last_phase phase.AwaitingSync startup copy ready = refl
last_phase (phase.CopyInProgress b) startup copy ready = absurd (copy b refl)
