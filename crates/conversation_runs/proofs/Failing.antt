-- What an error of a message comes to: the answer of its message, where the error was told; else a front of that answer.
use Rattle.std.proofs.Common.{◌≡◌, ◌≢◌, ◌++◌, ℕ, List, [], Option, Result, Ok, Err, IfOk, IfErr, OnOk, OnErr, IsErrOf, refl, inl, inr, ◌⊎◌, ⊎_elim, arith}
use Rattle.pg_messages.specs.declared.frontend.PgWireFrontendMessage.{PgWireFrontendMessage}
use Rattle.pg_messages.specs.Replies.{replies_bytes}
use Rattle.pg_results.specs.Errors.{info_of}
use Rattle.pg_results.specs.declared.error.PgWireError.{PgWireError}
use Rattle.pg_results.specs.declared.error.PgWireError.TheVariants as wire
use Rattle.pg_client.specs.declared.desk.DeskCall.{DeskCall}
use Rattle.pg_client.specs.declared.ends.EndKind.{EndKind}
use Rattle.pg_client.specs.declared.ends.SessionError.{SessionError}
use Rattle.pg_client.specs.declared.ends.SessionError.TheVariants as session
use Rattle.pg_client.specs.declared.ends.Turns.{Turns}
use Rattle.pg_client.specs.Effect.{Scope, failed, IsRefusedRow}
use Rattle.conversation_table.specs.Handlers.{Handlers}
use Rattle.conversation_table.specs.Questions.{HasSpent}
use Rattle.pg_client.specs.State.{State}
use Rattle.conversation_table.specs.Table.{message_row, whole_table, scope_in}
use Rattle.conversation_runs.specs.declared.ends.ServeError.{ServeError}
use Rattle.conversation_runs.specs.declared.ends.ServeError.TheVariants as serve
use Rattle.conversation_runs.specs.Messages.{next_of}
use Rattle.conversation_runs.specs.Session.{HasFed}
use Rattle.conversation_runs.specs.Steps.{FailedSo, IsAnswered, IsCutAnswer, IsStoppedAnswer}
use Rattle.conversation_runs.proofs.Answering.{answered_by_error, row_where_told, cut_refused, cut_behind_stopped, stopped_row}

-- an error that was told, or for which memory was wanting
pub failed_by_told : {S : Type 0} (e : PgWireError) (scope : Scope) (s new_s : State S) (out new_out : List ℕ)
    (result : Result (Option EndKind) ServeError) → OnOk result (e ≢ wire.NoMemory)
    → OnOk result (new_out ≡ out ++ replies_bytes (failed scope [] [] s (info_of e)).replies)
    → IfOk result (λ end. (failed scope [] [] s (info_of e)).next ≡ next_of end new_s)
    → IfErr result (λ error. error ≡ serve.NoMemory) → FailedSo (session.Wire e) scope s new_s out new_out result
failed_by_told e scope s new_s out new_out (Ok end) known replied next only = record { known = known; replied = replied; next = next }
failed_by_told e scope s new_s out new_out (Err error) known replied next only = only

module _ {S : Type 0} (h : Handlers S) (s : State S) (m : PgWireFrontendMessage) (calls new_calls : List DeskCall) (out mid new : List ℕ)
    (t n : State S) (scope : Scope) (same : scope ≡ scope_in s.info.state m) where
  pub failed_answer : (error : SessionError) (result : Result (Option EndKind) ServeError)
      → IsRefusedRow (λ answers. message_row h answers s m) out mid calls new_calls t error
      → FailedSo error scope t n mid new result
      → IfOk result (λ end. IsAnswered (whole_table h) s m out new calls new_calls (next_of end n))
  failed_answer (session.Wire e) (Ok end) refused x =
      answered_by_error h s m calls new_calls out mid new t e scope (next_of end n)
      (row_where_told h s m calls new_calls out mid t e x.known refused) same x.replied x.next
  failed_answer (session.Wire e) (Err error) refused x = tt
  failed_answer session.TurnLimit (Ok end) refused x = cc
  failed_answer session.TurnLimit (Err error) refused x = tt

  pub failed_cut : (error : SessionError) (result : Result (Option EndKind) ServeError)
      → IsRefusedRow (λ answers. message_row h answers s m) out mid calls new_calls t error
      → OnErr result (IsCutAnswer (whole_table h) s m calls new_calls)
  failed_cut error (Ok end) refused = tt
  failed_cut (session.Wire e) (Err k) refused = cut_refused h s m calls new_calls out mid t e refused
  failed_cut session.TurnLimit (Err k) refused = cut_behind_stopped h s m calls new_calls out mid refused

  pub failed_stopped : (error : SessionError) (result : Result (Option EndKind) ServeError)
      → IsRefusedRow (λ answers. message_row h answers s m) out mid calls new_calls t error
      → FailedSo error scope t n mid new result
      → IsErrOf result serve.TurnLimit → IsStoppedAnswer (whole_table h) s m calls new_calls
  failed_stopped (session.Wire e) (Ok end) refused x limit = cc
  failed_stopped (session.Wire e) (Err k) refused x limit = cc
  failed_stopped session.TurnLimit result refused x limit = stopped_row h s m calls new_calls out mid refused

-- the errors that come of one
pub failed_only : {S : Type 0} (error : SessionError) (scope : Scope) (s new_s : State S) (out new_out : List ℕ)
    (result : Result (Option EndKind) ServeError) → FailedSo error scope s new_s out new_out result
    → IfErr result (λ e. (e ≡ serve.NoMemory) ⊎ (e ≡ serve.TurnLimit))
failed_only (session.Wire e) scope s new_s out new_out (Ok end) x = tt
failed_only (session.Wire e) scope s new_s out new_out (Err k) x = inl x
failed_only session.TurnLimit scope s new_s out new_out (Ok end) x = cc
failed_only session.TurnLimit scope s new_s out new_out (Err k) x = inr cc

-- no turn is wanted where none is spent, however many are left
pub never_limited : (error : SessionError) (asked : ℕ)
    → ((turns : Turns) → HasSpent {A = Option EndKind} turns turns asked (Err error)) → error ≢ session.TurnLimit
never_limited (session.Wire e) asked spent is = cc
never_limited session.TurnLimit asked spent is = omega (arith, (spent (record { spent = 0; limit = 1 })).1)

pub failed_memory : {S : Type 0} (error : SessionError) (scope : Scope) (s new_s : State S) (out new_out : List ℕ)
    (result : Result (Option EndKind) ServeError) → FailedSo error scope s new_s out new_out result → error ≢ session.TurnLimit
    → IfErr result (λ e. e ≡ serve.NoMemory)
failed_memory (session.Wire e) scope s new_s out new_out (Ok end) x unlimited = tt
failed_memory (session.Wire e) scope s new_s out new_out (Err k) x unlimited = x
failed_memory session.TurnLimit scope s new_s out new_out result x unlimited = absurd (unlimited refl)

-- the turns that were spent
pub failed_turns : {S : Type 0} (A : Type 0) (error : SessionError) (scope : Scope) (s new_s : State S) (out new_out : List ℕ)
    (result : Result (Option EndKind) ServeError) (old new : Turns) (asked : ℕ) → FailedSo error scope s new_s out new_out result
    → HasSpent {A = A} old new asked (Err error) → HasFed old new asked result
failed_turns A (session.Wire e) scope s new_s out new_out (Ok end) old new asked x spent =
    ⊎_elim (λ same. same) (λ more. absurd (x.known more.0)) spent
failed_turns A (session.Wire e) scope s new_s out new_out (Err k) old new asked x spent =
    rw x (⊎_elim (λ same. inl same) (λ more. inr more.1) spent)
failed_turns A session.TurnLimit scope s new_s out new_out result old new asked x spent = rw x spent
