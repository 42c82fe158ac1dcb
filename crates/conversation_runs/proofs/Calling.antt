-- A message of a session that is ready, which may call the registry: its row is that of its phase.
use Rattle.std.proofs.Common.{◌≡◌, ℕ, List, Result, IfErr, OnOk, sym, subst}
use Rattle.pg_messages.specs.declared.frontend.PgWireFrontendMessage.{PgWireFrontendMessage}
use Rattle.pg_results.specs.declared.client.PgWireConnectionState.TheVariants as phase
use Rattle.pg_client.specs.declared.desk.DeskCall.{DeskCall}
use Rattle.pg_client.specs.declared.ends.SessionError.{SessionError}
use Rattle.pg_client.specs.Effect.{Outcome, IsRow, IsRefusedRow}
use Rattle.conversation_table.specs.Handlers.{Handlers}
use Rattle.pg_client.specs.State.{State}
use Rattle.conversation_table.specs.Table.{message_row, ready_row, row}

module _ {S : Type 0} (h : Handlers S) (s : State S) (m : PgWireFrontendMessage) (ready : s.info.state ≡ phase.ReadyForQuery) where
  pub called_ok : {A : Type 0} (out new : List ℕ) (calls new_calls : List DeskCall) (outcome : Outcome S) (answer : Result A SessionError)
      → OnOk answer (IsRow (λ answers. ready_row h answers s m) out new calls new_calls outcome)
      → OnOk answer (IsRow (λ answers. message_row h answers s m) out new calls new_calls outcome)
  called_ok out new calls new_calls outcome answer x =
      subst (λ p. OnOk answer (IsRow (λ answers. row h answers s m p) out new calls new_calls outcome)) (sym ready) x

  pub called_refused : {A : Type 0} (out new : List ℕ) (calls new_calls : List DeskCall) (t : State S) (answer : Result A SessionError)
      → IfErr answer (IsRefusedRow (λ answers. ready_row h answers s m) out new calls new_calls t)
      → IfErr answer (IsRefusedRow (λ answers. message_row h answers s m) out new calls new_calls t)
  called_refused out new calls new_calls t answer x =
      subst (λ p. IfErr answer (IsRefusedRow (λ answers. row h answers s m p) out new calls new_calls t)) (sym ready) x
