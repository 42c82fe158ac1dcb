-- What becomes of the registration: it is narrowed to what a client is told, and to nothing else.
use Rattle.std.proofs.Common.{◌≡◌, ℕ, true, false, if◌then◌else◌, List, [], ◌∷◌, ◌++◌, take, Option, Result, Ok, Err, IfOk, IfErr, OnOk, refl, sym, ap, subst, ◌∙◌, ⊎_elim}
use Rattle.std.proofs.lemmas.Bool.{ltb-false}
use Rattle.std.proofs.lemmas.List.{take_all}
use Rattle.pg_messages.specs.declared.codec.ProtocolVersion.{ProtocolVersion}
use Rattle.pg_messages.specs.declared.codec.ProtocolVersion.TheVariants.{PROTOCOL3_0, PROTOCOL3_2}
use Rattle.pg_messages.specs.declared.frontend.PgWireFrontendMessage.{PgWireFrontendMessage}
use Rattle.pg_client.specs.declared.desk.DeskCall.{DeskCall}
use Rattle.pg_client.specs.declared.desk.DeskCall.TheVariants as desk
use Rattle.pg_client.specs.declared.ends.EndKind.{EndKind}
use Rattle.pg_client.specs.declared.ends.SessionError.{SessionError}
use Rattle.pg_client.specs.declared.ends.SessionError.TheVariants as session
use Rattle.pg_client.specs.Answer.{answers_of}
use Rattle.pg_client.specs.Desk.{DeskTold, KeepsDesk, GoesOn, after_calls}
use Rattle.pg_client.specs.Effect.{Outcome, IsRow, IsCutRow, IsRefusedRow}
use Rattle.conversation_table.specs.Handlers.{Handlers}
use Rattle.pg_client.specs.StartupRows.{told_key, tells_less, narrowing}
use Rattle.pg_client.specs.State.{State}
use Rattle.conversation_table.specs.Table.{ready_row}
use Rattle.pg_client.proofs.Desks.{NarrowsNone, after_none, narrows_none_front, goes_on_kept}
use Rattle.conversation_table.proofs.Narrowing.{ready_narrows_none}
use Rattle.pg_client.specs.Ends.{outcome_of}

-- ---- the key that a client is told

pub whole_told : (version : ProtocolVersion) (key : List ℕ) → tells_less version key ≡ false → key ≡ told_key version key
whole_told PROTOCOL3_0 key e = sym (take_all 4 key (ltb-false _ _ e))
whole_told PROTOCOL3_2 key e = refl

pub less_told : (version : ProtocolVersion) (key front : List ℕ) → tells_less version key ≡ true → front ≡ take 4 key
    → front ≡ told_key version key
less_told PROTOCOL3_0 key front e is = is
less_told PROTOCOL3_2 key front e is = absurd cc

pub nothing_narrowed : (version : ProtocolVersion) (key : List ℕ) (told : DeskTold) → tells_less version key ≡ false
    → told ≡ after_calls told (narrowing version key)
nothing_narrowed version key told e =
    after_none told ∙ ap (λ b. after_calls told (if b then desk.Narrow ∷ [] else [])) (sym e)

pub was_narrowed : (version : ProtocolVersion) (key : List ℕ) (old new : DeskTold) → tells_less version key ≡ true
    → new ≡ after_calls old (desk.Narrow ∷ []) → new ≡ after_calls old (narrowing version key)
was_narrowed version key old new e is = is ∙ ap (λ b. after_calls old (if b then desk.Narrow ∷ [] else [])) (sym e)

-- ---- a message of a session that is ready

module _ {S : Type 0} (h : Handlers S) (s : State S) (m : PgWireFrontendMessage) (old new : DeskTold) (kept : KeepsDesk old new) where
  own_goes_on : (made : List DeskCall) → (ready_row h (answers_of made) s m).calls ≡ made → new.calls ≡ old.calls ++ made → GoesOn old new
  own_goes_on made own grown =
      goes_on_kept old new made (subst NarrowsNone own (ready_narrows_none h (answers_of made) s m)) grown kept

  cut_goes_on : IsCutRow (λ answers. ready_row h answers s m) old.calls new.calls → GoesOn old new
  cut_goes_on x = goes_on_kept old new x.made
      (narrows_none_front x.made x.front.0 (subst NarrowsNone x.front.1 (ready_narrows_none h (answers_of x.made) s m))) x.grown kept

  pub ready_goes_on : (out new_out : List ℕ) (next : State S) (result : Result (Option EndKind) SessionError)
      → IfOk result (λ end. IsRow (λ answers. ready_row h answers s m) out new_out old.calls new.calls (outcome_of end next))
      → IfErr result (IsRefusedRow (λ answers. ready_row h answers s m) out new_out old.calls new.calls next)
      → GoesOn old new
  ready_goes_on out new_out next (Ok end) row refused = own_goes_on row.made row.own row.called
  ready_goes_on out new_out next (Err session.TurnLimit) row refused = own_goes_on refused.made refused.own refused.called
  ready_goes_on out new_out next (Err (session.Wire e)) row refused =
      ⊎_elim (λ none. cut_goes_on none.1) (λ told. own_goes_on told.made told.own told.called) refused

  -- the same of a message that doesn't end the conversation
  pub called_goes_on : {A : Type 0} (out new_out : List ℕ) (outcome : Outcome S) (next : State S) (result : Result A SessionError)
      → OnOk result (IsRow (λ answers. ready_row h answers s m) out new_out old.calls new.calls outcome)
      → IfErr result (IsRefusedRow (λ answers. ready_row h answers s m) out new_out old.calls new.calls next)
      → GoesOn old new
  called_goes_on out new_out outcome next (Ok x) row refused = own_goes_on row.made row.own row.called
  called_goes_on out new_out outcome next (Err session.TurnLimit) row refused = own_goes_on refused.made refused.own refused.called
  called_goes_on out new_out outcome next (Err (session.Wire e)) row refused =
      ⊎_elim (λ none. cut_goes_on none.1) (λ told. own_goes_on told.made told.own told.called) refused
