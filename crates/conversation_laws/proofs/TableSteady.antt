-- The whole table is steady, whatever the handlers tell.
use Rattle.std.proofs.Common.{◌≡◌, ◌≤◌, ℕ, Bool, true, false, if◌then◌else◌, List, ◌++◌, length, refl, ap, sym, ◌∙◌}
use Rattle.pg_results.specs.Errors.{info_of}
use Rattle.pg_client.specs.declared.desk.DeskCall.{DeskCall}
use Rattle.pg_client.specs.declared.ends.EndKind.TheVariants as end
use Rattle.pg_client.specs.Answer.{Answer, Goes, Ends, BeginsWith, answers_of}
use Rattle.pg_client.specs.Effect.{Called, Row, Scope, Outcome, Done, Failed, Over, Stopped, settle, settled, after_error}
use Rattle.pg_client.specs.Errors.{is_fatal}
use Rattle.conversation_table.specs.Handlers.{Handlers}
use Rattle.conversation_table.specs.Lawful.{IsMade}
use Rattle.pg_replies.specs.Replies.{Replies}
use Rattle.pg_client.specs.State.{State}
use Rattle.conversation_table.specs.Table.{row, scope_in, whole_table}
use Rattle.conversation_laws.specs.Steady.{IsSteady}
use Rattle.conversation_laws.proofs.RowsSteady.{HasCome, IsSteadyRow, row_steady}

-- an error's answer: the conversation ends there or goes on
abbrev either_answer : {S : Type 0} → Bool → Replies → Replies → List DeskCall → State S → Answer (State S)
either_answer b x y calls t = if b then (record { replies = x; calls = calls; next = Ends end.Fatal })
    else (record { replies = y; calls = calls; next = Goes t })

failed_calls : {S : Type 0} (b : Bool) (x y : Replies) (calls : List DeskCall) (t : State S) → (either_answer b x y calls t).calls ≡ calls
failed_calls true x y calls t = refl
failed_calls false x y calls t = refl

failed_made : {S : Type 0} (b : Bool) (x y : Replies) (calls : List DeskCall) (t : State S) → IsMade (either_answer b x y calls t).next
failed_made true x y calls t = tt
failed_made false x y calls t = tt

settled_calls : {S : Type 0} (scope : Scope) (replies : Replies) (calls : List DeskCall) (o : Outcome S)
    → (settled scope replies calls o).calls ≡ calls
settled_calls scope replies calls (Done s) = refl
settled_calls scope replies calls (Failed s e) = failed_calls (is_fatal (info_of e)) _ _ calls (after_error scope s).1
settled_calls scope replies calls (Over kind) = refl
settled_calls scope replies calls Stopped = refl

settled_made : {S : Type 0} (scope : Scope) (replies : Replies) (calls : List DeskCall) (o : Outcome S) → HasCome o
    → IsMade (settled scope replies calls o).next
settled_made scope replies calls (Done s) h = tt
settled_made scope replies calls (Failed s e) h = failed_made (is_fatal (info_of e)) _ _ calls (after_error scope s).1
settled_made scope replies calls (Over kind) h = tt
settled_made scope replies calls Stopped h = absurd h

own_calls : {S : Type 0} (scope : Scope) (c : Called S) → (settle scope c).calls ≡ c.calls
own_calls scope c = settled_calls scope c.effect.replies c.calls c.effect.outcome

-- a row, and what follows its error
module _ {S : Type 0} (scope : Scope) (f : Row S) (steady : IsSteadyRow f) where
  settled_grows : (answers more : List Bool) → BeginsWith (settle scope (f (answers ++ more))).calls (settle scope (f answers)).calls
  settled_grows answers more =
      let rest = steady.grows answers more in
      (rest.0, own_calls scope (f (answers ++ more)) ∙ rest.1 ∙ ap (λ l. l ++ rest.0) (sym (own_calls scope (f answers))))

  settled_own : (answers : List Bool) → settle scope (f (answers_of (settle scope (f answers)).calls)) ≡ settle scope (f answers)
  settled_own answers =
      ap (λ calls. settle scope (f (answers_of calls))) (own_calls scope (f answers)) ∙ ap (λ c. settle scope c) (steady.own answers)

  settled_enough : (most : ℕ) × ((answers : List Bool) → most ≤ length answers → IsMade (settle scope (f answers)).next)
  settled_enough = (
    steady.enough.0,
    λ answers h. settled_made scope (f answers).effect.replies (f answers).calls (f answers).effect.outcome (steady.enough.1 answers h),
  )

pub whole_steady : {S : Type 0} (h : Handlers S) → IsSteady (whole_table h)
whole_steady h = record {
  grows = λ answers more s m.
      settled_grows (scope_in s.info.state m) (λ xs. row h xs s m s.info.state) (row_steady h s m s.info.state) answers more;
  own = λ answers s m.
      settled_own (scope_in s.info.state m) (λ xs. row h xs s m s.info.state) (row_steady h s m s.info.state) answers;
  enough = λ s m. settled_enough (scope_in s.info.state m) (λ xs. row h xs s m s.info.state) (row_steady h s m s.info.state);
}
