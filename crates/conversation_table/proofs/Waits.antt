-- The errors of a wait for a query.
use Rattle.std.proofs.Common.{◌≡◌, ℕ, inl, inr, List, sym, subst, refl, Err}
use Rattle.std.proofs.lemmas.List.{append-nil}
use Rattle.pg_results.specs.declared.error.PgWireError.TheVariants as wire
use Rattle.pg_results.specs.Rows.{IsAnswerable}
use Rattle.pg_client.specs.declared.ends.SessionError.{SessionError}
use Rattle.pg_client.specs.declared.ends.SessionError.TheVariants as session
use Rattle.pg_client.specs.declared.ends.Turns.{Turns}
use Rattle.pg_client.specs.Effect.{Effect, refuses, stopped}
use Rattle.conversation_table.specs.Outcomes.{IsRunEnd}
use Rattle.conversation_table.specs.Questions.{Canceled, HasSpent, IsVerdict, Unanswered, Verdict}
use Rattle.pg_client.specs.Ends.{AtTurnLimit, IsAnswerableError}
use Rattle.pg_client.specs.State.{State}
use Rattle.conversation_table.proofs.Rows.{canceled_told}

-- each is answered
pub wait_answerable : {A : Type 0} (outcome : A) (verdict : Verdict) (e : SessionError) → IsVerdict outcome verdict (Err e)
    → IsAnswerableError e
wait_answerable outcome verdict session.TurnLimit v = tt
wait_answerable outcome verdict (session.Wire e) (inl v) = subst IsAnswerable (sym v.0) canceled_told
wait_answerable outcome verdict (session.Wire e) (inr none) = inl none

-- what holds anyway holds at the limit of the turns
pub at_limit : (e : SessionError) (P : Type 0) → P → AtTurnLimit e P
at_limit (session.Wire e) P p = tt
at_limit session.TurnLimit P p = p

-- after an error the turns that were spent don't depend on what a value would be
pub spent_as : {A : Type 0} (outcome : A) (turns new_turns : Turns) (asked : ℕ) (e : SessionError)
    → HasSpent {A = A} turns new_turns asked (Err e)
    → HasSpent {A = Unit {0}} turns new_turns asked (Err e)
spent_as outcome turns new_turns asked (session.Wire e) x = x
spent_as outcome turns new_turns asked session.TurnLimit x = x

-- A wait that ended by an error is the end of a run in which nothing was sent.
pub wait_ran : {S A : Type 0} (s : State S) (out : List ℕ) (effects : Verdict → Effect S) → effects Unanswered ≡ stopped
    → effects Canceled ≡ refuses s wire.QueryCanceled
    → (verdict : Verdict) (outcome : A) (e : SessionError) → IsVerdict outcome verdict (Err e)
    → IsRunEnd {A = Unit {0}} (effects verdict) verdict out out s (Err e)
wait_ran s out effects stops cancels verdict outcome session.TurnLimit v =
    (v, rw (v, stops) (record { replied = sym (append-nil out); came = refl }))
wait_ran s out effects stops cancels verdict outcome (session.Wire e) (inl v) =
    inr (rw (v.1, cancels, v.0) (record { replied = sym (append-nil out); came = refl }))
wait_ran s out effects stops cancels verdict outcome (session.Wire e) (inr v) = inl v
