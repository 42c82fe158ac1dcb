-- The errors of a query, by what is known of them.
use Rattle.std.proofs.Common.{◌≡◌, Result, Ok, Err}
use Rattle.std.specs.Prelude.{IfErr}
use Rattle.pg_portal.specs.Maps.{Maps}
use Rattle.pg_client.specs.declared.client.Client.{Client}
use Rattle.pg_client.specs.declared.ends.SessionError.{SessionError}
use Rattle.pg_client.specs.declared.ends.SessionError.TheVariants as session
use Rattle.pg_client.specs.Ends.{AtTurnLimit, IsAnswerableError}
use Rattle.pg_client.specs.State.{state_of}
use Rattle.conversation_table.specs.Waiting.{IsQueryError}

module _ {S St A : Type 0} (maps : St → Maps S) (old new : Client St) where
  -- by its parts
  pub query_error : (result : Result A SessionError) → IfErr result IsAnswerableError
      → IfErr result (λ e. AtTurnLimit e ((state_of maps new ≡ state_of maps old) × (new.outbox ≡ old.outbox)))
      → IfErr result (IsQueryError maps old new)
  query_error (Ok x) told limit = tt
  query_error (Err (session.Wire e)) told limit = told
  query_error (Err session.TurnLimit) told limit = record { state = limit.0; waiting = limit.1 }

  -- it is answered, or a turn is wanting
  pub query_answerable : (result : Result A SessionError) → IfErr result (IsQueryError maps old new) → IfErr result IsAnswerableError
  query_answerable (Ok x) error = tt
  query_answerable (Err (session.Wire e)) error = error
  query_answerable (Err session.TurnLimit) error = tt

  -- at the limit of the turns the client is as before
  pub query_limit : (result : Result A SessionError) → IfErr result (IsQueryError maps old new)
      → IfErr result (λ e. AtTurnLimit e ((state_of maps new ≡ state_of maps old) × (new.outbox ≡ old.outbox)))
  query_limit (Ok x) error = tt
  query_limit (Err (session.Wire e)) error = tt
  query_limit (Err session.TurnLimit) before = (before.state, before.waiting)
