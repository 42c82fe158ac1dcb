-- What a message and a query come to, as the outcome of a session.
use Rattle.std.specs.Prelude.{ℕ, List, Result, Ok, Err, ◌≡◌}
use Rattle.pg_results.specs.declared.error.PgWireError.{PgWireError}
use Rattle.pg_client.specs.declared.ends.SessionError.{SessionError}
use Rattle.pg_client.specs.declared.ends.SessionError.TheVariants as session
use Rattle.pg_client.specs.Effect.{Effect, Done, Stopped, IsEffect, IsRefusedEffect}
use Rattle.conversation_table.specs.Questions.{Verdict, Unanswered}
use Rattle.pg_client.specs.State.{State}

abbrev pub session_outcome : {A : Type 0} → Result A PgWireError → Result A SessionError
session_outcome (Ok x) = Ok x
session_outcome (Err e) = Err (session.Wire e)

-- How a query of this effect ends, where its questions came to this verdict. It stops exactly where an answer is
-- missing.
abbrev pub IsRunEnd : {S A : Type 0} → Effect S → Verdict → List ℕ → List ℕ → State S → Result A SessionError → Type 0
IsRunEnd effect verdict out new_out s (Ok x) = IsEffect effect out new_out (Done s)
IsRunEnd effect verdict out new_out s (Err (session.Wire e)) = IsRefusedEffect effect out new_out s e
IsRunEnd effect verdict out new_out s (Err session.TurnLimit) = (verdict ≡ Unanswered) × IsEffect effect out new_out Stopped
