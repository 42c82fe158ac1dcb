-- What a message comes to, and the errors that end it.
use Rattle.std.specs.Prelude.{Option, Some, None}
use Rattle.pg_results.specs.Rows.{IsAnswerable}
use Rattle.pg_client.specs.declared.ends.EndKind.{EndKind}
use Rattle.pg_client.specs.declared.ends.SessionError.{SessionError}
use Rattle.pg_client.specs.declared.ends.SessionError.TheVariants as session
use Rattle.pg_client.specs.Effect.{Outcome, Done, Over}
use Rattle.pg_client.specs.State.{State}

-- the outcome of a message that ended the conversation, or left a state
abbrev pub outcome_of : {S : Type 0} → Option EndKind → State S → Outcome S
outcome_of None s = Done s
outcome_of (Some kind) s = Over kind

-- an error that a call may return: one of a message, or TurnLimit
abbrev pub IsAnswerableError : SessionError → Type 0
IsAnswerableError (session.Wire e) = IsAnswerable e
IsAnswerableError session.TurnLimit = Unit {0}

-- what holds after an error, if that is TurnLimit
abbrev pub AtTurnLimit : SessionError → Type 0 → Type 0
AtTurnLimit (session.Wire e) P = Unit {0}
AtTurnLimit session.TurnLimit P = P
