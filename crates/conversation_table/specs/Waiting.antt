-- What a query that is waited for makes of the desk, the turns and the client.
use Rattle.std.specs.Prelude.{List, ℕ, Result, IfErr, OnErr, ◌≡◌, ◌≤◌, length, take}
use Rattle.pg_results.specs.Rows.{IsAnswerable}
use Rattle.pg_portal.specs.Maps.{Maps}
use Rattle.pg_client.specs.declared.client.Client.{Client}
use Rattle.pg_client.specs.declared.ends.SessionError.{SessionError}
use Rattle.pg_client.specs.declared.ends.SessionError.TheVariants as session
use Rattle.pg_client.specs.declared.ends.Turns.{Turns}
use Rattle.pg_client.specs.Before.{IsAsBefore}
use Rattle.pg_client.specs.Desk.{DeskTold, KeepsDesk}
use Rattle.conversation_table.specs.Executing.{IsLeftBehind}
use Rattle.conversation_table.specs.Questions.{HasSpent, IsCausedSo, questions_since}

-- A query was waited for: turns were spent on its questions and on nothing else, no more than there are; an error of the session's own has
-- its cause in the answers; and the registration is the same.
pub record HasWaited {A : Type 0} (desk new_desk : DeskTold) (before after : Turns) (result : Result A SessionError) : Type 0 where
  pub caused : IfErr result (IsCausedSo desk.calls new_desk.calls)
  pub turns : HasSpent before after (questions_since desk.calls new_desk.calls) result
  pub bounded : before.spent ≤ before.limit → after.spent ≤ after.limit
  pub keeps : KeepsDesk desk new_desk

-- An error of a query is one that the client is told; or no turn was left, and then the client is as before.
abbrev pub IsQueryError : {S St : Type 0} → (St → Maps S) → Client St → Client St → SessionError → Type 0
IsQueryError maps old new (session.Wire e) = IsAnswerable e
IsQueryError maps old new session.TurnLimit = IsAsBefore maps old new

-- What an Execute keeps: the replies that waited stay in front. After an error so does what is known of the client, and its statements and
-- portals stay, but that the portal of this name may have come further.
pub record KeptByExecute {S St A E : Type 0} (maps : St → Maps S) (name : List ℕ) (old new : Client St) (result : Result A E)
    : Type 0 where
  pub info : OnErr result (new.info ≡ old.info)
  pub left : OnErr result (IsLeftBehind (maps old.store) name (maps new.store))
  pub kept : take (length old.outbox) new.outbox ≡ old.outbox

-- A client was answered, and no more was done: the replies that waited stay in front, and its statements, portals and parameters stay. After
-- an error so does all that is known of it.
pub record OnlyAnswers {St A E : Type 0} (old new : Client St) (result : Result A E) : Type 0 where
  pub info : OnErr result (new.info ≡ old.info)
  pub kept : take (length old.outbox) new.outbox ≡ old.outbox
  pub store : new.store ≡ old.store
  pub metadata : new.info.metadata ≡ old.info.metadata
