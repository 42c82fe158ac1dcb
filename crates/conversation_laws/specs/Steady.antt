-- How the registry calls of a conversation grow, as answers come.
use Rattle.std.specs.Prelude.{ℕ, Bool, List, ◌++◌, ◌≡◌, ◌≤◌, ◌⊎◌, length}
use Rattle.pg_messages.specs.declared.frontend.PgWireFrontendMessage.{PgWireFrontendMessage}
use Rattle.pg_messages.specs.Frames.{DividesInto}
use Rattle.pg_client.specs.declared.desk.DeskCall.{DeskCall}
use Rattle.pg_client.specs.declared.ends.EndKind.{EndKind}
use Rattle.pg_client.specs.Answer.{Table, BeginsWith, answers_of, conversation}
use Rattle.conversation_table.specs.Lawful.{IsMade}
use Rattle.pg_client.specs.Script.{scripted}
use Rattle.conversation_runs.specs.Run.{Rules, IsRun}

-- Further answers only add calls after those that there are. A message is answered the same with exactly the answers
-- that its calls hold. For each message some number of answers is always enough.
pub record IsSteady {T : Type 0} (table : Table T) : Type 0 where
  pub grows : (answers more : List Bool) (s : T) (m : PgWireFrontendMessage)
      → BeginsWith (table (answers ++ more) s m).calls (table answers s m).calls
  pub own : (answers : List Bool) (s : T) (m : PgWireFrontendMessage)
      → table (answers_of (table answers s m).calls) s m ≡ table answers s m
  pub enough : (s : T) (m : PgWireFrontendMessage)
      → (most : ℕ) × ((answers : List Bool) → most ≤ length answers → IsMade (table answers s m).next)

-- Calls so far: whole frames at the front of a text are answered with these registry calls, and with exactly the
-- answers that the calls hold.
pub record IsCalledSoFar {T : Type 0} (rules : Rules T) (s : T) (text : List ℕ) (calls : List DeskCall) : Type 0 where
  pub messages : List PgWireFrontendMessage
  pub rest : List ℕ
  pub division : DividesInto (rules.awaits s) text messages rest
  pub called : (conversation rules.table (answers_of calls) s messages).calls ≡ calls

-- two lists of answers agree as far as both go
abbrev pub AgreeAsFar : List Bool → List Bool → Type 0
AgreeAsFar some others = BeginsWith some others ⊎ BeginsWith others some

-- There is a run over these bytes whose calls are answered by a script, in its order, and with no past its end.
abbrev pub HasScriptedRun : {T : Type 0} → Rules T → T → List ℕ → List Bool → Type 0
HasScriptedRun rules s text script = (replies : List ℕ) × (calls : List DeskCall) × (kind : EndKind)
    × IsRun rules s text replies calls kind × (answers_of calls ≡ scripted script (length (answers_of calls)))
