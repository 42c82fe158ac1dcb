-- What the server owes a client whose handlers change.
use Rattle.std.specs.Prelude.{ℕ, List, [], ◌++◌, ◌≡◌, Some, Result}
use Rattle.pg_client.specs.declared.desk.DeskCall.{DeskCall}
use Rattle.pg_client.specs.declared.ends.EndKind.{EndKind}
use Rattle.pg_client.specs.State.{State}
use Rattle.conversation_table.specs.Handlers.{Handlers}
use Rattle.conversation_runs.specs.declared.ends.ServeError.{ServeError}
use Rattle.pg_engine.specs.Around.{Around, Serves}
use Rattle.pg_engine.specs.Serving.{TakesFrom, WentSo}
use Rattle.moving_runs.specs.Sheets.{sheet_rules}
use Rattle.moving_runs.specs.Meeting.{Meeting, MetFrames}
use Rattle.moving_runs.specs.Steps.{ahead}

-- A client was served by handlers that change, from this world and this state on, with this many turns. The frames of
-- the bytes that were taken were met in turn, up to the last one that was met, and the handlers told these sheets; the
-- other world is the one behind them. What was written and called is the answer to these bytes by these sheets. And by
-- these sheets the client was served as any client is by its rules.
pub record ServesMet {W S : Type 0} (Meets : Meeting W S) (w v : W) (first : State S) (turns : ℕ) (result : Result EndKind ServeError)
    (before after : Around) : Type 0 where
  pub sheets : List (Handlers S)
  pub taken : List ℕ
  pub calls : List DeskCall
  pub takes : TakesFrom before.left after.left taken
  pub grown : after.desk.calls ≡ before.desk.calls ++ calls
  pub met : MetFrames Meets w v first taken sheets calls
  pub answered : WentSo sheet_rules (ahead sheets first) result (Some taken) (Some []) before.written after.written calls
  pub serves : Serves sheet_rules (ahead sheets first) turns result before after

-- The same, and then the handlers were told that the conversation has ended.
abbrev pub ServesAndLeaves : {W S : Type 0} → Meeting W S → (W → W → Type 0) → W → W → State S → ℕ → Result EndKind ServeError → Around
    → Around → Type 0
ServesAndLeaves {W} Meets leaves w last first turns result before after = (v : W) × ServesMet Meets w v first turns result before after
    × leaves v last
