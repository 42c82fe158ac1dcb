-- What a service owes a client.
use Rattle.std.specs.Prelude.{ℕ, List, ◌++◌, ◌≡◌, Option, Result}
use Rattle.pg_client.specs.declared.desk.DeskCall.{DeskCall}
use Rattle.pg_client.specs.declared.ends.EndKind.{EndKind}
use Rattle.conversation_runs.specs.declared.ends.ServeError.{ServeError}
use Rattle.conversation_runs.specs.Run.{Rules}
use Rattle.pg_engine.specs.Around.{Around, Serves}
use Rattle.pg_engine.specs.Serving.{Counts}

-- What a service promises beside its rules: of where the conversation began, of so many turns, of how it ended, of the bytes that the source
-- had to give before and after, of the calls of the desk, and of the counts before and after.
abbrev pub Promise : Type 0 → Type 1
Promise T = T → ℕ → Result EndKind ServeError → Option (List ℕ) → Option (List ℕ) → List DeskCall → Counts → Counts → Type 0

-- A client was served by a service: by its rules, from a state on where its conversations may begin; and what it promises beside holds.
pub record IsServedBy {T : Type 0} (rules : Rules T) (begins : T → Type 0) (also : Promise T) (turns : ℕ)
    (result : Result EndKind ServeError) (before after : Around) : Type 0 where
  pub first : T
  pub begun : begins first
  pub serves : Serves rules first turns result before after
  pub calls : List DeskCall
  pub grown : after.desk.calls ≡ before.desk.calls ++ calls
  pub promised : also first turns result before.left after.left calls before.counts after.counts
