-- A conversation as the engine sees it: the rules that it goes by, where it stands, and what a piece of the client's
-- bytes does to it.
use Rattle.std.specs.Prelude.{ℕ, Bool, List, ◌++◌, Option, Result, Ok, ◌≡◌}
use Rattle.pg_client.specs.declared.desk.DeskCall.{DeskCall}
use Rattle.conversation_runs.specs.declared.ends.Progress.{Progress}
use Rattle.conversation_runs.specs.declared.ends.Progress.TheVariants as progress
use Rattle.conversation_runs.specs.declared.ends.ServeError.{ServeError}
use Rattle.conversation_runs.specs.Run.{Rules}
use Rattle.conversation_runs.specs.Steps.{WasFed}

-- the rules that it goes by, where it stands, the bytes of a frame that isn't whole, the replies that wait, and whether it takes more
pub record Talk (T : Type 0) : Type 0 where
  pub rules : Rules T
  pub state : T
  pub rest : List ℕ
  pub unsent : List ℕ
  pub is_open : Bool

-- A conversation took a piece: the frames of its rest and the piece are answered by its rules. Where it goes on, what
-- is left of the bytes is its rest. After an end nothing is said of its rest.
abbrev pub TakesPiece : {T : Type 0} → Talk T → Talk T → List ℕ → Option (List ℕ) → Option (List ℕ) → List DeskCall → List DeskCall
    → Result Progress ServeError → Type 0
TakesPiece old new piece written new_written calls new_calls result = (rest : List ℕ)
    × WasFed old.rules old.state (old.rest ++ piece) new.state rest written new_written old.unsent calls new_calls result
    × (result ≡ Ok progress.More → rest ≡ new.rest)
