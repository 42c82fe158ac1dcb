-- What a service of handlers that change promises: each message of the client was met in turn.
use Rattle.std.specs.Prelude.{ℕ, List, [], ◌≡◌, ◌⊎◌, Option}
use Rattle.pg_client.specs.declared.desk.DeskCall.{DeskCall}
use Rattle.pg_client.specs.State.{State}
use Rattle.pg_engine.specs.Serving.{TakesFrom}
use Rattle.moving_runs.specs.Sheets.{Ahead}
use Rattle.moving_runs.specs.Meeting.{Meeting, MetFrames}

-- A client may find this world: it may be given handlers that are in it.
abbrev pub FindsWorld : {H W : Type 0} → (H → W) → (H → Type 0) → W → Type 0
FindsWorld {H} world gives w = (handlers : H) × gives handlers × (w ≡ world handlers)

-- The frames of the bytes that were taken were met in turn, from a world on that the client may have found, and the handlers told these
-- sheets. The last world is where they stood then.
pub record WasMetFrom {W S : Type 0} (Meets : Meeting W S) (finds : W → Type 0) (first : Ahead S) (left new_left : Option (List ℕ))
    (calls : List DeskCall) : Type 0 where
  pub world : W
  pub last : W
  pub found : finds world
  pub taken : List ℕ
  pub takes : TakesFrom left new_left taken
  pub met : MetFrames Meets world last first.state taken first.sheets calls

-- The conversation never began: nothing was taken and called, and no message was met.
pub record HasNotBegun {S : Type 0} (first : Ahead S) (left new_left : Option (List ℕ)) (calls : List DeskCall) : Type 0 where
  pub taken : new_left ≡ left
  pub called : calls ≡ []
  pub met : first.sheets ≡ []

-- The client's messages were met in turn, or, where memory ran out before the first, none was.
abbrev pub WasMet : {W S : Type 0} → Meeting W S → (W → Type 0) → Ahead S → Option (List ℕ) → Option (List ℕ) → List DeskCall → Type 0
WasMet Meets finds first left new_left calls = WasMetFrom Meets finds first left new_left calls ⊎ HasNotBegun first left new_left calls
