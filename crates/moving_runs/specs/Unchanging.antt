-- Handlers that never change: each meeting tells the same sheet.
use Rattle.std.specs.Prelude.{List, ◌≡◌}
use Rattle.std.specs.List.{AllByRecursion}
use Rattle.pg_messages.specs.declared.frontend.PgWireFrontendMessage.{PgWireFrontendMessage}
use Rattle.pg_client.specs.State.{State}
use Rattle.conversation_table.specs.Handlers.{Handlers}
use Rattle.moving_runs.specs.Meeting.{Meeting}

-- whatever is met, in whatever world, these handlers tell this sheet
abbrev pub TellsOnly : {W S : Type 0} → Meeting W S → Handlers S → Type 0
TellsOnly {W} {S} Meets only = (w u : W) (s : State S) (m : PgWireFrontendMessage) (h : Handlers S) → Meets w s m h u → h ≡ only

-- all of these sheets are this one
abbrev pub AreAll : {S : Type 0} → Handlers S → List (Handlers S) → Type 0
AreAll only sheets = AllByRecursion (λ h. h ≡ only) sheets
