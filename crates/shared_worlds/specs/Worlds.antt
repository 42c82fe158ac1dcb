-- Worlds that connections share, and the histories of their changes. P is where the world may stand, C a change of it, and
-- O what one client has for itself beside it.
use Rattle.std.specs.Prelude.{List, [], ◌∷◌, Option, Some, None, ◌≡◌}
use Rattle.pg_messages.specs.declared.frontend.PgWireFrontendMessage.{PgWireFrontendMessage}
use Rattle.pg_results.specs.Told.{ParserTold}
use Rattle.pg_client.specs.State.{State}
use Rattle.conversation_table.specs.Handlers.{Handlers}

-- ---- what a world is

-- what meeting a message comes to: the change that it makes of the world, if it makes one; what the client has for itself
-- then; and what the handlers tell of it
pub record Met (C O S : Type 0) : Type 0 where
  pub change : Option C
  pub own : O
  pub told : Handlers S

-- a world, as contracts see it
pub record WorldTold (P C O S : Type 0) : Type 0 where
  -- where it begins
  pub begins : P
  -- what a change makes of a place
  pub moved : P → C → P
  -- what a client has for itself that has just come
  pub first : O
  -- what it comes to at a place, for a client with this of its own and in this state, to meet a message
  pub meeting : P → O → State S → PgWireFrontendMessage → Met C O S
  -- the parser that all sheets share, as far as stored statements go
  pub parser : ParserTold S

-- what a change makes of a place, if there is one
abbrev pub moved_by : {P C : Type 0} → (P → C → P) → P → Option C → P
moved_by moved p None = p
moved_by moved p (Some c) = moved p c

-- A world met a message: it moved from one place to another by this change, and the client has this of its own now.
pub record HasMet {P C O S : Type 0} (told : WorldTold P C O S) (from to : P) (own now : O) (s : State S) (m : PgWireFrontendMessage)
    (change : Option C) (h : Handlers S) : Type 0 where
  pub changes : change ≡ (told.meeting from own s m).change
  pub moves : to ≡ moved_by told.moved from change
  pub keeps : now ≡ (told.meeting from own s m).own
  pub tells : h ≡ (told.meeting from own s m).told

-- ---- histories

-- the place to which these changes lead from another
abbrev pub place_from : {P C : Type 0} → (P → C → P) → P → List C → P
place_from moved p [] = p
place_from moved p (c ∷ changes) = place_from moved (moved p c) changes

-- the place behind a history
abbrev pub place_of : {P C O S : Type 0} → WorldTold P C O S → List C → P
place_of told history = place_from told.moved told.begins history

-- the change is what meeting some client's message comes to at this place
pub record IsMade {P C O S : Type 0} (told : WorldTold P C O S) (p : P) (c : C) : Type 0 where
  pub own : O
  pub state : State S
  pub message : PgWireFrontendMessage
  pub made : (told.meeting p own state message).change ≡ Some c

-- each of these changes is made at the place to which those before it lead
abbrev pub AreMade : {P C O S : Type 0} → WorldTold P C O S → P → List C → Type 0
AreMade told p [] = Unit {0}
AreMade told p (c ∷ changes) = IsMade told p c × AreMade told (told.moved p c) changes

-- a history is legal where each change is made at its place
abbrev pub IsLegal : {P C O S : Type 0} → WorldTold P C O S → List C → Type 0
IsLegal told history = AreMade told told.begins history
