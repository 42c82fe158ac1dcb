-- What one client's handlers know of a world that others change too, and what it comes to that they meet a message.
use Rattle.std.specs.Prelude.{List, ◌++◌, ◌≡◌, option_to_list}
use Rattle.pg_messages.specs.declared.frontend.PgWireFrontendMessage.{PgWireFrontendMessage}
use Rattle.pg_client.specs.State.{State}
use Rattle.conversation_table.specs.Handlers.{Handlers}
use Rattle.shared_worlds.specs.Worlds.{Met, WorldTold, IsLegal, place_of}

-- the part of the history that they have seen, and what the client has for itself
pub record Known (C O : Type 0) : Type 0 where
  pub seen : List C
  pub own : O

-- what meeting a message comes to behind a history
abbrev pub met_behind : {P C O S : Type 0} → WorldTold P C O S → List C → O → State S → PgWireFrontendMessage → Met C O S
met_behind told history own s m = told.meeting (place_of told history) own s m

-- A message is met. Others may have changed the world since the last one was: what they did comes first. Then comes the
-- change of this message, if it makes one, and nothing behind it. The history that is seen then is legal.
pub record MeetsShared {P C O S : Type 0} (told : WorldTold P C O S) (w : Known C O) (s : State S) (m : PgWireFrontendMessage)
    (h : Handlers S) (v : Known C O) : Type 0 where
  pub others : List C
  pub seen : v.seen ≡ w.seen ++ others ++ option_to_list (met_behind told (w.seen ++ others) w.own s m).change
  pub own : v.own ≡ (met_behind told (w.seen ++ others) w.own s m).own
  pub tells : h ≡ (met_behind told (w.seen ++ others) w.own s m).told
  pub legal : IsLegal told v.seen

-- The client has gone. What was seen stays, and nothing is left of its own.
pub record LeavesShared {P C O S : Type 0} (told : WorldTold P C O S) (w v : Known C O) : Type 0 where
  pub seen : v.seen ≡ w.seen
  pub own : v.own ≡ told.first
