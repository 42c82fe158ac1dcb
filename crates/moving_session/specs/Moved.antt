-- What a meeting does to the session behind it, and what one for which memory ran out may have done.
use Rattle.std.specs.Prelude.{◌≡◌, ◌⊎◌}
use Rattle.pg_messages.specs.declared.frontend.PgWireFrontendMessage.{PgWireFrontendMessage}
use Rattle.pg_client.specs.State.{State}
use Rattle.conversation_table.specs.Handlers.{Handlers}
use Rattle.conversation_runs.specs.Session.{SessionValue}
use Rattle.moving_runs.specs.Meeting.{Meeting}

-- Nothing was done, or the message was met and its sheet can't be told.
abbrev pub MayHaveMet : {W S : Type 0} → Meeting W S → W → State S → PgWireFrontendMessage → W → Type 0
MayHaveMet {W} {S} Meets w s m v = (v ≡ w) ⊎ ((h : Handlers S) × Meets w s m h v)

-- nothing has changed but the handlers
pub record ChangesHandlers {H S : Type 0} (old new : SessionValue H S) : Type 0 where
  pub state : new.state ≡ old.state
  pub rest : new.rest ≡ old.rest
  pub unsent : new.unsent ≡ old.unsent
  pub opened : new.is_open ≡ old.is_open
