-- What a call that is refused leaves of a client: all of it.
use Rattle.std.specs.Prelude.{◌≡◌}
use Rattle.pg_portal.specs.Maps.{Maps}
use Rattle.pg_client.specs.declared.client.Client.{Client}
use Rattle.pg_client.specs.State.{state_of}

-- The client is as before: its state, and the replies that wait.
pub record IsAsBefore {S St : Type 0} (maps : St → Maps S) (old new : Client St) : Type 0 where
  pub state : state_of maps new ≡ state_of maps old
  pub waiting : new.outbox ≡ old.outbox
