-- What the startup phase keeps.
use Rattle.std.specs.Prelude.{◌≡◌}
use Rattle.pg_results.specs.Clients.{HasShortMetadata}
use Rattle.pg_client.specs.declared.client.Client.{Client}
use Rattle.pg_client.specs.Desk.{DeskTold, GoesOn}

-- The statements and portals of a client stay, its parameters stay short, and its registration goes on.
pub record StaysSound {St : Type 0} (old new : Client St) (desk new_desk : DeskTold) : Type 0 where
  pub store : new.store ≡ old.store
  pub metadata : HasShortMetadata old.info → HasShortMetadata new.info
  pub registration : GoesOn desk new_desk
