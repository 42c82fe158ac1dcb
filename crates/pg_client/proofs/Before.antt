-- A client that is as before after an error.
use Rattle.std.proofs.Common.{◌≡◌, Result, Ok, Err}
use Rattle.std.specs.Prelude.{OnErr}
use Rattle.pg_portal.specs.Maps.{Maps}
use Rattle.pg_client.specs.declared.client.Client.{Client}
use Rattle.pg_client.specs.Before.{IsAsBefore}
use Rattle.pg_client.specs.State.{state_of}

module _ {S St A E : Type 0} (maps : St → Maps S) (old new : Client St) where
  -- by its parts
  pub as_before : (result : Result A E) → OnErr result (state_of maps new ≡ state_of maps old) → OnErr result (new.outbox ≡ old.outbox)
      → OnErr result (IsAsBefore maps old new)
  as_before (Ok x) state waiting = tt
  as_before (Err e) state waiting = record { state = state; waiting = waiting }

  -- so its state is
  pub state_before : (result : Result A E) → OnErr result (IsAsBefore maps old new) → OnErr result (state_of maps new ≡ state_of maps old)
  state_before (Ok x) before = tt
  state_before (Err e) before = before.state
