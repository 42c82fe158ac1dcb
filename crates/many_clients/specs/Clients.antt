-- Clients that were taken in.
use Rattle.std.specs.Prelude.{ℕ, ◌≡◌}
use Rattle.pg_cancel.specs.Connections.{Connection}
use Rattle.many_clients.specs.declared.admitted.AdmittedClient.{AdmittedClient}

-- This client has this registration and this connection, and so many turns.
abbrev pub IsClientOf : {S K : Type 0} → ℕ → Connection → S × K → AdmittedClient S K → Type 0
IsClientOf turns handle connection client = (client.handle ≡ handle) × (client.source ≡ connection.0) × (client.sink ≡ connection.1)
    × (client.turn_limit ≡ turns)
