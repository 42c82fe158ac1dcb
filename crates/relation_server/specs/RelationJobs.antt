-- The jobs of clients of relations.
use Rattle.std.specs.Prelude.{ℕ, List, Option, ◌≡◌, ◌+◌, ◌⊎◌}
use Rattle.std.specs.Arc.{arc_value}
use Rattle.pg_cancel.specs.Connections.{Connection, Issuer}
use Rattle.many_clients.specs.Jobs.{ServesEach}
use Rattle.relation_files.specs.Files.{IsToldBy}
use Rattle.relation_tables.specs.declared.Relation.{Relation}
use Rattle.relation_server.specs.declared.connection_job.ConnectionJob.{ConnectionJob}

-- This job serves these relations, with so many turns, to the client of this connection, under this registration.
abbrev pub IsRelationJobOf : {S K : Type 0} → List Relation → ℕ → Connection → S × K → ConnectionJob S K → Type 0
IsRelationJobOf relations turns handle connection job = (arc_value job.relations ≡ relations) × (job.handle ≡ handle)
    × (job.source ≡ connection.0)
    × (job.sink ≡ connection.1)
    × (job.turn_limit ≡ turns)

-- Each connection that was taken in became a job over the relations that the file told; or none was taken in.
abbrev pub ServesFile : {S K : Type 0} → Option (List ℕ) → Option (List ℕ) → ℕ → Issuer → Option (List (S × K)) → ℕ → ℕ
    → Option (List (ConnectionJob S K)) → Option (List (ConnectionJob S K)) → Type 0
ServesFile left new_left turns issuer coming started new_started taken new_taken = ((new_started ≡ started) × (new_taken ≡ taken))
    ⊎ ((relations : List Relation) × IsToldBy left new_left relations × (n : ℕ) × (new_started ≡ started + n)
    × ServesEach (IsRelationJobOf relations turns) issuer coming taken new_taken n)
