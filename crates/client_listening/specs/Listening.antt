-- What a server that listens owes, whose clients are registered at a new registry of their own.
use Rattle.std.specs.Prelude.{ℕ, List, [], ◌≡◌, ◌+◌, ◌⊎◌, Option, Result, Err}
use Rattle.pg_cancel.specs.declared.entries.Entry.{Entry}
use Rattle.pg_cancel.specs.Connections.{Issuer}
use Rattle.many_clients.specs.Clients.{IsClientOf}
use Rattle.many_clients.specs.Jobs.{ServesEach}
use Rattle.many_clients.specs.Listening.{HasEndedSo, Taking}
use Rattle.many_clients.specs.declared.accept_loop.ListenError.{ListenError}
use Rattle.many_clients.specs.declared.accept_loop.ListenError.TheVariants.{NoMemory}
use Rattle.many_clients.specs.declared.admitted.AdmittedClient.{AdmittedClient}

-- Why the server ended: so as it does over a registry whose history was empty; or there was no memory for the registry, and no connection
-- was accepted.
abbrev pub HasEndedOver : Result ℕ ListenError → Option ℕ → Taking → Taking → Type 0
HasEndedOver result count old new = ((seen : List Entry) × HasEndedSo result count old new [] seen)
    ⊎ ((result ≡ Err NoMemory) × (new ≡ old))

-- Each connection that was taken in became a client with so many turns, of that connection and of a registration of its own at one
-- registry; or none was taken in.
abbrev pub TakesInEach : {S K : Type 0} → ℕ → Option (List (S × K)) → ℕ → ℕ → Option (List (AdmittedClient S K))
    → Option (List (AdmittedClient S K)) → Type 0
TakesInEach turns coming started new_started taken new_taken = ((new_started ≡ started) × (new_taken ≡ taken))
    ⊎ ((registry : Issuer) × (n : ℕ) × (new_started ≡ started + n) × ServesEach (IsClientOf turns) registry coming taken new_taken n)
