-- A place, as it could be bound.
use Rattle.std.specs.Prelude.{◌≡◌, ◌≢◌, ℕ, Option, Some, None}
use Rattle.listening_places.specs.declared.bound.BoundPlace.{BoundPlace}
use Rattle.listening_places.specs.declared.bound.BoundPlace.TheVariants.{Bound, Unbound}
use Rattle.listening_places.specs.declared.place.ListenPlace.{ListenPlace}
use Rattle.listening_places.specs.declared.place.ListenPlace.TheVariants.{Tcp, Unix}

-- the connections that came from a place
abbrev pub accepted_at : {R : Type 0} → BoundPlace R → ℕ
accepted_at (Bound place) = place.acceptor.accepted
accepted_at (Unbound faults) = 0

-- the connections that could not be accepted
abbrev pub faults_at : {R : Type 0} → BoundPlace R → ℕ
faults_at (Bound place) = place.acceptor.faults
faults_at (Unbound faults) = faults

-- the place, as it is told
abbrev pub told_at : {R : Type 0} → BoundPlace R → Option ListenPlace
told_at (Bound place) = Some place.place
told_at (Unbound faults) = None

-- A place is told as it was asked for, but that a port is told where any free one was asked for.
abbrev pub IsToldAs : ListenPlace → ListenPlace → Type 0
IsToldAs (Tcp asked) told = (port : ℕ) × (told ≡ Tcp port) × (asked ≢ 0 → port ≡ asked)
IsToldAs (Unix path) told = told ≡ Unix path
