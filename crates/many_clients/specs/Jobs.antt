-- What a server that listens owes to each connection: a job that is the connection's own.
use Rattle.std.specs.Prelude.{ℕ, pos, suc, List, [], ◌∷◌, ◌++◌, ◌≡◌, Option, Some, IfSome, map, length}
use Rattle.pg_cancel.specs.Connections.{Connection, Issuer}
use Rattle.pg_streams.specs.Accepting.{Gains, LosesFirst}
use Rattle.many_clients.specs.Registrations.{IsFresh}

-- The job of a connection is made of it, and of a registration that this registry gave under this pid and through which no call was made
-- yet. How a job is made of both is told by `makes`.
abbrev pub IsJobOf : {C J : Type 0} → (Connection → C → J → Type 0) → Issuer → ℕ → C × J → Type 0
IsJobOf makes issuer pid pair = (handle : Connection) × (handle.issuer ≡ issuer) × (handle.pid ≡ pos pid) × IsFresh 0 handle
    × makes handle pair.0 pair.1

-- these jobs are those of these connections, under the pids from this one on, in order
abbrev pub AreJobsFrom : {C J : Type 0} → (Connection → C → J → Type 0) → Issuer → ℕ → List (C × J) → Type 0
AreJobsFrom makes issuer pid [] = Unit {0}
AreJobsFrom makes issuer pid (pair ∷ pairs) = IsJobOf makes issuer pid pair × AreJobsFrom makes issuer (suc pid) pairs

-- So many connections became a job each: the first of those that were to come, in order, under the pids from 1 on. The jobs that were taken
-- are those that were taken before, and then these.
pub record HasServedEach {C J : Type 0} (makes : Connection → C → J → Type 0) (issuer : Issuer) (coming : List C) (before : List J)
    (taken' : Option (List J)) (n : ℕ) : Type 0 where
  pub pairs : List (C × J)
  pub rest : List C
  pub number : length pairs ≡ n
  pub connections : coming ≡ map (λ p. p.0) pairs ++ rest
  pub jobs : taken' ≡ Some (before ++ map (λ p. p.1) pairs)
  pub made : AreJobsFrom makes issuer 1 pairs

-- The same of connections and jobs that are told; where they aren't, nothing is.
abbrev pub ServesEach : {C J : Type 0} → (Connection → C → J → Type 0) → Issuer → Option (List C) → Option (List J) → Option (List J)
    → ℕ → Type 0
ServesEach makes issuer coming taken taken' n = IfSome coming (λ connections. IfSome taken (λ before.
    HasServedEach makes issuer connections before taken' n))

-- The next connection became the job of this pid.
pub record ServesNext {C J : Type 0} (makes : Connection → C → J → Type 0) (issuer : Issuer) (coming coming' : Option (List C))
    (taken taken' : Option (List J)) (pid : ℕ) : Type 0 where
  pub connection : C
  pub job : J
  pub is : IsJobOf makes issuer pid (connection, job)
  pub came : LosesFirst coming coming' connection
  pub went : Gains taken taken' (job ∷ [])
