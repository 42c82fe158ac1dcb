-- What a server that listens owes: how many connections were taken in, and which registrations its door gained.
use Rattle.std.specs.Prelude.{ℕ, ℤ, pos, zero, suc, List, [], ◌∷◌, ◌++◌, ◌+◌, ◌^◌, ◌≤◌, ◌<◌, ◌≡◌, Option, Some, None, Result, Ok, Err, map, min}
use mathlib.Core.List.{IsPrefix}
use Rattle.pg_cancel.specs.declared.entries.Entry.{Entry}
use Rattle.pg_cancel.specs.declared.entries.RegistryCall.{RegistryCall}
use Rattle.pg_cancel.specs.declared.entries.RegistryCall.TheVariants.{Register}
use Rattle.pg_cancel.specs.declared.entries.RegistryAnswer.TheVariants.{Registered, Taken}
use Rattle.pg_cancel.specs.Connections.{Witness, registers_of}
use Rattle.conversation_runs.specs.Streams.{HasRisen}
use Rattle.many_clients.specs.declared.accept_loop.ListenError.{ListenError}
use Rattle.many_clients.specs.declared.accept_loop.ListenError.TheVariants.{AcceptFault, SpawnFault, PidTaken, NoMemory}

-- the greatest pid
abbrev pub greatest_pid : ℕ
greatest_pid = 2147483647

-- how many connections are to be taken in: each needs a pid of its own
abbrev pub connections_of : Option ℕ → ℕ
connections_of None = greatest_pid
connections_of (Some count) = min count greatest_pid

-- the pids from 1 to n, in order
abbrev pub pids : ℕ → List ℤ
pids zero = []
pids (suc n) = pids n ++ pos (suc n) ∷ []

-- the pid of a Register
abbrev pub pid_of_call : RegistryCall → Option ℤ
pid_of_call (Register pid key) = Some pid
pid_of_call _ = None

-- these are Registers of the pids from 1 to n, in order
abbrev pub AreOfPids : List Entry → ℕ → Type 0
AreOfPids entries n = map (λ e. pid_of_call e.call) entries ≡ map Some (pids n)

-- each was answered Registered
abbrev pub AreRegistered : List Entry → Type 0
AreRegistered entries = map (λ e. e.answer) entries ≡ map (λ e. Registered) entries

-- The door gained a Register of each pid from 1 to n, in order, and each was answered Registered.
pub record HasRegistered (seen seen' : List Entry) (n : ℕ) : Type 0 where
  pub gained : List Entry
  pub registers : registers_of seen' ≡ registers_of seen ++ gained
  pub pids_are : AreOfPids gained n
  pub registered : AreRegistered gained

-- The door gained a Register of each pid from 1 to n, each answered Registered, and then, as its last entry, a Register of the next pid.
-- That was answered Taken: the registration at place m has the pid.
pub record IsRefusedAt (m : ℕ) (seen seen' : List Entry) : Type 0 where
  pub n : ℕ
  pub before : List Entry
  pub last : Entry
  pub ends : seen' ≡ before ++ last ∷ []
  pub registered : HasRegistered seen before n
  pub refused : (pid_of_call last.call ≡ Some (pos (suc n))) × (last.answer ≡ Taken m)

-- The door gained one Register, of this pid, which was answered Registered.
pub record HasAdmitted (seen seen' : List Entry) (pid : ℕ) : Type 0 where
  pub last : Entry
  pub registers : registers_of seen' ≡ registers_of seen ++ last ∷ []
  pub pid_is : pid_of_call last.call ≡ Some (pos pid)
  pub registered : last.answer ≡ Registered

-- The door gained one Register, of this pid, as its last entry. It was answered Taken: the registration at place m has the pid.
pub record HasRefused (m : ℕ) (seen seen' : List Entry) (pid : ℕ) : Type 0 where
  pub before : List Entry
  pub last : Entry
  pub ends : seen' ≡ before ++ last ∷ []
  pub registers : registers_of before ≡ registers_of seen
  pub pid_is : pid_of_call last.call ≡ Some (pos pid)
  pub taken : last.answer ≡ Taken m

-- A connection was not registered under this pid: its Register was refused, since another registration has the pid; or memory ran out, and
-- the door gained nothing.
abbrev pub IsTurnedAway : ListenError → ℕ → List Entry → List Entry → Type 0
IsTurnedAway (PidTaken m) pid seen seen' = HasRefused m seen seen' pid
IsTurnedAway NoMemory pid seen seen' = seen' ≡ seen
IsTurnedAway error pid seen seen' = ⊥

-- what a server that listens has counted: connections that it accepted, jobs that it started, and the faults of both
pub record Taking : Type 0 where
  pub accepted : ℕ
  pub accept_faults : ℕ
  pub started : ℕ
  pub start_faults : ℕ

abbrev pub taking_of : {A P : Type 0} → (A → ℕ) → (A → ℕ) → (P → ℕ) → (P → ℕ) → A → P → Taking
taking_of accepted accept_faults started start_faults acceptor spawner = record {
  accepted = accepted acceptor;
  accept_faults = accept_faults acceptor;
  started = started spawner;
  start_faults = start_faults spawner;
}

-- these numbers of connections were accepted and of jobs were started
abbrev pub HasTaken : Taking → Taking → ℕ → ℕ → Type 0
HasTaken old new connections jobs = (new.accepted ≡ old.accepted + connections) × (new.started ≡ old.started + jobs)

-- Why a server ends: all connections were taken in, registered and started; or a call failed, whose count has risen; or a pid was taken; or
-- memory ran out. Before what failed, each connection was accepted, registered and started, and they were fewer than were wanted.
abbrev pub HasEndedSo : Result ℕ ListenError → Option ℕ → Taking → Taking → List Entry → List Entry → Type 0
HasEndedSo (Ok n) count old new seen seen' = (n ≡ connections_of count) × HasTaken old new n n × HasRegistered seen seen' n
HasEndedSo (Err AcceptFault) count old new seen seen' = HasRisen old.accept_faults new.accept_faults
    × ((n : ℕ) × (n < connections_of count) × HasTaken old new n n × HasRegistered seen seen' n)
HasEndedSo (Err SpawnFault) count old new seen seen' = HasRisen old.start_faults new.start_faults
    × ((n : ℕ) × (n < connections_of count) × HasTaken old new (n + 1) n × HasRegistered seen seen' (n + 1))
HasEndedSo (Err (PidTaken m)) count old new seen seen' =
    (refused : IsRefusedAt m seen seen') × (refused.n < connections_of count) × HasTaken old new (refused.n + 1) refused.n
HasEndedSo (Err NoMemory) count old new seen seen' =
    (n : ℕ) × (n < connections_of count) × HasTaken old new (n + 1) n × HasRegistered seen seen' n

-- What came of taking in one connection under this pid.
abbrev pub HasTakenIn : Result (Unit {0}) ListenError → ℕ → Taking → Taking → List Entry → List Entry → Type 0
HasTakenIn (Ok done) pid old new seen seen' = HasTaken old new 1 1 × HasAdmitted seen seen' pid
HasTakenIn (Err AcceptFault) pid old new seen seen' = HasRisen old.accept_faults new.accept_faults × HasTaken old new 0 0 × (seen' ≡ seen)
HasTakenIn (Err SpawnFault) pid old new seen seen' =
    HasRisen old.start_faults new.start_faults × HasTaken old new 1 0 × HasAdmitted seen seen' pid
HasTakenIn (Err (PidTaken m)) pid old new seen seen' = HasTaken old new 1 0 × HasRefused m seen seen' pid
HasTakenIn (Err NoMemory) pid old new seen seen' = HasTaken old new 1 0 × (seen' ≡ seen)

-- the counts of faults never fall
abbrev pub NeverFalls : Taking → Taking → Type 0
NeverFalls old new = (old.accept_faults ≤ new.accept_faults) × (old.start_faults ≤ new.start_faults)

-- Fewer than 2^63 connections were accepted so far, and fewer than 2^63 jobs started, so that both counts can grow.
abbrev pub HasRoom : ℕ → ℕ → Type 0
HasRoom accepted started = (accepted < 2 ^ 63) × (started < 2 ^ 63)

-- A door has seen what it had seen, and more, and is a door of the same registry.
abbrev pub DoorGoesOn : Witness → Witness → Type 0
DoorGoesOn old new = IsPrefix old.seen new.seen × (new.issuer ≡ old.issuer)

-- A server goes on: no count of faults has fallen, and its door goes on.
pub record ServerGoesOn (taken new_taken : Taking) (old new : Witness) : Type 0 where
  pub never_falls : NeverFalls taken new_taken
  pub door : DoorGoesOn old new
