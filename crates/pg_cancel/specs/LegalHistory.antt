-- Which lists of entries are legal histories of a cancel registry. Places count from 0. Each question is asked of the
-- list alone: who is live, whose query was canceled, which answer a call has.
-- It says for a list of calls what the frontend/backend protocol ("Canceling Requests in Progress") says of a server's
-- process ids and secret keys: a request that names both of a connection cancels that connection's query, and any other
-- request does nothing.
use Rattle.std.specs.Prelude.{◌≡◌, ◌<◌, ◌==◌, ◌&&◌, Bool, true, false, ℕ, ℤ, List, length, take, Some, slice_get, IsSomeAnd, if◌then◌else◌}
use Rattle.std.specs.List.{list_any}
use Rattle.pg_cancel.specs.declared.entries.Entry.{Entry}
use Rattle.pg_cancel.specs.declared.entries.RegistryCall.{RegistryCall}
use Rattle.pg_cancel.specs.declared.entries.RegistryCall.TheVariants.{Register, Start, Ask, Cancel, Narrow, Unregister}
use Rattle.pg_cancel.specs.declared.entries.RegistryAnswer.{RegistryAnswer}
use Rattle.pg_cancel.specs.declared.entries.RegistryAnswer.TheVariants.{Registered, Taken, Done, Yes, No}

-- the entry at this place is the call, made under this number
abbrev pub IsCallAt : List Entry → ℕ → ℕ → RegistryCall → Type 0
IsCallAt history place number call = IsSomeAnd (slice_get history place) (λ entry. (entry.number ≡ number) × (entry.call ≡ call))

-- the entry at this place is a Register of the pid and key that was answered Registered
abbrev pub IsRegisteredAt : List Entry → ℕ → ℤ → List ℕ → Type 0
IsRegisteredAt history place pid key = IsSomeAnd (slice_get history place) (λ entry. (entry.call ≡ Register pid key)
    × (entry.answer ≡ Registered))

-- the entry at this place is a Cancel of the pid and key, whoever made it
abbrev pub IsCancelAt : List Entry → ℕ → ℤ → List ℕ → Type 0
IsCancelAt history place pid key = IsSomeAnd (slice_get history place) (λ entry. entry.call ≡ Cancel pid key)

abbrev pub is_narrow : RegistryCall → Bool
is_narrow Narrow = true
is_narrow _ = false

-- whether the entry is a Narrow of n
abbrev pub narrows : ℕ → Entry → Bool
narrows n entry = (entry.number == n) && is_narrow entry.call

-- the key of n after this history: the key of its Register, which is given, or that key's first four bytes where the history has
-- a Narrow of n
abbrev pub key_after : List Entry → ℕ → List ℕ → List ℕ
key_after history n registered = if list_any (narrows n) history then take 4 registered else registered

-- the key of n at a place: a Narrow that stands before the place counts
abbrev pub key_at : List Entry → ℕ → ℕ → List ℕ → List ℕ
key_at history place n registered = key_after (take place history) n registered

-- the registration at place n was made with the pid and key, and is live: no Unregister of n follows it
pub record IsLiveAs (history : List Entry) (n : ℕ) (pid : ℤ) (key : List ℕ) : Type 0 where
  pub registered : IsRegisteredAt history n pid key
  pub not_ended : (k : ℕ) → n < k → ¬ IsCallAt history k n Unregister

-- the registration at place n is live
abbrev pub IsLive : List Entry → ℕ → Type 0
IsLive history n = (pid : ℤ) × (key : List ℕ) × IsLiveAs history n pid key

-- n is the place of a live registration of the pid
abbrev pub HasPid : List Entry → ℕ → ℤ → Type 0
HasPid history n pid = (key : List ℕ) × IsLiveAs history n pid key

-- a registration of the pid is live
abbrev pub IsTaken : List Entry → ℤ → Type 0
IsTaken history pid = (n : ℕ) × HasPid history n pid

-- a registration of the pid is live whose key after this history is the given one
abbrev pub IsConnected : List Entry → ℤ → List ℕ → Type 0
IsConnected history pid key = (n : ℕ) × (registered : List ℕ) × IsLiveAs history n pid registered × (key_after history n registered ≡ key)

-- this is the place of the last Start of n
pub record IsLastStart (history : List Entry) (n start : ℕ) : Type 0 where
  pub started : IsCallAt history start n Start
  pub last : (k : ℕ) → start < k → ¬ IsCallAt history k n Start

-- the entry at this place is a Cancel with n's pid, whose key is n's key at this place
abbrev pub IsCancelOf : List Entry → ℕ → ℕ → Type 0
IsCancelOf history n place = (pid : ℤ) × (registered : List ℕ) × IsRegisteredAt history n pid registered
    × IsCancelAt history place pid (key_at history place n registered)

-- n has a Start, and after the last one stands a Cancel with n's pid, whose key is n's key at that Cancel's place
pub record IsCanceled (history : List Entry) (n : ℕ) : Type 0 where
  pub start : ℕ
  pub cancel : ℕ
  pub last_start : IsLastStart history n start
  pub cancel_of_n : IsCancelOf history n cancel
  pub after : start < cancel

-- the number of a Register is its own place, and every other number is that of a live registration
abbrev pub IsNumber : List Entry → RegistryCall → ℕ → Type 0
IsNumber history (Register pid key) number = number ≡ length history
IsNumber history _ number = IsLive history number

-- the answer to a call under this number, where the history so far is this one
abbrev pub IsAnswer : List Entry → ℕ → RegistryCall → RegistryAnswer → Type 0
IsAnswer history number (Register pid key) Registered = ¬ IsTaken history pid
IsAnswer history number (Register pid key) (Taken m) = HasPid history m pid
IsAnswer history number Start Done = Unit {0}
IsAnswer history number Ask Yes = IsCanceled history number
IsAnswer history number Ask No = ¬ IsCanceled history number
IsAnswer history number (Cancel pid key) Yes = IsConnected history pid key
IsAnswer history number (Cancel pid key) No = ¬ IsConnected history pid key
IsAnswer history number Narrow Done = Unit {0}
IsAnswer history number Unregister Done = Unit {0}
IsAnswer history number _ _ = ⊥

-- the entry may stand next after this history
pub record MayFollow (history : List Entry) (entry : Entry) : Type 0 where
  pub number : IsNumber history entry.call entry.number
  pub answer : IsAnswer history entry.number entry.call entry.answer

-- each entry has the number and the answer that it must have after those before it
abbrev pub IsLegal : List Entry → Type 0
IsLegal history = (place : ℕ) (entry : Entry) → slice_get history place ≡ Some entry → MayFollow (take place history) entry

-- under which numbers the call may be made: a Register under any, every other call under that of a live registration
abbrev pub MayCall : List Entry → ℕ → RegistryCall → Type 0
MayCall history number (Register pid key) = Unit {0}
MayCall history number _ = IsLive history number

-- the number that a call is entered under: a Register its own place, every other call the number that it is made under
abbrev pub entry_number : List Entry → ℕ → RegistryCall → ℕ
entry_number history number (Register pid key) = length history
entry_number history number _ = number

-- the entry of a call made under this number, with its answer
abbrev pub entry_of : List Entry → ℕ → RegistryCall → RegistryAnswer → Entry
entry_of history number call answer = record { number = entry_number history number call; call = call; answer = answer }
