-- What the registry's index says of a history. The history need not be stored beside it. No public contract names it.
use Rattle.std.specs.Prelude.{◌≡◌, ◌<◌, ◌≤◌, ◌^◌, ℕ, ℤ, List, [], ◌∷◌, ◌++◌, length, Option, None, IsSome, IsSomeAnd, MatchOption}
use Rattle.std.specs.Ordering.{int_cmp}
use Rattle.std.specs.BTreeMap.{IsUnchanged, get}
use Rattle.std.specs.List.{last_or}
use Rattle.pg_cancel.specs.declared.entries.Entry.{Entry}
use Rattle.pg_cancel.specs.declared.entries.RegistryCall.{RegistryCall}
use Rattle.pg_cancel.specs.declared.entries.RegistryCall.TheVariants.{Register, Start}
use Rattle.pg_cancel.specs.declared.entries.RegistryAnswer.{RegistryAnswer}
use Rattle.pg_cancel.specs.declared.entries.RegistryAnswer.TheVariants.{Yes, No}
use Rattle.pg_cancel.specs.declared.holders.Holder.{Holder}
use Rattle.pg_cancel.specs.declared.holders.Holders.{Holders}
use Rattle.pg_cancel.specs.declared.holders.Query.{Query}
use Rattle.pg_cancel.specs.declared.holders.Query.TheVariants.{Unstarted, Running, Canceled}
use Rattle.pg_cancel.specs.declared.roster.Roster.{Roster}
use Rattle.pg_cancel.specs.LegalHistory.{IsCallAt, IsCancelAt, key_after, key_at, IsLiveAs, HasPid, IsTaken, IsLastStart, IsLegal, IsAnswer, entry_of}

-- how far the query of n, which was registered with the pid and key, has come. A Cancel counts by the key that n had at its place
abbrev pub IsQuery : List Entry → ℕ → ℤ → List ℕ → Query → Type 0
IsQuery history n pid key Unstarted = (k : ℕ) → ¬ IsCallAt history k n Start
IsQuery history n pid key Running = (start : ℕ) × IsLastStart history n start
    × ((k : ℕ) → start < k → ¬ IsCancelAt history k pid (key_at history k n key))
IsQuery history n pid key Canceled = (start : ℕ) × IsLastStart history n start × (cancel : ℕ) × (start < cancel)
    × IsCancelAt history cancel pid (key_at history cancel n key)

-- what a cancel makes of a query: one that comes before any start does nothing
abbrev pub canceled : Query → Query
canceled Unstarted = Unstarted
canceled Running = Canceled
canceled Canceled = Canceled

-- the answer to an Ask about a query
abbrev pub answer_of : Query → RegistryAnswer
answer_of Unstarted = No
answer_of Running = No
answer_of Canceled = Yes

-- the holder is the live registration of the pid, which has the holder's key now
pub record Holds (history : List Entry) (pid : ℤ) (holder : Holder) : Type 0 where
  pub registered : List ℕ
  pub live : IsLiveAs history holder.number pid registered
  pub named : holder.key ≡ key_after history holder.number registered
  pub query : IsQuery history holder.number pid registered holder.query

-- what the index has at a pid: its live registration, or nothing where it has none
abbrev pub IsEntryAt : List Entry → ℤ → Option Holder → Type 0
IsEntryAt history pid holder = MatchOption holder (¬ IsTaken history pid) (Holds history pid)

-- the index has the live registration of each pid that has one, and nothing at any other pid
abbrev pub IsIndexOf : List Entry → Holders → Type 0
IsIndexOf history holders = (pid : ℤ) → IsEntryAt history pid (get int_cmp holders.by_pid pid)

-- the answer is right, and the index is that of the history with the call's entry
pub record Notes (history : List Entry) (number : ℕ) (call : RegistryCall) (holders : Holders) (answer : RegistryAnswer) : Type 0 where
  pub told : IsAnswer history number call answer
  pub noted : IsIndexOf (history ++ entry_of history number call answer ∷ []) holders

-- ---- calls, of an index alone

-- the index has a registration of the pid
abbrev pub IsHeld : Holders → ℤ → Type 0
IsHeld holders pid = IsSome (get int_cmp holders.by_pid pid)

-- the index has a registration of the pid, and this key there
abbrev pub IsHeldBy : Holders → ℤ → List ℕ → Type 0
IsHeldBy holders pid key = IsSomeAnd (get int_cmp holders.by_pid pid) (λ holder. holder.key ≡ key)

-- a Register needs no registration, and every other call is that of a pid that the index has
abbrev pub MayAsk : Holders → ℤ → RegistryCall → Type 0
MayAsk holders pid (Register p key) = Unit {0}
MayAsk holders pid _ = IsHeld holders pid

-- the call is that of the live registration n, which has the pid. A Register needs no registration
abbrev pub IsCaller : List Entry → ℕ → ℤ → RegistryCall → Type 0
IsCaller history n pid (Register p key) = Unit {0}
IsCaller history n pid _ = HasPid history n pid

-- after each legal history of this length that has this index, the call gets the right answer and is noted
abbrev pub NotesAny : Holders → ℕ → ℤ → RegistryCall → Holders → RegistryAnswer → Type 0
NotesAny before place pid call holders answer =
    (history : List Entry) (number : ℕ) → IsLegal history → IsIndexOf history before → place ≡ length history
    → IsCaller history number pid call → Notes history number call holders answer

-- ---- the roster

-- the roster is that of the history: its index, how many entries it has, and the last one, if there is one
pub record IsRosterOf (history : List Entry) (roster : Roster) : Type 0 where
  pub index : IsIndexOf history roster.holders
  pub count : roster.count ≡ length history
  pub few : roster.count ≤ 2 ^ 58
  pub last : roster.last ≡ last_or None history

-- the answer is right, and the roster is that of the history with the call's entry
pub record Enters (history : List Entry) (number : ℕ) (call : RegistryCall) (roster : Roster) (answer : RegistryAnswer) : Type 0 where
  pub told : IsAnswer history number call answer
  pub right : IsRosterOf (history ++ entry_of history number call answer ∷ []) roster

-- the same after each legal history that has this roster
abbrev pub EntersAny : Roster → ℕ → ℤ → RegistryCall → Roster → RegistryAnswer → Type 0
EntersAny before number pid call roster answer =
    (history : List Entry) → IsLegal history → IsRosterOf history before → IsCaller history number pid call
    → Enters history number call roster answer

-- nothing was noted
abbrev pub IsSameRoster : Roster → Roster → Type 0
IsSameRoster before roster =
    IsUnchanged before.holders.by_pid roster.holders.by_pid × (roster.count ≡ before.count) × (roster.last ≡ before.last)
