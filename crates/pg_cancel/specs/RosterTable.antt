-- The rule of the table behind a shared registry, and what each step on it tells. No public contract names it. H, `log`
-- below, is the history so far. It exists only in the rule and in the views: the slot has its roster, which has no
-- entry but the last. Word 0 is twice the length of H while the roster is at home, and one more while a seat has the
-- turn.
use Rattle.std.specs.Prelude.{◌≡◌, ◌≢◌, ◌⊎◌, ℕ, ℤ, ◌+◌, ◌*◌, ◌<◌, Bool, true, false, List, [], ◌∷◌, ◌++◌, length, slice_get, slice_index, Some, None, cond, ltb}
use mathlib.Core.Option.{some, none}
use mathlib.Core.Option as maybe
use mathlib.Core.List.{IsPrefix}
use lib.ListN.{get_elem?}
use Rattle.atomic_table.specs.Table.{State, Me, Step}
use Rattle.pg_cancel.specs.declared.entries.Entry.{Entry}
use Rattle.pg_cancel.specs.declared.entries.RegistryCall.{RegistryCall}
use Rattle.pg_cancel.specs.declared.entries.RegistryCall.TheVariants.{Register, Start, Narrow, Unregister}
use Rattle.pg_cancel.specs.declared.entries.RegistryAnswer.{RegistryAnswer}
use Rattle.pg_cancel.specs.declared.entries.RegistryAnswer.TheVariants.{Registered, Done, Yes, No}
use Rattle.pg_cancel.specs.declared.roster.Roster.{Roster}
use Rattle.pg_cancel.specs.declared.seat.View.{View}
use Rattle.pg_cancel.specs.LegalHistory.{IsLegal, IsLive, IsRegisteredAt, IsAnswer, entry_of}
use Rattle.pg_cancel.specs.Index.{IsRosterOf, IsCaller}
use Rattle.pg_cancel.specs.Connections.{calls_of, is_register, registers_of, entry, Knows}

-- ---- the rule

-- the number's entries are `mine`, they were all seen, and the number is live until it was ended
pub record Owns (log : List Entry) (v : View) (n : ℕ) : Type 0 where
  pub known : n < length log
  pub live : v.is_live ≡ true → IsLive log n
  pub all : calls_of n log ≡ v.mine
  pub seen : calls_of n v.seen ≡ v.mine

-- what was seen is a beginning of the history, a number's calls are the seat's own, and the door has seen each Register
pub record Fits (log : List Entry) (v : View) : Type 0 where
  pub seen : IsPrefix v.seen log
  pub told : IsPrefix v.told v.seen
  pub own : (n : ℕ) → v.number ≡ Some n → Owns log v n
  pub door : v.is_door ≡ true → registers_of log ≡ registers_of v.seen

-- the seat that has the turn is the holder, and has the whole history
abbrev pub Holds : List Entry → ℕ → ℕ → ℕ → View → Type 0
Holds log word holder j v = (h : List Entry) → v.turn ≡ Some h → (j ≡ holder) × (h ≡ log) × (word ≡ 2 * length log + 1)

-- the roster of the history is at home
abbrev pub IsHome : ℕ → List (maybe.Option Roster) → List Entry → Type 0
IsHome word homes log = (word ≡ 2 * length log) × ((roster : Roster) × (get_elem? homes 0 ≡ some (some roster)) × IsRosterOf log roster)

-- a seat has the turn, and the roster is out with it
abbrev pub IsOut : ℕ → List (maybe.Option Roster) → List View → List Entry → ℕ → Type 0
IsOut word homes views log holder =
    (word ≡ 2 * length log + 1)
    × (get_elem? homes 0 ≡ some none)
    × ((v : View) × (get_elem? views holder ≡ some v) × (v.turn ≡ Some log))

-- no two seats have the same number, and no two are doors
pub record IsApart (views : List View) : Type 0 where
  pub numbers : (j k n : ℕ) (v w : View) → get_elem? views j ≡ some v → get_elem? views k ≡ some w → v.number ≡ Some n → w.number ≡ Some n
      → j ≡ k
  pub doors : (j k : ℕ) (v w : View) → get_elem? views j ≡ some v → get_elem? views k ≡ some w → v.is_door ≡ true → w.is_door ≡ true → j ≡ k

-- every entry that is no Register has the number of a registration
abbrev pub HasNoStray : List Entry → Type 0
HasNoStray history =
    (k : ℕ) (e : Entry) → slice_get history k ≡ Some e → is_register e.call ≡ false → (pid : ℤ) × (key : List ℕ)
    × IsRegisteredAt history e.number pid key

pub record InTurn (s : State Roster View) : Type 0 where
  pub log : List Entry
  pub holder : ℕ
  pub width : length s.words ≡ 1
  pub legal : IsLegal log
  pub strays : HasNoStray log
  pub place : IsHome (slice_index s.words 0) s.homes log ⊎ IsOut (slice_index s.words 0) s.homes s.views log holder
  pub fits : (j : ℕ) (v : View) → get_elem? s.views j ≡ some v → Fits log v
  pub turn : (j : ℕ) (v : View) → get_elem? s.views j ≡ some v → Holds log (slice_index s.words 0) holder j v
  pub apart : IsApart s.views

-- ---- views

abbrev pub first_door : View
first_door = record { seen = []; told = []; number = None; mine = []; is_live = false; is_door = true; turn = None }

abbrev pub reader : List Entry → View
reader seen = record { seen = seen; told = []; number = None; mine = []; is_live = false; is_door = false; turn = None }

-- the view of a seat that takes the turn, and of one that gives it back with nothing done
abbrev pub holding : View → List Entry → View
holding v log =
    record { seen = v.seen; told = v.told; number = v.number; mine = v.mine; is_live = v.is_live; is_door = v.is_door; turn = Some log }

abbrev pub idle : View → View
idle v = record { seen = v.seen; told = v.told; number = v.number; mine = v.mine; is_live = v.is_live; is_door = v.is_door; turn = None }

-- the view of a seat that gives the turn back with one more entry: a call of its number, after which the number is live
-- or not; a registration; a refused registration
abbrev pub called : Bool → View → List Entry → Entry → View
called live v before e =
    record {
      seen = before ++ e ∷ [];
      told = [];
      number = v.number;
      mine = v.mine ++ e ∷ [];
      is_live = live;
      is_door = v.is_door;
      turn = None;
    }

abbrev pub entered : View → List Entry → Entry → View
entered v before e =
    record { seen = before ++ e ∷ []; told = []; number = Some e.number; mine = e ∷ []; is_live = true; is_door = v.is_door; turn = None }

abbrev pub refused : View → List Entry → Entry → View
refused v before e =
    record { seen = before ++ e ∷ []; told = []; number = None; mine = []; is_live = false; is_door = v.is_door; turn = None }

abbrev pub grown_by : View → List Entry → Entry → RegistryCall → RegistryAnswer → View
grown_by v before e (Register pid key) Registered = entered v before e
grown_by v before e (Register pid key) _ = refused v before e
grown_by v before e Unregister _ = called false v before e
grown_by v before e _ _ = called v.is_live v before e

-- the view after the event whose entry is e
abbrev pub grown : View → List Entry → Entry → View
grown v before e = grown_by v before e e.call e.answer

-- a door that passes its number on, and the handle that has it then
abbrev pub without_number : View → View
without_number v = record { seen = v.seen; told = v.told; number = None; mine = []; is_live = false; is_door = v.is_door; turn = None }

abbrev pub handle : View → View
handle v = record { seen = v.seen; told = []; number = v.number; mine = v.mine; is_live = v.is_live; is_door = false; turn = None }

abbrev pub longer : List Entry → List Entry → List Entry
longer xs ys = cond (ltb (length xs) (length ys)) ys xs

abbrev pub shorter : List Entry → List Entry → List Entry
shorter xs ys = cond (ltb (length xs) (length ys)) xs ys

-- a seat that took in what another had seen
abbrev pub joined : View → View → View
joined v w =
    record {
      seen = longer v.seen w.seen;
      told = shorter v.seen w.seen;
      number = v.number;
      mine = v.mine;
      is_live = v.is_live;
      is_door = v.is_door;
      turn = v.turn;
    }

-- ---- steps

abbrev Sat : Type 0
Sat = Me Roster View

abbrev At : Type 0
At = Step Roster

abbrev pub looked : At → Sat → ℕ → Sat → Type 0
looked st m r n = n ≡ m

abbrev pub compared : At → Sat → ℕ → Sat → Type 0
compared st m r n =
    (n ≡ m) × IsPrefix m.0.told m.0.seen × IsLegal m.0.seen × ((k : ℕ) → m.0.number ≡ Some k → calls_of k m.0.seen ≡ m.0.mine)

-- the roster of the history is out with the seat
pub record HasTurn (m n : Sat) (word : ℕ) : Type 0 where
  pub log : List Entry
  pub roster : Roster
  pub is : n ≡ (holding m.0 log, (0, roster) ∷ m.1)
  pub counted : word ≡ 2 * length log
  pub right : IsRosterOf log roster
  pub legal : IsLegal log
  pub fits : Fits log m.0

abbrev pub took : At → Sat → ℕ → Sat → Type 0
took st m r n = (r ≡ st.first → HasTurn m n r) × (r ≢ st.first → n ≡ m)

-- the turn is given back with one more entry, the last one of the roster
abbrev pub publishes : At → Sat → ℕ → Sat → Type 0
publishes st m r n =
    (before : List Entry) (roster : Roster) (e : Entry) → m.0.turn ≡ Some before → m.1 ≡ (0, roster) ∷ [] → roster.last ≡ Some e
    → n ≡ (grown m.0 before e, [])

-- the turn is given back with nothing done
abbrev pub releases : At → Sat → ℕ → Sat → Type 0
releases st m r n = (roster : Roster) → m.1 ≡ (0, roster) ∷ [] → n ≡ (idle m.0, [])

-- ---- seats between two steps

-- a seat with this view took the turn, and has the roster of the history. The next entry's place is this one
pub record HasOut (m : Sat) (v : View) (place : ℕ) : Type 0 where
  pub log : List Entry
  pub roster : Roster
  pub is : m ≡ (holding v log, (0, roster) ∷ [])
  pub next : place ≡ length log
  pub right : IsRosterOf log roster
  pub legal : IsLegal log
  pub fits : Fits log v

-- the seat has the turn, and the roster of the history
pub record IsHolding (m : Sat) : Type 0 where
  pub log : List Entry
  pub roster : Roster
  pub turn : m.0.turn ≡ Some log
  pub slot : m.1 ≡ (0, roster) ∷ []
  pub right : IsRosterOf log roster
  pub legal : IsLegal log

-- the seat's history has the call's registration, which has the pid. A Register needs no registration
abbrev pub IsCalled : Sat → ℕ → ℤ → RegistryCall → Type 0
IsCalled m number pid call = (log : List Entry) → m.0.turn ≡ Some log → IsCaller log number pid call

-- after the seat's history the call was made once, with the right answer, and the turn given back
pub record Happens (m : Sat) (log : List Entry) (number : ℕ) (call : RegistryCall) (m' : Sat) (answer : RegistryAnswer) : Type 0 where
  pub is : m' ≡ (grown m.0 log (entry_of log number call answer), [])
  pub legal : IsLegal (log ++ entry_of log number call answer ∷ [])
  pub told : IsAnswer log number call answer

abbrev pub HasHappened : Sat → ℕ → RegistryCall → Sat → RegistryAnswer → Type 0
HasHappened m number call m' answer = (log : List Entry) → m.0.turn ≡ Some log → Happens m log number call m' answer

abbrev pub IsFree : Sat → Type 0
IsFree m = (m.1 ≡ []) × (m.0.turn ≡ None)

abbrev pub IsHandle : Sat → ℕ → Type 0
IsHandle m n = IsFree m × (m.0.number ≡ Some n) × (m.0.is_live ≡ true) × (m.0.is_door ≡ false) × Knows n m.0.seen m.0.mine

abbrev pub IsDoor : Sat → Type 0
IsDoor m = IsFree m × (m.0.number ≡ None) × (m.0.is_door ≡ true)

abbrev pub IsNote : Sat → Type 0
IsNote m = IsFree m × (m.0.is_door ≡ false)

-- a door that has just registered the place n by this call
abbrev pub IsOpening : Sat → ℕ → RegistryCall → Type 0
IsOpening m n call =
    IsFree m × (m.0.number ≡ Some n) × (m.0.is_door ≡ true) × (m.0.is_live ≡ true) × (m.0.mine ≡ entry n call Registered ∷ [])
    × Knows n m.0.seen m.0.mine

-- which seat may make the call: the door's seat makes a Register, and the seat of a live number makes each other call
abbrev pub MayMake : View → ℕ → RegistryCall → Type 0
MayMake v number (Register pid key) = v.is_door ≡ true
MayMake v number _ = (v.number ≡ Some number) × (v.is_live ≡ true)

-- a handle's seat after this call: it is still a handle's, or a note's where the call ended the registration
abbrev pub IsLeft : Sat → ℕ → RegistryCall → Type 0
IsLeft m number Unregister = IsNote m
IsLeft m number _ = IsHandle m number

-- which answers a call may have
abbrev pub IsToldTo : RegistryCall → RegistryAnswer → Type 0
IsToldTo (Register pid key) answer = Unit {0}
IsToldTo Start answer = answer ≡ Done
IsToldTo Narrow answer = answer ≡ Done
IsToldTo Unregister answer = answer ≡ Done
IsToldTo _ answer = (answer ≡ Yes) ⊎ (answer ≡ No)
