-- The shifts of a rota that aren't empty, as the search for clashes holds them. No public contract cites it.
use Rattle.std.specs.Prelude.{ℕ, ◌+◌, ◌*◌, ◌<◌, ◌≤◌, ◌≡◌, ◌⊎◌, ◌++◌, ◌∷◌, [], List, length, slice_index_or, ℤ, pos, ◌+ℤ◌, unsigned_abs}
use Rattle.std.specs.List.{All, Contains}
use Rattle.rota_moments.specs.declared.moment.Moment.{Moment}
use Rattle.rota_moments.specs.Moments.{moment, day_micros}
use Rattle.rota_clashes.specs.declared.shifts.Shift.{Shift}

-- the microseconds from 0001-01-01 up to a moment
abbrev pub micros_up_to : Moment → ℕ
micros_up_to m = unsigned_abs (m.day +ℤ pos 719162) * day_micros + m.micro

abbrev pub micros_at : List Moment → ℕ → ℕ
micros_at moments i = micros_up_to (slice_index_or moments i (moment (pos 0) 0))

abbrev pub start_of : Shift → ℕ
start_of s = s.start

-- a shift of the rota that isn't empty
pub record IsShift (moments : List Moment) (s : Shift) : Type 0 where
  pub place : s.place + 1 < length moments
  pub start : s.start ≡ micros_at moments s.place
  pub stop : s.stop ≡ micros_at moments (s.place + 1)
  pub lasts : s.start < s.stop

-- all of them
pub record AreShifts (moments : List Moment) (shifts : List Shift) : Type 0 where
  pub each : All (IsShift moments) shifts
  pub all : (s : Shift) → IsShift moments s → Contains shifts s

-- those before a place
pub record AreShiftsBefore (place : ℕ) (moments : List Moment) (shifts : List Shift) : Type 0 where
  pub each : All (IsShift moments) shifts
  pub all : (s : Shift) → IsShift moments s → s.place < place → Contains shifts s

-- the shift at a place came to the list, if it isn't empty
abbrev pub HasShift : ℕ → List Moment → List Shift → List Shift → Type 0
HasShift place moments old new =
    ((new ≡ old) × (micros_at moments (place + 1) ≤ micros_at moments place))
    ⊎ ((s : Shift) × IsShift moments s × (s.place ≡ place) × (new ≡ old ++ s ∷ []))

-- the pairs of a shift of each list that R relates
abbrev pub IsJoined : (Shift → Shift → Type 0) → (Shift → Shift → ℕ × ℕ) → List Shift → List Shift → ℕ × ℕ → Type 0
IsJoined R pair shifts others p =
    (a : Shift) × ((b : Shift) × Contains shifts a × Contains others b × R a b × (p ≡ pair a b))

-- b begins while a is on, or with it
abbrev pub BeginsIn : Shift → Shift → Type 0
BeginsIn a b = (a.start ≤ b.start) × (b.start < a.stop)

-- b begins while a is on already
abbrev pub BeginsLater : Shift → Shift → Type 0
BeginsLater a b = (a.start < b.start) × (b.start < a.stop)

abbrev pub places : Shift → Shift → ℕ × ℕ
places a b = (a.place, b.place)

abbrev pub places_turned : Shift → Shift → ℕ × ℕ
places_turned a b = (b.place, a.place)

-- shifts of these lists, of which the second begins while the first is on
abbrev pub IsBegun : List Shift → List Shift → ℕ × ℕ → Type 0
IsBegun first second p = IsJoined BeginsIn places first second p

-- shifts of these lists, of which the first begins while the second is on already
abbrev pub IsRunning : List Shift → List Shift → ℕ × ℕ → Type 0
IsRunning first second p = IsJoined BeginsLater places_turned second first p

-- those of the shifts that begin between two instants
pub record AreBetween (shifts between : List Shift) (low high : ℕ) : Type 0 where
  pub each : (s : Shift) → Contains between s → Contains shifts s × (low ≤ s.start) × (s.start < high)
  pub all : (s : Shift) → Contains shifts s → low ≤ s.start → s.start < high → Contains between s
