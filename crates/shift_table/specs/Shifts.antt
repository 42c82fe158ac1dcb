-- Shifts, and the table of them: a list in the order of their names, and of their starts under one name.
use Rattle.std.specs.Prelude.{◌≡◌, ℕ, ℤ, pos, ◌+ℤ◌, ◌<ℤ◌, Bool, false, not, ◌&&◌, List, [], ◌∷◌, Option, All, AllPairs, filter, find, int_lt, nat_eq, if◌then◌else◌}
use Rattle.std.specs.declared.cmp.Ordering.{Ordering}
use Rattle.std.specs.Ordering.{nat_cmp, int_cmp, int_eq, is_lt, ordering_then}
use Rattle.std.specs.Cmp.Lexicographic.{pointwise, slice_cmp}
use Rattle.pg_interval.specs.declared.pg_interval.Interval.{Interval}
use Rattle.shift_table.specs.Spans.{span_of}
use Rattle.shift_table.specs.declared.shift.Shift.{Shift}

-- the moment at which a shift ends
abbrev pub end_of : Shift → ℤ
end_of s = span_of s.start +ℤ span_of s.length

-- two names are one: they have the same bytes
abbrev pub same_name : List ℕ → List ℕ → Bool
same_name = pointwise nat_eq

-- whether a shift has this name, and a part of it lies in the time from the one moment up to the other
abbrev pub meets : List ℕ → ℤ → ℤ → Shift → Bool
meets name from until s = same_name name s.name && (int_lt from (end_of s) && int_lt (span_of s.start) until)

-- whether two shifts clash: they have one name, and the times from start to end meet. One that ends where the other starts doesn't meet it
abbrev pub clashes : Shift → Shift → Bool
clashes a b = meets a.name (span_of a.start) (end_of a) b

-- the order of shifts
abbrev pub shift_cmp : Shift → Shift → Ordering
shift_cmp a b = ordering_then (slice_cmp nat_cmp a.name b.name) (int_cmp (span_of a.start) (span_of b.start))

-- whether a shift has this name and starts at this moment
abbrev pub stands_at : List ℕ → Interval → Shift → Bool
stands_at name start s = same_name name s.name && int_eq (span_of start) (span_of s.start)

-- whether a shift of the table is this one: the same name, start and length, as intervals are compared
abbrev pub is_shift : Shift → Shift → Bool
is_shift a b = stands_at a.name a.start b && int_eq (span_of a.length) (span_of b.length)

-- the shift of this name that starts at this moment, if one does
abbrev pub found : List Shift → List ℕ → Interval → Option Shift
found t name start = find (stands_at name start) t

-- the table with one more shift, at its place in the order
abbrev pub booked : List Shift → Shift → List Shift
booked [] s = s ∷ []
booked (x ∷ xs) s = if is_lt (shift_cmp s x) then s ∷ x ∷ xs else x ∷ booked xs s

-- the table without the shift of this name that starts at this moment
abbrev pub canceled : List Shift → List ℕ → Interval → List Shift
canceled t name start = filter (λ s. not (stands_at name start s)) t

-- the shifts of one name
abbrev pub shifts_of : List Shift → List ℕ → List Shift
shifts_of t name = filter (λ s. same_name name s.name) t

-- what holds of each table: each shift lasts, and no two clash
pub record IsTimetable (t : List Shift) : Type 0 where
  pub lasting : All (λ s. pos 0 <ℤ span_of s.length) t
  pub apart : AllPairs (λ a b. clashes a b ≡ false) t
