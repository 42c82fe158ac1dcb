-- Booking a shift that clashes with none, and canceling one, leave a timetable.
use Rattle.std.proofs.Common.{◌≡◌, ℕ, ◌<ℤ◌, pos, Bool, true, false, cond, not, ◌||◌, List, [], ◌∷◌, is_lt, if◌then◌else◌, refl, ◌∙◌, arith}
use Rattle.std.specs.List.{AllByRecursion, IsDistinct, filter, list_any}
use Rattle.std.proofs.lemmas.List.Elements.{All-from_recursion, recursion_from_All}
use Rattle.std.proofs.lemmas.Map.Keys.{IsDistinct-cons, IsDistinct-head, IsDistinct-tail, IsDistinct-from_apart, apart_from_distinct}
use Rattle.pg_interval.specs.declared.pg_interval.Interval.{Interval}
use Rattle.shift_table.specs.Spans.{span_of}
use Rattle.shift_table.specs.Shifts.{clashes, shift_cmp, stands_at, booked, canceled, IsTimetable}
use Rattle.shift_table.specs.declared.shift.Shift.{Shift}
use Rattle.shift_table.proofs.Meeting.{clashes_flip}

abbrev pub Lasts : Shift → Type 0
Lasts s = pos 0 <ℤ span_of s.length

or_first : (a b : Bool) → (a || b) ≡ false → a ≡ false
or_first true b e = cc
or_first false b e = refl

or_second : (a b : Bool) → (a || b) ≡ false → b ≡ false
or_second true b e = cc
or_second false b e = e

pub none_from_any : (test : Shift → Bool) (t : List Shift) → list_any test t ≡ false → AllByRecursion (λ s. test s ≡ false) t
none_from_any test [] e = tt
none_from_any test (x ∷ xs) e = (or_first (test x) (list_any test xs) e, none_from_any test xs (or_second (test x) (list_any test xs) e))

booked_each : (P : Shift → Type 0) (t : List Shift) (s : Shift) → AllByRecursion P t → P s → AllByRecursion P (booked t s)
booked_each P [] s h p = (p, tt)
booked_each P (x ∷ xs) s h p =
    elim (is_lt (shift_cmp s x)) as (λ b. AllByRecursion P (if b then s ∷ x ∷ xs else x ∷ booked xs s)) [
      | true ↦ (p, h)
      | false ↦ (h.0, booked_each P xs s h.1 p)
    ]

booked_distinct : (t : List Shift) (s : Shift) → IsDistinct clashes t → AllByRecursion (λ y. clashes s y ≡ false) t → IsDistinct clashes (booked t s)
booked_distinct [] s h n = IsDistinct-cons clashes s [] tt h
booked_distinct (x ∷ xs) s h n =
    elim (is_lt (shift_cmp s x)) as (λ b. IsDistinct clashes (if b then s ∷ x ∷ xs else x ∷ booked xs s)) [
      | true ↦ IsDistinct-cons clashes s (x ∷ xs) n h
      | false ↦ IsDistinct-cons clashes x (booked xs s)
          (booked_each (λ y. clashes x y ≡ false) xs s (IsDistinct-head clashes x xs h) (clashes_flip x s ∙ n.0))
          (booked_distinct xs s (IsDistinct-tail clashes x xs h) n.1)
    ]

filter_each : (P : Shift → Type 0) (test : Shift → Bool) (t : List Shift) → AllByRecursion P t → AllByRecursion P (filter test t)
filter_each P test [] h = tt
filter_each P test (x ∷ xs) h =
    elim (test x) as (λ b. AllByRecursion P (cond b (x ∷ filter test xs) (filter test xs))) [
      | true ↦ (h.0, filter_each P test xs h.1)
      | false ↦ filter_each P test xs h.1
    ]

filter_distinct : (test : Shift → Bool) (t : List Shift) → IsDistinct clashes t → IsDistinct clashes (filter test t)
filter_distinct test [] h = h
filter_distinct test (x ∷ xs) h =
    elim (test x) as (λ b. IsDistinct clashes (cond b (x ∷ filter test xs) (filter test xs))) [
      | true ↦ IsDistinct-cons clashes x (filter test xs) (filter_each (λ y. clashes x y ≡ false) test xs (IsDistinct-head clashes x xs h)) (filter_distinct test xs (IsDistinct-tail clashes x xs h))
      | false ↦ filter_distinct test xs (IsDistinct-tail clashes x xs h)
    ]

pub IsTimetable-nil : IsTimetable []
IsTimetable-nil = record { lasting = All-from_recursion Lasts [] tt; apart = λ i j d lt end. absurd (omega arith) }

pub IsTimetable-booked : (t : List Shift) (s : Shift) → IsTimetable t → Lasts s → list_any (clashes s) t ≡ false → IsTimetable (booked t s)
IsTimetable-booked t s h lasts free = record {
  lasting = All-from_recursion Lasts (booked t s) (booked_each Lasts t s (recursion_from_All Lasts t h.lasting) lasts);
  apart = λ i j d lt end. apart_from_distinct clashes (booked t s) i j d (booked_distinct t s (IsDistinct-from_apart clashes t h.apart) (none_from_any (clashes s) t free)) lt end;
}

pub IsTimetable-canceled : (t : List Shift) (name : List ℕ) (start : Interval) → IsTimetable t → IsTimetable (canceled t name start)
IsTimetable-canceled t name start h = record {
  lasting = All-from_recursion Lasts (canceled t name start) (filter_each Lasts (λ s. not (stands_at name start s)) t (recursion_from_All Lasts t h.lasting));
  apart = λ i j d lt end. apart_from_distinct clashes (canceled t name start) i j d (filter_distinct (λ s. not (stands_at name start s)) t (IsDistinct-from_apart clashes t h.apart)) lt end;
}
