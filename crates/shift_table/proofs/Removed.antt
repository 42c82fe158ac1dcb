-- One entry less in a table, and the entries of one name.
use Rattle.std.proofs.Common.{◌≡◌, ℕ, ℤ, ◌≤ℤ◌, Bool, true, false, cond, not, ◌&&◌, List, [], ◌∷◌, is_eq, is_lt, is_le, nat_cmp, int_cmp, int_eq, Ordering, Less, Equal, Greater, refl, sym, ap, ◌∙◌, subst, pos, negsuc, ◌^◌, arith}
use Rattle.std.specs.Ordering.{ordering_then}
use Rattle.std.specs.Cmp.Lexicographic.{slice_cmp, pointwise, texts_ties, same_text}
use Rattle.std.specs.Prelude.{nat_eq}
use Rattle.std.specs.BTreeMap.{is_at}
use Rattle.std.specs.BTreeMap.Range.{range_contains, entries_between}
use Rattle.std.specs.declared.ops.Bound.TheVariants.{Included}
use Rattle.std.specs.Map.{keys_of, remove_entry}
use Rattle.std.specs.List.{AllByRecursion, IsDistinct, filter}
use Rattle.std.specs.List.Sorted.{IsStrictlySortedBy}
use Rattle.std.proofs.lemmas.List.Elements.{All-from_recursion, recursion_from_All}
use Rattle.std.proofs.lemmas.Map.Keys.{IsDistinct-head, IsDistinct-tail, IsDistinct-from_apart}
use Rattle.std.proofs.lemmas.Map.Lookups.{exact_signed}
use Rattle.std.proofs.lemmas.Int.{ints}
use Rattle.std.specs.Cmp.{first_so, second_so}
use Rattle.pg_interval.specs.declared.pg_interval.Interval.{Interval}
use Rattle.shift_table.specs.Spans.{span_of}
use Rattle.shift_table.specs.Shifts.{same_name, clashes, shift_cmp, stands_at, canceled, shifts_of, IsTimetable}
use Rattle.shift_table.specs.Kept.{shift_at, shifts_in, IsKeyed, IsKept}
use Rattle.shift_table.specs.declared.shift.Shift.{Shift}
use Rattle.shift_table.specs.declared.place.Place.{Place}
use Rattle.shift_table.specs.declared.place.Hours.{Hours}
use Rattle.shift_table.proofs.Places.{place_cmp, is_le_from_le, not_lt_from_le}
use Rattle.shift_table.proofs.Timetables.{Lasts, IsTimetable-canceled}
use Rattle.shift_table.proofs.Meeting.{same_place_clashes}

then_is_eq : (o p : Ordering) → is_eq (ordering_then o p) ≡ (is_eq o && is_eq p)
then_is_eq Less p = refl
then_is_eq Equal p = refl
then_is_eq Greater p = refl

-- a key that is the place of a name and a moment hits the entries that stand there
pub hits : (k : Place) (start : Interval) (e : Place × Hours) → k.start ≡ span_of start → IsKeyed e → is_at (place_cmp k) e.0 ≡ stands_at k.name start (shift_at e)
hits k start e m h =
    then_is_eq (slice_cmp nat_cmp k.name e.0.name) (int_cmp k.start e.0.start)
    ∙ ap (λ b. b && int_eq k.start e.0.start) (sym (texts_ties k.name e.0.name))
    ∙ ap (λ z. pointwise nat_eq k.name e.0.name && int_eq z e.0.start) m
    ∙ ap (λ z. pointwise nat_eq k.name e.0.name && int_eq (span_of start) z) h.moment

pub at_is : (o : Ordering) → is_eq o ≡ true → o ≡ Equal
at_is Less e = cc
at_is Equal e = refl
at_is Greater e = cc

int_same : (x y : ℤ) → int_eq x y ≡ true → x ≡ y
int_same x y e = exact_signed x y (at_is (int_cmp x y) e)

-- a shift that stands at a place has its name and its moment
stands_so : (k : Place) (start : Interval) (s : Shift) → stands_at k.name start s ≡ true → (k.name ≡ s.name) × (span_of start ≡ span_of s.start)
stands_so k start s e = (
  same_text k.name s.name (sym (first_so (same_name k.name s.name) (int_eq (span_of start) (span_of s.start)) e)),
  int_same (span_of start) (span_of s.start) (second_so (same_name k.name s.name) (int_eq (span_of start) (span_of s.start)) e),
)

not_true : (b : Bool) → (b ≡ true → ⊥) → b ≡ false
not_true true f = absurd (f refl)
not_true false f = refl

true_or_false : (b : Bool) → b ≡ true → b ≡ false → ⊥
true_or_false b t f = cc

-- what doesn't clash with the shift at the place doesn't stand there
pub none_later : (es : List (Place × Hours)) (s : Shift) (k : Place) (start : Interval) → stands_at k.name start s ≡ true → Lasts s
    → AllByRecursion (λ y. clashes s y ≡ false) (shifts_in es) → AllByRecursion Lasts (shifts_in es)
    → AllByRecursion (λ y. stands_at k.name start y ≡ false) (shifts_in es)
none_later [] s k start here lasts apart l = tt
none_later (e ∷ es) s k start here lasts apart l =
    let one = stands_so k start s here in (
      not_true (stands_at k.name start (shift_at e))
          (λ there. let other = stands_so k start (shift_at e) there in
          true_or_false (clashes s (shift_at e)) (same_place_clashes s (shift_at e) (sym one.0 ∙ other.0) (sym one.1 ∙ other.1) lasts l.0) apart.0),
      none_later es s k start here lasts apart.1 l.1,
    )

none_canceled : (t : List Shift) (name : List ℕ) (start : Interval) → AllByRecursion (λ y. stands_at name start y ≡ false) t → canceled t name start ≡ t
none_canceled [] name start n = refl
none_canceled (x ∷ xs) name start n =
    ap (λ b. cond (not b) (x ∷ canceled xs name start) (canceled xs name start)) n.0
    ∙ ap (λ r. x ∷ r) (none_canceled xs name start n.1)

one_less : (b : Bool) (k : Place) (start : Interval) (e : Place × Hours) (es : List (Place × Hours)) → is_at (place_cmp k) e.0 ≡ b
    → stands_at k.name start (shift_at e) ≡ b → (b ≡ true → canceled (shifts_in es) k.name start ≡ shifts_in es)
    → shifts_in (remove_entry (is_at (place_cmp k)) es) ≡ canceled (shifts_in es) k.name start
    → shifts_in (cond b es (e ∷ remove_entry (is_at (place_cmp k)) es)) ≡ cond (not (stands_at k.name start (shift_at e))) (shift_at e ∷ canceled (shifts_in es) k.name start) (canceled (shifts_in es) k.name start)
one_less true k start e es at stands later rest =
    sym (later refl)
    ∙ ap (λ b. cond (not b) (shift_at e ∷ canceled (shifts_in es) k.name start) (canceled (shifts_in es) k.name start)) (sym stands)
one_less false k start e es at stands later rest =
    ap (λ r. shift_at e ∷ r) rest
    ∙ ap (λ b. cond (not b) (shift_at e ∷ canceled (shifts_in es) k.name start) (canceled (shifts_in es) k.name start)) (sym stands)

removed_shifts : (es : List (Place × Hours)) (k : Place) (start : Interval) → k.start ≡ span_of start → AllByRecursion IsKeyed es
    → IsDistinct clashes (shifts_in es) → AllByRecursion Lasts (shifts_in es)
    → shifts_in (remove_entry (is_at (place_cmp k)) es) ≡ canceled (shifts_in es) k.name start
removed_shifts [] k start m h d l = refl
removed_shifts (e ∷ es) k start m h d l =
    one_less (is_at (place_cmp k) e.0) k start e es refl (sym (hits k start e m h.0))
    (λ at. none_canceled (shifts_in es) k.name start
    (none_later es (shift_at e) k start (sym (hits k start e m h.0) ∙ at) l.0 (IsDistinct-head clashes (shift_at e) (shifts_in es) d) l.1))
    (removed_shifts es k start m h.1 (IsDistinct-tail clashes (shift_at e) (shifts_in es) d) l.1)

removed_each : (P : Place × Hours → Type 0) (test : Place → Bool) (es : List (Place × Hours)) → AllByRecursion P es → AllByRecursion P (remove_entry test es)
removed_each P test [] h = tt
removed_each P test (e ∷ es) h =
    elim (test e.0) as (λ b. AllByRecursion P (cond b es (e ∷ remove_entry test es))) [
      | true ↦ h.1
      | false ↦ (h.0, removed_each P test es h.1)
    ]

pub record IsCanceled (es : List (Place × Hours)) (k : Place) (start : Interval) : Type 0 where
  pub kept : IsKept (remove_entry (is_at (place_cmp k)) es)
  pub shifts : shifts_in (remove_entry (is_at (place_cmp k)) es) ≡ canceled (shifts_in es) k.name start

pub canceled_entry : (es : List (Place × Hours)) (k : Place) (start : Interval) → k.start ≡ span_of start → IsKept es → IsCanceled es k start
canceled_entry es k start m h =
    let keyed = recursion_from_All IsKeyed es h.keyed in
    let shifts =
    removed_shifts es k start m keyed (IsDistinct-from_apart clashes (shifts_in es) h.timetable.apart) (recursion_from_All Lasts (shifts_in es) h.timetable.lasting) in
    record {
      kept = record {
        keyed = All-from_recursion IsKeyed (remove_entry (is_at (place_cmp k)) es) (removed_each IsKeyed (is_at (place_cmp k)) es keyed);
        timetable = subst IsTimetable (sym shifts) (IsTimetable-canceled (shifts_in es) k.name start h.timetable);
      };
      shifts = shifts;
    }

-- the shifts of a table ascend
ascending : (es : List (Place × Hours)) (e : Place × Hours) → IsKeyed e → AllByRecursion IsKeyed es → AllByRecursion (λ y. place_cmp e.0 y ≡ Less) (keys_of es)
    → AllByRecursion (λ y. shift_cmp (shift_at e) y ≡ Less) (shifts_in es)
ascending [] e k h l = tt
ascending (f ∷ fs) e k h l = (
  ap (λ z. ordering_then (slice_cmp nat_cmp e.0.name f.0.name) (int_cmp z (span_of f.1.start))) (sym k.moment)
      ∙ ap (λ z. ordering_then (slice_cmp nat_cmp e.0.name f.0.name) (int_cmp e.0.start z)) (sym h.0.moment) ∙ l.0,
  ascending fs e k h.1 l.1,
)

sorted_each : (es : List (Place × Hours)) → AllByRecursion IsKeyed es → IsStrictlySortedBy place_cmp (keys_of es) → IsStrictlySortedBy shift_cmp (shifts_in es)
unfolding IsStrictlySortedBy
sorted_each [] h s = tt
sorted_each (e ∷ es) h s =
    (ascending es e h.0 h.1 s.0, sorted_each es h.1 s.1)

pub sorted_shifts : (es : List (Place × Hours)) → IsKept es → IsStrictlySortedBy place_cmp (keys_of es) → IsStrictlySortedBy shift_cmp (shifts_in es)
sorted_shifts es h s = sorted_each es (recursion_from_All IsKeyed es h.keyed) s

-- the range of one name
in_name : (o a b : Ordering) → is_le a ≡ true → is_lt b ≡ false → (is_le (ordering_then o a) && not (is_lt (ordering_then o b))) ≡ is_eq o
in_name Less a b p q = refl
in_name Equal a b p q = λ i. p i && not (q i)
in_name Greater a b p q = refl

pub record IsWithin (first last : ℤ) (e : Place × Hours) : Type 0 where
  pub low : first ≤ℤ e.0.start
  pub high : e.0.start ≤ℤ last

named : (name : List ℕ) (first last : ℤ) (e : Place × Hours) → IsWithin first last e
    → range_contains place_cmp (Included (record { name = name; start = first })) (Included (record { name = name; start = last })) e.0 ≡ same_name name e.0.name
named name first last e h =
    in_name (slice_cmp nat_cmp name e.0.name) (int_cmp first e.0.start) (int_cmp last e.0.start)
    (is_le_from_le first e.0.start h.low) (not_lt_from_le e.0.start last h.high)
    ∙ sym (texts_ties name e.0.name)

map_cond : (b : Bool) (e : Place × Hours) (es : List (Place × Hours)) → shifts_in (cond b (e ∷ es) es) ≡ cond b (shift_at e ∷ shifts_in es) (shifts_in es)
map_cond true e es = refl
map_cond false e es = refl

pub range_of_name : (es : List (Place × Hours)) (name : List ℕ) (first last : ℤ) → AllByRecursion (IsWithin first last) es
    → shifts_in (filter (λ e. range_contains place_cmp (Included (record { name = name; start = first })) (Included (record { name = name; start = last })) e.0) es) ≡ shifts_of (shifts_in es) name
range_of_name [] name first last h = refl
range_of_name (e ∷ es) name first last h =
    let kept = filter (λ (f : Place × Hours). range_contains place_cmp (Included (record { name = name; start = first })) (Included (record { name = name; start = last })) f.0) es in
    map_cond (range_contains place_cmp (Included (record { name = name; start = first })) (Included (record { name = name; start = last })) e.0) e kept
    ∙ ap (λ b. cond b (shift_at e ∷ shifts_in kept) (shifts_in kept)) (named name first last e h.0)
    ∙ ap (λ r. cond (same_name name e.0.name) (shift_at e ∷ r) r) (range_of_name es name first last h.1)

-- each moment lies far within what i128 holds
within : (first last : ℤ) (e : Place × Hours) → first ≤ℤ negsuc (10 ^ 30) → pos (10 ^ 30) ≤ℤ last → IsKeyed e → IsWithin first last e
within first last e low high h = record { low = omega (arith, ints); high = omega (arith, ints) }

each_within : (es : List (Place × Hours)) (first last : ℤ) → first ≤ℤ negsuc (10 ^ 30) → pos (10 ^ 30) ≤ℤ last → AllByRecursion IsKeyed es → AllByRecursion (IsWithin first last) es
each_within [] first last low high h = tt
each_within (e ∷ es) first last low high h = (within first last e low high h.0, each_within es first last low high h.1)

pub entries_of_name : (es : List (Place × Hours)) (first last : Place) (name : List ℕ) → IsKept es → first.name ≡ name → last.name ≡ name
    → first.start ≤ℤ negsuc (10 ^ 30) → pos (10 ^ 30) ≤ℤ last.start
    → shifts_in (entries_between place_cmp (Included first) (Included last) es) ≡ shifts_of (shifts_in es) name
entries_of_name es first last name h f l low high =
    ap (λ n. shifts_in (entries_between place_cmp (Included (record { name = n; start = first.start })) (Included last) es)) f
    ∙ ap (λ n. shifts_in (entries_between place_cmp (Included (record { name = name; start = first.start })) (Included (record { name = n; start = last.start })) es)) l
    ∙ range_of_name es name first.start last.start (each_within es first.start last.start low high (recursion_from_All IsKeyed es h.keyed))
