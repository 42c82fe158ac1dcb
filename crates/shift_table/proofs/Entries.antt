-- One more entry in a table.
use Rattle.std.proofs.Common.{◌≡◌, ◌≢◌, Bool, true, false, List, [], ◌∷◌, is_lt, if◌then◌else◌, nat_cmp, int_cmp, Ordering, Less, Equal, Greater, refl, sym, ap, ◌∙◌}
use Rattle.std.specs.Ordering.{ordering_then, match_ordering}
use Rattle.std.specs.Cmp.Lexicographic.{slice_cmp}
use Rattle.std.specs.BTreeMap.{insert_entry}
use Rattle.std.specs.List.{AllByRecursion, list_any}
use Rattle.std.proofs.lemmas.List.Elements.{All-from_recursion, recursion_from_All}
use Rattle.shift_table.specs.Spans.{span_of}
use Rattle.shift_table.specs.Shifts.{clashes, shift_cmp, booked, IsTimetable}
use Rattle.shift_table.specs.Kept.{shift_at, shifts_in, IsKeyed, IsKept}
use Rattle.shift_table.specs.declared.place.Place.{Place}
use Rattle.shift_table.specs.declared.place.Hours.{Hours}
use Rattle.shift_table.proofs.Places.{place_cmp, place_exact}
use Rattle.shift_table.proofs.Meeting.{same_place_clashes}
use Rattle.shift_table.proofs.Timetables.{Lasts, none_from_any, IsTimetable-booked}
use Rattle.std.proofs.Common.{subst}

-- no entry stands at the place
abbrev pub IsVacant : List (Place × Hours) → Place → Type 0
IsVacant es k = AllByRecursion (λ (e : Place × Hours). place_cmp k e.0 ≢ Equal) es

true_or_false : (b : Bool) → b ≡ true → b ≡ false → ⊥
true_or_false b t f = cc

vacant : (es : List (Place × Hours)) (k : Place) (v : Hours) → IsKeyed (k, v) → Lasts (shift_at (k, v)) → AllByRecursion IsKeyed es
    → AllByRecursion Lasts (shifts_in es) → AllByRecursion (λ y. clashes (shift_at (k, v)) y ≡ false) (shifts_in es) → IsVacant es k
vacant [] k v key lasts h l n = tt
vacant (e ∷ es) k v key lasts h l n = (
  λ same. true_or_false (clashes (shift_at (k, v)) (shift_at e))
      (same_place_clashes (shift_at (k, v)) (shift_at e) (ap (λ (p : Place). p.name) (place_exact k e.0 same))
      (sym key.moment ∙ ap (λ (p : Place). p.start) (place_exact k e.0 same) ∙ h.0.moment) lasts l.0) n.0,
  vacant es k v key lasts h.1 l.1 n.1,
)

inserted_each : (P : Place × Hours → Type 0) (es : List (Place × Hours)) (k : Place) (v : Hours) → AllByRecursion P es → P (k, v) → IsVacant es k → AllByRecursion P (insert_entry place_cmp es k v)
inserted_each P [] k v h p n = (p, tt)
inserted_each P (e ∷ es) k v h p n =
    let go = elim (place_cmp k e.0) as (λ o. o ≢ Equal → AllByRecursion P (match_ordering o ((k, v) ∷ e ∷ es) ((e.0, v) ∷ es) (e ∷ insert_entry place_cmp es k v))) [
      | Less ↦ λ _. (p, h)
      | Equal ↦ λ other. absurd (other refl)
      | Greater ↦ λ _. (h.0, inserted_each P es k v h.1 p n.1)
    ] in
    go n.0

-- the two orders put the shift in one place
one_step : (o p : Ordering) (e : Place × Hours) (es : List (Place × Hours)) (k : Place) (v : Hours) → shifts_in (insert_entry place_cmp es k v) ≡ booked (shifts_in es) (shift_at (k, v))
    → p ≡ o → o ≢ Equal
    → shifts_in (match_ordering o ((k, v) ∷ e ∷ es) ((e.0, v) ∷ es) (e ∷ insert_entry place_cmp es k v))
    ≡ (if is_lt p then shift_at (k, v) ∷ shift_at e ∷ shifts_in es else shift_at e ∷ booked (shifts_in es) (shift_at (k, v)))
one_step Less p e es k v rest is other = ap (λ q. if is_lt q then shift_at (k, v) ∷ shift_at e ∷ shifts_in es else shift_at e ∷ booked (shifts_in es) (shift_at (k, v))) (sym is)
one_step Equal p e es k v rest is other = absurd (other refl)
one_step Greater p e es k v rest is other =
    ap (λ r. shift_at e ∷ r) rest
    ∙ ap (λ q. if is_lt q then shift_at (k, v) ∷ shift_at e ∷ shifts_in es else shift_at e ∷ booked (shifts_in es) (shift_at (k, v))) (sym is)

inserted_shifts : (es : List (Place × Hours)) (k : Place) (v : Hours) → IsKeyed (k, v) → AllByRecursion IsKeyed es → IsVacant es k → shifts_in (insert_entry place_cmp es k v) ≡ booked (shifts_in es) (shift_at (k, v))
inserted_shifts [] k v key h n = refl
inserted_shifts (e ∷ es) k v key h n =
    let same : shift_cmp (shift_at (k, v)) (shift_at e) ≡ place_cmp k e.0 =
    ap (λ z. ordering_then (slice_cmp nat_cmp k.name e.0.name) (int_cmp z (span_of e.1.start))) (sym key.moment)
    ∙ ap (λ z. ordering_then (slice_cmp nat_cmp k.name e.0.name) (int_cmp k.start z)) (sym h.0.moment)
    in
    one_step (place_cmp k e.0) (shift_cmp (shift_at (k, v)) (shift_at e)) e es k v (inserted_shifts es k v key h.1 n.1) same n.0

pub record IsBooked (es : List (Place × Hours)) (k : Place) (v : Hours) : Type 0 where
  pub kept : IsKept (insert_entry place_cmp es k v)
  pub shifts : shifts_in (insert_entry place_cmp es k v) ≡ booked (shifts_in es) (shift_at (k, v))

pub booked_entry : (es : List (Place × Hours)) (k : Place) (v : Hours) → IsKept es → IsKeyed (k, v) → Lasts (shift_at (k, v)) → list_any (clashes (shift_at (k, v))) (shifts_in es) ≡ false → IsBooked es k v
booked_entry es k v h key lasts free =
    let keyed = recursion_from_All IsKeyed es h.keyed in
    let free_place = vacant es k v key lasts keyed (recursion_from_All Lasts (shifts_in es) h.timetable.lasting) (none_from_any (clashes (shift_at (k, v))) (shifts_in es) free) in
    let shifts = inserted_shifts es k v key keyed free_place in
    record {
      kept = record {
        keyed = All-from_recursion IsKeyed (insert_entry place_cmp es k v) (inserted_each IsKeyed es k v keyed key free_place);
        timetable = subst IsTimetable (sym shifts) (IsTimetable-booked (shifts_in es) (shift_at (k, v)) h.timetable lasts free);
      };
      shifts = shifts;
    }
