-- What a look-up at a place finds.
use Rattle.std.proofs.Common.{◌≡◌, ℕ, Bool, true, false, cond, ◌&&◌, ◌||◌, List, [], ◌∷◌, Option, Some, None, int_eq, refl, sym, ap, ◌∙◌}
use Rattle.std.specs.Option.{option_map}
use Rattle.std.specs.BTreeMap.{is_at}
use Rattle.std.specs.Map.{lookup}
use Rattle.std.specs.List.{AllByRecursion, IsDistinct, list_any}
use Rattle.std.proofs.lemmas.List.Elements.{recursion_from_All}
use Rattle.std.proofs.lemmas.Map.Keys.{IsDistinct-head, IsDistinct-tail, IsDistinct-from_apart}
use Rattle.pg_interval.specs.declared.pg_interval.Interval.{Interval}
use Rattle.shift_table.specs.Spans.{span_of}
use Rattle.shift_table.specs.Shifts.{clashes, stands_at, is_shift, found}
use Rattle.shift_table.specs.Kept.{shift_at, shifts_in, IsKeyed, IsKept}
use Rattle.shift_table.specs.declared.shift.Shift.{Shift}
use Rattle.shift_table.specs.declared.place.Place.{Place}
use Rattle.shift_table.specs.declared.place.Hours.{Hours}
use Rattle.shift_table.proofs.Places.{place_cmp, place_exact}
use Rattle.shift_table.proofs.Timetables.{Lasts}
use Rattle.shift_table.proofs.Removed.{hits, at_is, none_later}

found_here : (b : Bool) (k : Place) (start : Interval) (e : Place × Hours) (es : List (Place × Hours)) → is_at (place_cmp k) e.0 ≡ b
    → stands_at k.name start (shift_at e) ≡ b
    → option_map (λ v. shift_at (k, v)) (lookup (is_at (place_cmp k)) es) ≡ found (shifts_in es) k.name start
    → option_map (λ v. shift_at (k, v)) (cond b (Some e.1) (lookup (is_at (place_cmp k)) es))
    ≡ cond (stands_at k.name start (shift_at e)) (Some (shift_at e)) (found (shifts_in es) k.name start)
found_here true k start e es at stands rest =
    ap (λ (p : Place). Some (shift_at (p, e.1))) (place_exact k e.0 (at_is (place_cmp k e.0) at))
    ∙ ap (λ b. cond b (Some (shift_at e)) (found (shifts_in es) k.name start)) (sym stands)
found_here false k start e es at stands rest =
    rest ∙ ap (λ b. cond b (Some (shift_at e)) (found (shifts_in es) k.name start)) (sym stands)

found_each : (es : List (Place × Hours)) (k : Place) (start : Interval) → k.start ≡ span_of start → AllByRecursion IsKeyed es
    → option_map (λ v. shift_at (k, v)) (lookup (is_at (place_cmp k)) es) ≡ found (shifts_in es) k.name start
found_each [] k start m h = refl
found_each (e ∷ es) k start m h =
    found_here (is_at (place_cmp k) e.0) k start e es refl (sym (hits k start e m h.0)) (found_each es k start m h.1)

-- a look-up at a place finds the hours of the shift that stands there
pub found_entry : (es : List (Place × Hours)) (k : Place) (name : List ℕ) (start : Interval) → k ≡ record { name = name; start = span_of start } → IsKept es
    → option_map (λ v. shift_at (k, v)) (lookup (is_at (place_cmp k)) es) ≡ found (shifts_in es) name start
found_entry es k name start is h =
    found_each es k start (ap (λ (p : Place). p.start) is) (recursion_from_All IsKeyed es h.keyed) ∙ ap (λ (p : Place). found (shifts_in es) p.name start) is

none_is_shift : (t : List Shift) (s : Shift) → AllByRecursion (λ y. stands_at s.name s.start y ≡ false) t → list_any (is_shift s) t ≡ false
none_is_shift [] s n = refl
none_is_shift (x ∷ xs) s n =
    ap (λ b. (b && int_eq (span_of s.length) (span_of x.length)) || list_any (is_shift s) xs) n.0 ∙ none_is_shift xs s n.1

-- whether hours that were looked up have this length
abbrev pub lasts_for : Interval → Option Hours → Bool
lasts_for length None = false
lasts_for length (Some v) = int_eq (span_of length) (span_of v.length)

-- the place of a shift
abbrev place_of_shift : Shift → Place
place_of_shift s = record { name = s.name; start = span_of s.start }

or_false : (b : Bool) → b ≡ (b || false)
or_false true = refl
or_false false = refl

known_here : (b : Bool) (s : Shift) (e : Place × Hours) (es : List (Place × Hours)) → stands_at s.name s.start (shift_at e) ≡ b
    → (b ≡ true → list_any (is_shift s) (shifts_in es) ≡ false)
    → lasts_for s.length (lookup (is_at (place_cmp (place_of_shift s))) es) ≡ list_any (is_shift s) (shifts_in es)
    → lasts_for s.length (cond b (Some e.1) (lookup (is_at (place_cmp (place_of_shift s))) es)) ≡ (is_shift s (shift_at e) || list_any (is_shift s) (shifts_in es))
known_here true s e es stands later rest =
    or_false (int_eq (span_of s.length) (span_of e.1.length))
    ∙ ap (λ r. int_eq (span_of s.length) (span_of e.1.length) || r) (sym (later refl))
    ∙ ap (λ b. (b && int_eq (span_of s.length) (span_of e.1.length)) || list_any (is_shift s) (shifts_in es)) (sym stands)
known_here false s e es stands later rest =
    rest ∙ ap (λ b. (b && int_eq (span_of s.length) (span_of e.1.length)) || list_any (is_shift s) (shifts_in es)) (sym stands)

known_each : (es : List (Place × Hours)) (s : Shift) → AllByRecursion IsKeyed es → IsDistinct clashes (shifts_in es) → AllByRecursion Lasts (shifts_in es)
    → lasts_for s.length (lookup (is_at (place_cmp (place_of_shift s))) es) ≡ list_any (is_shift s) (shifts_in es)
known_each [] s h d l = refl
known_each (e ∷ es) s h d l =
    let stands = sym (hits (place_of_shift s) s.start e refl h.0) in
    known_here (is_at (place_cmp (place_of_shift s)) e.0) s e es stands
    (λ at. none_is_shift (shifts_in es) s
    (none_later es (shift_at e) (place_of_shift s) s.start (stands ∙ at) l.0 (IsDistinct-head clashes (shift_at e) (shifts_in es) d) l.1))
    (known_each es s h.1 (IsDistinct-tail clashes (shift_at e) (shifts_in es) d) l.1)

-- a shift is one of the table where a look-up at its place finds hours of its length
pub known_entry : (es : List (Place × Hours)) (k : Place) (s : Shift) → k ≡ place_of_shift s → IsKept es
    → lasts_for s.length (lookup (is_at (place_cmp k)) es) ≡ list_any (is_shift s) (shifts_in es)
known_entry es k s is h =
    ap (λ (p : Place). lasts_for s.length (lookup (is_at (place_cmp p)) es)) is
    ∙ known_each es s (recursion_from_All IsKeyed es h.keyed) (IsDistinct-from_apart clashes (shifts_in es) h.timetable.apart)
    (recursion_from_All Lasts (shifts_in es) h.timetable.lasting)
