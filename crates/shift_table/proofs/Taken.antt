-- Whether a shift of a name meets a time is decided by the last one that starts before the end of it.
use Rattle.std.proofs.Common.{◌≡◌, ◌⊎◌, ℕ, ℤ, ◌<ℤ◌, ◌<◌, pos, Bool, true, false, List, length, get_or, Option, Some, None, IsSome, is_some, is_lt, cond, ◌&&◌, int_lt, Less, refl, sym, ap, ◌∙◌, subst, inl, inr, lt_trans}
use Rattle.std.specs.BTreeMap.{BTreeMap, get}
use Rattle.std.specs.Map.{keys_of}
use Rattle.std.specs.List.{Contains, list_any}
use Rattle.std.specs.List.Sorted.{IsStrictlySortedBy}
use Rattle.std.specs.Cmp.{both_ways}
use Rattle.std.specs.Cmp.Lexicographic.{same_text}
use Rattle.std.proofs.lemmas.Bool.{cases_order}
use Rattle.std.proofs.lemmas.List.{get_or-map, length-map}
use Rattle.std.proofs.lemmas.List.Folds.{Any-from_list_any, list_any_at}
use Rattle.std.proofs.lemmas.Map.Keys.{Less-from_sorted}
use Rattle.std.proofs.lemmas.Map.Views.{All-found, btree_map_get_iff}
use Rattle.shift_table.specs.Spans.{span_of}
use Rattle.pg_interval.specs.declared.pg_interval.Interval.{Interval}
use Rattle.shift_table.specs.Shifts.{end_of, same_name, meets, clashes, IsTimetable}
use Rattle.shift_table.specs.Kept.{shift_at, shifts_in, IsKeyed, IsKept}
use Rattle.shift_table.specs.declared.shift.Shift.{Shift}
use Rattle.shift_table.specs.declared.place.Place.{Place}
use Rattle.shift_table.specs.declared.place.Hours.{Hours}
use Rattle.shift_table.proofs.Places.{place_cmp, place_total, place_exact, less_from_parts, starts_below, test_from_lt}
use Rattle.shift_table.proofs.Meeting.{Meets-from_test, meets_after}

-- an entry of the list at this index, with a default, whose shift passes the test
record Hit (es : List (Place × Hours)) (test : Shift → Bool) (d : Place × Hours) : Type 0 where
  index : ℕ
  in_range : index < length es
  passes : test (shift_at (get_or es index d)) ≡ true

hit_from_any : (es : List (Place × Hours)) (test : Shift → Bool) (d : Place × Hours) → list_any test (shifts_in es) ≡ true → Hit es test d
hit_from_any es test d h =
    let a = Any-from_list_any test (shifts_in es) h in
    let in_range : a.0 < length es = subst (λ n. a.0 < n) (length-map es shift_at) a.2 in
    record {
      index = a.0;
      in_range = in_range;
      passes = subst (λ s. test s ≡ true) (sym a.3 ∙ get_or-map shift_at es a.0 d a.1 in_range) a.4;
    }

not_both : (b : Bool) → b ≡ true → b ≡ false → ⊥
not_both b t f = cc

and_true : (b : Bool) → b ≡ (b && true)
and_true true = refl
and_true false = refl

-- the keys at two indexes
less_places : (es : List (Place × Hours)) (i j : ℕ) (d : Place × Hours) → IsStrictlySortedBy place_cmp (keys_of es) → i < j → j < length es
    → place_cmp (get_or es i d).0 (get_or es j d).0 ≡ Less
less_places es i j d sorted less in_range =
    let key = λ (e : Place × Hours). e.0 in
    let l = Less-from_sorted place_cmp (keys_of es) i j d.0 sorted less (subst (λ n. j < n) (sym (length-map es key)) in_range) in
    subst (λ k. place_cmp (get_or es i d).0 k ≡ Less) (get_or-map key es j d d.0 in_range)
    (subst (λ k. place_cmp k (get_or (keys_of es) j d.0) ≡ Less) (get_or-map key es i d d.0 (lt_trans less in_range)) l)

-- the shifts at two indexes don't clash
apart_at : (es : List (Place × Hours)) (i j : ℕ) (d : Place × Hours) → IsTimetable (shifts_in es) → i < j → j < length es
    → clashes (shift_at (get_or es i d)) (shift_at (get_or es j d)) ≡ false
apart_at es i j d h less in_range =
    let l = h.apart i j (shift_at d) less (subst (λ n. j < n) (sym (length-map es shift_at)) in_range) in
    subst (λ s. clashes (shift_at (get_or es i d)) s ≡ false) (get_or-map shift_at es j d (shift_at d) in_range)
    (subst (λ s. clashes s (get_or (shifts_in es) j (shift_at d)) ≡ false) (get_or-map shift_at es i d (shift_at d) (lt_trans less in_range)) l)

lasts_at : (es : List (Place × Hours)) (j : ℕ) (d : Place × Hours) → IsTimetable (shifts_in es) → j < length es → pos 0 <ℤ span_of (get_or es j d).1.length
lasts_at es j d h in_range =
    subst (λ (s : Shift). pos 0 <ℤ span_of s.length) (get_or-map shift_at es j d (shift_at d) in_range)
    (h.lasting j (shift_at d) (subst (λ n. j < n) (sym (length-map es shift_at)) in_range))

module _ (m : BTreeMap Place Hours) (sorted : IsStrictlySortedBy place_cmp (keys_of m.entries)) (kept : IsKept m.entries) (until : Place) (from : ℤ) where
  -- a shift of the table that meets the time starts before the end of it
  starts_before : (e : Place × Hours) → IsKeyed e → meets until.name from until.start (shift_at e) ≡ true → place_cmp e.0 until ≡ Less
  starts_before e key hit =
      let h = Meets-from_test until.name from until.start (shift_at e) hit in
      less_from_parts e.0 until (sym h.named) (subst (λ z. z <ℤ until.start) (sym key.moment) h.starts)

  by_order : (e : Place × Hours) (place : Contains m.entries e) → place_cmp e.0 until ≡ Less
      → ((q : Place) → place_cmp q until ≡ Less → IsSome (get place_cmp m q) → is_lt (place_cmp e.0 q) ≡ false)
      → (h : Hit m.entries (meets until.name from until.start) e)
      → (h.index ≡ place.0) ⊎ ((h.index < place.0) ⊎ (place.0 < h.index)) → meets until.name from until.start (shift_at e) ≡ true
  by_order e place before last h (inl same) =
      subst (λ f. meets until.name from until.start (shift_at f) ≡ true) (ap (λ i. get_or m.entries i e) same ∙ place.2) h.passes
  by_order e place before last h (inr (inl less)) =
      let b = get_or m.entries h.index e in
      let f = get_or m.entries place.0 e in
      let moved = λ (g : Place × Hours). meets until.name from until.start (shift_at g) ≡ true in
      subst moved place.2
      (meets_after until from b f (kept.keyed h.index e h.in_range) (kept.keyed place.0 e place.1) (lasts_at m.entries place.0 e kept.timetable place.1)
      (less_places m.entries h.index place.0 e sorted less place.1) (subst (λ g. place_cmp g.0 until ≡ Less) (sym place.2) before)
      (apart_at m.entries h.index place.0 e kept.timetable less place.1) h.passes)
  by_order e place before last h (inr (inr more)) =
      let b = get_or m.entries h.index e in
      let above : place_cmp e.0 b.0 ≡ Less = subst (λ g. place_cmp g.0 b.0 ≡ Less) place.2 (less_places m.entries place.0 h.index e sorted more h.in_range) in
      let stands : get place_cmp m b.0 ≡ Some b.1 = All-found place_total m sorted h.index e h.in_range in
      absurd (not_both (is_lt (place_cmp e.0 b.0)) (ap is_lt above)
      (last b.0 (starts_before b (kept.keyed h.index e h.in_range) h.passes) (ap is_some stands)))

  pub taken_last : (e : Place × Hours) → place_cmp e.0 until ≡ Less → get place_cmp m e.0 ≡ Some e.1
      → ((q : Place) → place_cmp q until ≡ Less → IsSome (get place_cmp m q) → is_lt (place_cmp e.0 q) ≡ false)
      → list_any (meets until.name from until.start) (shifts_in m.entries) ≡ meets until.name from until.start (shift_at e)
  taken_last e before stands last =
      let test = meets until.name from until.start in
      let place : Contains m.entries e = (btree_map_get_iff place_total place_exact m sorted e.0 e.1).0 stands in
      both_ways (list_any test (shifts_in m.entries)) (test (shift_at e))
      (λ any. let h = hit_from_any m.entries test e any in by_order e place before last h (cases_order h.index place.0))
      (λ hit. list_any_at test (shifts_in m.entries) place.0 (shift_at e) (subst (λ n. place.0 < n) (sym (length-map m.entries shift_at)) place.1)
      (subst (λ s. test s ≡ true) (sym (get_or-map shift_at m.entries place.0 e (shift_at e) place.1 ∙ ap shift_at place.2)) hit))

  -- of the last one only the name and the end are tested
  by_name : (e : Place × Hours) (b : Bool) → place_cmp e.0 until ≡ Less → IsKeyed e → same_name until.name e.0.name ≡ b
      → cond b (int_lt from (end_of (shift_at e))) false ≡ meets until.name from until.start (shift_at e)
  by_name e true before key same =
      let less = starts_below e.0 until before (sym (same_text until.name e.0.name (sym same))) in
      let starts : int_lt (span_of e.1.start) until.start ≡ true = test_from_lt (span_of e.1.start) until.start (subst (λ z. z <ℤ until.start) key.moment less) in
      and_true (int_lt from (end_of (shift_at e)))
      ∙ ap (λ b. int_lt from (end_of (shift_at e)) && b) (sym starts)
      ∙ ap (λ b. b && (int_lt from (end_of (shift_at e)) && int_lt (span_of e.1.start) until.start)) (sym same)
  by_name e false before key same =
      ap (λ b. b && (int_lt from (end_of (shift_at e)) && int_lt (span_of e.1.start) until.start)) (sym same)

  pub decided : (e : Place × Hours) (b : Bool) → place_cmp e.0 until ≡ Less → get place_cmp m e.0 ≡ Some e.1
      → ((q : Place) → place_cmp q until ≡ Less → IsSome (get place_cmp m q) → is_lt (place_cmp e.0 q) ≡ false)
      → same_name until.name e.0.name ≡ b
      → cond b (int_lt from (end_of (shift_at e))) false ≡ list_any (meets until.name from until.start) (shifts_in m.entries)
  decided e b before stands last same =
      let place : Contains m.entries e = (btree_map_get_iff place_total place_exact m sorted e.0 e.1).0 stands in
      by_name e b before (subst IsKeyed place.2 (kept.keyed place.0 e place.1)) same ∙ sym (taken_last e before stands last)

  some_none : (o : Option Hours) (v : Hours) → o ≡ Some v → o ≡ None → ⊥
  some_none o v s n = cc

  not_true : (b : Bool) → (b ≡ true → ⊥) → b ≡ false
  not_true true f = absurd (f refl)
  not_true false f = refl

  pub taken_none : ((q : Place) → place_cmp q until ≡ Less → get place_cmp m q ≡ None) → list_any (meets until.name from until.start) (shifts_in m.entries) ≡ false
  taken_none none =
      let zero : Interval = record { months = pos 0; days = pos 0; microseconds = pos 0 } in
      let d : Place × Hours = (until, record { start = zero; length = zero }) in
      let test = meets until.name from until.start in
      not_true (list_any test (shifts_in m.entries))
      (λ any. let h = hit_from_any m.entries test d any in
      let b = get_or m.entries h.index d in
      some_none (get place_cmp m b.0) b.1 (All-found place_total m sorted h.index d h.in_range)
      (none b.0 (starts_before b (kept.keyed h.index d h.in_range) h.passes)))
