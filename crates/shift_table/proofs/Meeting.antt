-- What it means that a shift meets a time, and that two shifts clash.
use Rattle.std.proofs.Common.{◌≡◌, ℕ, ℤ, ◌<ℤ◌, ◌≤ℤ◌, ◌+ℤ◌, pos, Bool, true, false, ◌&&◌, List, int_lt, Less, refl, sym, ◌∙◌, subst, arith}
use Rattle.std.specs.Prelude.{nat_eq}
use Rattle.std.specs.Cmp.{first_so, second_so, both_ways}
use Rattle.std.specs.Cmp.Lexicographic.{pointwise, same_text, nat_list_eq_equiv}
use Rattle.std.proofs.lemmas.Int.{ints}
use Rattle.shift_table.specs.Spans.{span_of}
use Rattle.shift_table.specs.Shifts.{end_of, same_name, meets, clashes}
use Rattle.shift_table.specs.Kept.{shift_at, IsKeyed}
use Rattle.shift_table.specs.declared.shift.Shift.{Shift}
use Rattle.shift_table.specs.declared.place.Place.{Place}
use Rattle.shift_table.specs.declared.place.Hours.{Hours}
use Rattle.shift_table.proofs.Places.{place_cmp, lt_from_test, test_from_lt, le_from_test, between_one_name}

pub record Meets (name : List ℕ) (from until : ℤ) (s : Shift) : Type 0 where
  pub named : name ≡ s.name
  pub ends : from <ℤ end_of s
  pub starts : span_of s.start <ℤ until

pub Meets-from_test : (name : List ℕ) (from until : ℤ) (s : Shift) → meets name from until s ≡ true → Meets name from until s
Meets-from_test name from until s e =
    let named = first_so (same_name name s.name) (int_lt from (end_of s) && int_lt (span_of s.start) until) e in
    let times = second_so (same_name name s.name) (int_lt from (end_of s) && int_lt (span_of s.start) until) e in
    record {
      named = same_text name s.name (sym named);
      ends = lt_from_test from (end_of s) (first_so (int_lt from (end_of s)) (int_lt (span_of s.start) until) times);
      starts = lt_from_test (span_of s.start) until (second_so (int_lt from (end_of s)) (int_lt (span_of s.start) until) times);
    }

pub same_name-refl : (xs ys : List ℕ) → xs ≡ ys → same_name xs ys ≡ true
same_name-refl xs ys e = subst (λ zs. pointwise nat_eq xs zs ≡ true) e (nat_list_eq_equiv.refl xs)

pub test_from_Meets : (name : List ℕ) (from until : ℤ) (s : Shift) → Meets name from until s → meets name from until s ≡ true
test_from_Meets name from until s h =
    let named = same_name-refl name s.name h.named in
    let ends = test_from_lt from (end_of s) h.ends in
    let starts = test_from_lt (span_of s.start) until h.starts in
    λ i. named i && (ends i && starts i)

clashes_back : (a b : Shift) → clashes a b ≡ true → clashes b a ≡ true
clashes_back a b e =
    let h = Meets-from_test a.name (span_of a.start) (end_of a) b e in
    test_from_Meets b.name (span_of b.start) (end_of b) a (record { named = sym h.named; ends = h.starts; starts = h.ends })

pub clashes_flip : (a b : Shift) → clashes a b ≡ clashes b a
clashes_flip a b = both_ways (clashes a b) (clashes b a) (clashes_back a b) (clashes_back b a)

true_or_false : (b : Bool) → b ≡ true → b ≡ false → ⊥
true_or_false b t f = cc

-- two shifts of one place clash
pub same_place_clashes : (a b : Shift) → a.name ≡ b.name → span_of a.start ≡ span_of b.start → pos 0 <ℤ span_of a.length → pos 0 <ℤ span_of b.length → clashes a b ≡ true
same_place_clashes a b name start lasts lasts' =
    test_from_Meets a.name (span_of a.start) (end_of a) b (record { named = name; ends = omega (arith, ints); starts = omega (arith, ints) })

ends_before : (x y : ℤ) → (x <ℤ y → ⊥) → y ≤ℤ x
ends_before x y never = le_from_test y x (by (int_lt x y) (λ e. never (lt_from_test x y e)))
  where
    by : (b : Bool) → (b ≡ true → ⊥) → b ≡ false
    by true f = absurd (f refl)
    by false f = refl

-- b starts before e, and e before the end of a time that b meets. They don't clash, so e meets the time too
pub meets_after : (until : Place) (from : ℤ) (b e : Place × Hours) → IsKeyed b → IsKeyed e → pos 0 <ℤ span_of e.1.length
    → place_cmp b.0 e.0 ≡ Less → place_cmp e.0 until ≡ Less → clashes (shift_at b) (shift_at e) ≡ false
    → meets until.name from until.start (shift_at b) ≡ true → meets until.name from until.start (shift_at e) ≡ true
meets_after until from b e kb ke lasts l m apart hit =
    let h = Meets-from_test until.name from until.start (shift_at b) hit in
    let o = between_one_name b.0 e.0 until l m h.named in
    let starts_b : span_of b.1.start <ℤ span_of e.1.start = subst (λ z. z <ℤ span_of e.1.start) kb.moment (subst (λ z. b.0.start <ℤ z) ke.moment o.after) in
    let starts_e : span_of e.1.start <ℤ until.start = subst (λ z. z <ℤ until.start) ke.moment o.before in
    let ends = h.ends in
    let over : end_of (shift_at b) ≤ℤ span_of e.1.start =
    ends_before (span_of e.1.start) (end_of (shift_at b))
    (λ early. true_or_false (clashes (shift_at b) (shift_at e))
    (test_from_Meets b.0.name (span_of b.1.start) (end_of (shift_at b)) (shift_at e) (record { named = o.name; ends = later (span_of b.1.start) (span_of e.1.start) (span_of e.1.length) starts_b lasts; starts = early })) apart)
    in
    test_from_Meets until.name from until.start (shift_at e)
    (record { named = h.named ∙ o.name; ends = reached from (end_of (shift_at b)) (span_of e.1.start) (span_of e.1.length) ends over lasts; starts = starts_e })
  where
    later : (x y z : ℤ) → x <ℤ y → pos 0 <ℤ z → x <ℤ (y +ℤ z)
    later x y z h k = omega (arith, ints)

    reached : (w x y z : ℤ) → w <ℤ x → x ≤ℤ y → pos 0 <ℤ z → w <ℤ (y +ℤ z)
    reached w x y z h k l = omega (arith, ints)
