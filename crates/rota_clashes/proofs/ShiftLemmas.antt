-- Shifts that aren't empty, and which of them clash.
use Rattle.std.proofs.Common.{◌≡◌, ℕ, ◌+◌, ◌-◌, ◌*◌, ◌<◌, ◌≤◌, ◌⊎◌, inl, inr, List, [], ◌∷◌, ◌++◌, length, get_or, refl, sym, ap, subst, ◌∙◌, arith, ℤ, pos, negsuc, ◌+ℤ◌, ◌≤ℤ◌, unsigned_abs, Bool, true, false, nat_lt, take, drop}
use Rattle.std.specs.List.{All, Contains}
use Rattle.std.specs.List.Sorted.{IsPartitionPoint}
use Rattle.std.proofs.lemmas.Bool.{cases_lt}
use Rattle.std.proofs.lemmas.List.{get_or-take, get_or-drop, length-take, length-drop}
use Rattle.std.proofs.lemmas.List.Elements.{All-nil, All-push, Contains-append_left, Contains-push}
use Rattle.jiff_core.proofs.SignedLemmas.{signed_arith}
use Rattle.rota_moments.specs.declared.moment.Moment.{Moment}
use Rattle.rota_moments.specs.Moments.{IsMoment, moment, instant}
use Rattle.rota_clashes.specs.declared.shifts.Shift.{Shift}
use Rattle.rota_clashes.specs.Clashes.{instant_at, IsOn, Clash}
use Rattle.rota_clashes.specs.Shifts.{micros_up_to, micros_at, IsShift, AreShifts, AreShiftsBefore, HasShift, AreBetween, IsBegun, IsRunning}
use Rattle.rota_clashes.proofs.GainLemmas.{nothing_in, all_contains}

-- ---- all shifts of a rota

same_shift : (a b : Shift) → a.start ≡ b.start → a.stop ≡ b.stop → a.place ≡ b.place → a ≡ b
same_shift a b start stop place =
    let shift : ℕ → ℕ → ℕ → Shift = λ x y z. record { start = x; stop = y; place = z } in
    ap (λ x. shift x a.stop a.place) start ∙ ap (λ y. shift b.start y a.place) stop ∙ ap (λ z. shift b.start b.stop z) place

-- a place has one shift
one_shift : (moments : List Moment) (a b : Shift) → IsShift moments a → IsShift moments b → a.place ≡ b.place → a ≡ b
one_shift moments a b ha hb e =
    same_shift a b (ha.start ∙ ap (λ k. micros_at moments k) e ∙ sym hb.start) (ha.stop ∙ ap (λ k. micros_at moments (k + 1)) e
    ∙ sym hb.stop) e

pub shifts_none : (moments : List Moment) → AreShiftsBefore 0 moments []
shifts_none moments = record { each = All-nil (IsShift moments); all = λ s h lt. absurd (omega arith) }

pub shifts_more : (moments : List Moment) (place : ℕ) (old new : List Shift) → AreShiftsBefore place moments old
    → HasShift place moments old new
    → AreShiftsBefore (place + 1) moments new
shifts_more moments place old new before (inl (same, empty)) = record {
  each = rw same before.each;
  all = λ s h lt. rw same (elim (cases_lt s.place place) [
    | inl earlier ↦ before.all s h earlier
    | inr here ↦
        let e : s.place ≡ place = omega arith in
        absurd (omega (arith, h.lasts, rw e at h.start, rw e at h.stop, empty))
  ]);
}
shifts_more moments place old new before (inr (shift, is, at_place, grown)) = record {
  each = rw grown (All-push (IsShift moments) old shift before.each is);
  all = λ s h lt. rw grown (elim (cases_lt s.place place) [
    | inl earlier ↦ Contains-append_left old (shift ∷ []) s (before.all s h earlier)
    | inr here ↦
        let e : shift.place ≡ s.place = omega arith in
        subst (λ x. Contains (old ++ shift ∷ []) x) (one_shift moments shift s is h e) (Contains-push old shift)
  ]);
}

pub shifts_all : (moments : List Moment) (place : ℕ) (shifts : List Shift) → length moments ≤ place + 1
    → AreShiftsBefore place moments shifts → AreShifts moments shifts
shifts_all moments place shifts far before = record {
  each = before.each;
  all = λ s h. before.all s h (omega (arith, h.place));
}

-- ---- instants

abs_whole : (z : ℤ) → pos 0 ≤ℤ z → pos (unsigned_abs z) ≡ z
abs_whole (pos n) h = refl
abs_whole (negsuc n) h = absurd (omega (arith, signed_arith))

micros-instant : (m : Moment) → IsMoment m → pos (micros_up_to m) ≡ instant m +ℤ pos 62135596800000000
micros-instant m h =
    let whole = abs_whole (m.day +ℤ pos 719162) (omega (arith, signed_arith, h.0)) in
    omega (arith, signed_arith)

micros-at : (moments : List Moment) (k : ℕ) → All IsMoment moments → k < length moments
    → pos (micros_at moments k) ≡ instant_at moments k +ℤ pos 62135596800000000
micros-at moments k valid h = micros-instant _ (valid k (moment (pos 0) 0) h)

-- ---- clashes

-- shifts of which each begins before the other ends
met : (first second : List Moment) (a b : Shift) → All IsMoment first → All IsMoment second → IsShift first a → IsShift second b
    → a.start < b.stop → b.start < a.stop
    → Clash first second a.place b.place
met first second a b vf vs ha hb before after =
    let pa = ha.place in
    let pb = hb.place in
    let a0 = micros-at first a.place vf (omega arith) in
    let a1 = micros-at first (a.place + 1) vf pa in
    let b0 = micros-at second b.place vs (omega arith) in
    let b1 = micros-at second (b.place + 1) vs pb in
    let sa = ha.start in
    let ea = ha.stop in
    let sb = hb.start in
    let eb = hb.stop in
    let la = ha.lasts in
    let lb = hb.lasts in
    elim (cases_lt a.start b.start) [
      | inl first_begins ↦ (
        instant_at second b.place,
        (pa, omega (arith, signed_arith), omega (arith, signed_arith)),
        (pb, omega (arith, signed_arith), omega (arith, signed_arith)),
      )
      | inr second_begins ↦ (
        instant_at first a.place,
        (pa, omega (arith, signed_arith), omega (arith, signed_arith)),
        (pb, omega (arith, signed_arith), omega (arith, signed_arith)),
      )
    ]

pub begun-clash : (first second : List Moment) (fs ss : List Shift) → All IsMoment first → All IsMoment second → AreShifts first fs
    → AreShifts second ss
    → (p : ℕ × ℕ) → IsBegun fs ss p → Clash first second p.0 p.1
begun-clash first second fs ss vf vs hf hs p (a, (b, ina, inb, so, e)) =
    let ha = all_contains (IsShift first) fs a hf.each ina in
    let hb = all_contains (IsShift second) ss b hs.each inb in
    let lb = hb.lasts in
    subst (λ (q : ℕ × ℕ). Clash first second q.0 q.1) (sym e) (met first second a b vf vs ha hb (omega (arith, so, lb)) so.1)

pub running-clash : (first second : List Moment) (fs ss : List Shift) → All IsMoment first → All IsMoment second → AreShifts first fs
    → AreShifts second ss
    → (p : ℕ × ℕ) → IsRunning fs ss p → Clash first second p.0 p.1
running-clash first second fs ss vf vs hf hs p (b, (a, inb, ina, so, e)) =
    let ha = all_contains (IsShift first) fs a hf.each ina in
    let hb = all_contains (IsShift second) ss b hs.each inb in
    let la = ha.lasts in
    subst (λ (q : ℕ × ℕ). Clash first second q.0 q.1) (sym e) (met first second a b vf vs ha hb so.1 (omega (arith, so, la)))

abbrev shift_at : List Moment → ℕ → Shift
shift_at moments i = record { start = micros_at moments i; stop = micros_at moments (i + 1); place = i }

on_shift : (moments : List Moment) (i : ℕ) (t : ℤ) → All IsMoment moments → IsOn moments i t → IsShift moments (shift_at moments i)
on_shift moments i t valid on =
    let a0 = micros-at moments i valid (omega (arith, on.0)) in
    let a1 = micros-at moments (i + 1) valid on.0 in
    record { place = on.0; start = refl; stop = refl; lasts = omega (arith, signed_arith, on.1, on.2) }

pub clash-joined : (first second : List Moment) (fs ss : List Shift) → All IsMoment first → All IsMoment second → AreShifts first fs
    → AreShifts second ss
    → (i j : ℕ) → Clash first second i j → IsBegun fs ss (i, j) ⊎ IsRunning fs ss (i, j)
clash-joined first second fs ss vf vs hf hs i j (t, ona, onb) =
    let a = shift_at first i in
    let b = shift_at second j in
    let ina = hf.all a (on_shift first i t vf ona) in
    let inb = hs.all b (on_shift second j t vs onb) in
    let a0 = micros-at first i vf (omega (arith, ona.0)) in
    let a1 = micros-at first (i + 1) vf ona.0 in
    let b0 = micros-at second j vs (omega (arith, onb.0)) in
    let b1 = micros-at second (j + 1) vs onb.0 in
    let on_a = ona.1 in
    let on_a' = ona.2 in
    let on_b = onb.1 in
    let on_b' = onb.2 in
    elim (cases_lt (micros_at second j) (micros_at first i)) [
      | inl later ↦ inr (b, (a, inb, ina, (later, omega (arith, signed_arith)), refl))
      | inr sooner ↦ inl (a, (b, ina, inb, (sooner, omega (arith, signed_arith)), refl))
    ]

-- ---- the shifts that begin between two instants

lt_true : (a b : ℕ) → nat_lt a b ≡ true → a < b
lt_true a b e = grind arith

lt_false : (a b : ℕ) → nat_lt a b ≡ false → b ≤ a
lt_false a b e = grind arith

-- the first i shifts are those that begin before t
abbrev pub SplitAt : List Shift → ℕ → ℕ → Type 0
SplitAt xs t i = IsPartitionPoint (λ (s : Shift). nat_lt s.start t ≡ true) (λ (s : Shift). nat_lt s.start t ≡ false) xs i

-- a shift at a place from i on begins at t or later, and one before i begins before t
late : (xs : List Shift) (t i k : ℕ) (s : Shift) → SplitAt xs t i → i ≤ k → k < length xs → get_or xs k s ≡ s → t ≤ s.start
late xs t i k s split from h e = lt_false s.start t (subst (λ x. nat_lt x.start t ≡ false) e (split.1 k s from h))

early : (xs : List Shift) (t i k : ℕ) (s : Shift) → SplitAt xs t i → k < i → get_or xs k s ≡ s → s.start < t
early xs t i k s split before e = lt_true s.start t (subst (λ x. nat_lt x.start t ≡ true) e (split.0 k s (omega arith) before))

pub none_between : (xs : List Shift) (low high from to : ℕ) → SplitAt xs low from → SplitAt xs high to → to ≤ from
    → AreBetween xs [] low high
none_between xs low high from to pf pt le = record {
  each = λ s h. absurd (nothing_in s h);
  all = λ s h lows highs. elim (cases_lt h.0 from) [
    | inl before ↦ absurd (omega (arith, early xs low from h.0 s pf before h.2))
    | inr after ↦ absurd (omega (arith, late xs high to h.0 s pt (omega arith) h.1 h.2))
  ];
}

pub those_between : (xs : List Shift) (low high from to : ℕ) → SplitAt xs low from → SplitAt xs high to → from < to → to ≤ length xs
    → AreBetween xs (take (to - from) (drop from xs)) low high
those_between xs low high from to pf pt lt within = record {
  each = λ s h.
      let k = from + h.0 in
      let long : h.0 < to - from = omega (arith, h.1, length-take (to - from) (drop from xs)) in
      let here : get_or xs k s ≡ s = sym (get_or-drop from xs h.0 s) ∙ sym (get_or-take (to - from) (drop from xs) h.0 s long) ∙ h.2 in
      let inside : k < length xs = omega arith in
      ((k, inside, here), late xs low from k s pf (omega arith) inside here, early xs high to k s pt (omega arith) here);
  all = λ s h lows highs.
      elim (cases_lt h.0 from) [
        | inl before ↦ absurd (omega (arith, early xs low from h.0 s pf before h.2))
        | inr after ↦ elim (cases_lt h.0 to) [
          | inr beyond ↦ absurd (omega (arith, late xs high to h.0 s pt beyond h.1 h.2))
          | inl inside ↦
              let j = h.0 - from in
              let back : from + j ≡ h.0 = omega arith in
              let short : j < to - from = omega arith in
              let rest : length (take (to - from) (drop from xs)) ≡ to - from =
              omega (arith, length-take (to - from) (drop from xs), length-drop from xs) in
              (j, omega (arith, rest), get_or-take (to - from) (drop from xs) j s short ∙ get_or-drop from xs j s ∙ (rw back h.2))
        ]
      ];
}
