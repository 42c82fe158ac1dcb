-- What the words of a printed text are in each case.
use Rattle.std.proofs.Common.{◌≡◌, ◌≢◌, ℕ, zero, suc, ℤ, pos, ◌<◌, ◌+◌, ◌^◌, Bool, true, false, not, ◌&&◌, ◌||◌, ◌↔◌, List, [], ◌∷◌, ◌++◌, ap, ◌∙◌, sym, refl, arith, lit<, subst, inl, inr, ◌⊎◌, ◌<ℤ◌, get_or, FitsSigned, w32, w64, to_z, of_z}
use Rattle.std.specs.Int.Signed.{mag}
use mathlib.Core.List.{append_assoc, append-nil}
use Rattle.std.proofs.lemmas.Grind.{flat_map-append}
use Rattle.std.specs.Prelude.{unsigned_abs, decimal, codes, bytes_eq, IsTrue, All, Any, nat_eq, if◌then◌else◌}
use Rattle.std.proofs.lemmas.Int.{to_z-of_z, ints}
use Rattle.std.proofs.lemmas.List.Elements.{All-cons, All-nil}
use Rattle.std.specs.Int.{is_positive, is_negative}
use Rattle.std.proofs.lemmas.Fmt.{decimal_injective}
use Rattle.std.proofs.lemmas.Slice.Eq.{bytes_eq-Decides}
use Rattle.std.proofs.Math.Bool.{and-false}
use Rattle.std.specs.Fmt.{digits}
use Rattle.pg_interval.specs.NormalForm.{all_fields, time_fields}
use Rattle.pg_interval.specs.Printed.{is_zero, is_all_zero, is_time_zero, is_year_month_zero, minus_if, word_end, part_of, verbose_time_parts, second_parts, is_second_zero, is_second_negative, is_ago, is_time_positive}
use Rattle.pg_interval.specs.declared.interval_norm.IntervalNorm.{IntervalNorm}

pub ruleset signed_passed = (to_z-of_z, append_assoc, append-nil)

pub is_zero_yes : (z : ℤ) → unsigned_abs z ≡ 0 → is_zero z ≡ true
unfolding is_zero
is_zero_yes z h = rw h refl

pub is_zero_no : (z : ℤ) → (unsigned_abs z ≡ 0 → ⊥) → is_zero z ≡ false
unfolding is_zero
is_zero_no z h = grind arith

pub is_zero_is : (z : ℤ) → z ≡ pos 0 → is_zero z ≡ true
is_zero_is z h = is_zero_yes z (ap unsigned_abs h)

pub zero_is_zero : (z : ℤ) → is_zero z ≡ true → z ≡ pos 0
unfolding is_zero
zero_is_zero z h = grind (arith, ints)

not_zero : (z : ℤ) → z ≢ pos 0 → is_zero z ≡ false
not_zero z h = is_zero_no z (λ e. h (omega (arith, ints)))

-- where a test of all fields says so
pub all_zero_is : (n : IntervalNorm) → All (λ z. z ≡ pos 0) (all_fields n) → is_all_zero n ≡ true
unfolding is_all_zero is_time_zero is_year_month_zero
all_zero_is n h = rw (
  is_zero_is n.years (h 0 (pos 1) (lit< tt)),
  is_zero_is n.months (h 1 (pos 1) (lit< tt)),
  is_zero_is n.days (h 2 (pos 1) (lit< tt)),
  is_zero_is n.hours (h 3 (pos 1) (lit< tt)),
  is_zero_is n.minutes (h 4 (pos 1) (lit< tt)),
  is_zero_is n.seconds (h 5 (pos 1) (lit< tt)),
  is_zero_is n.microseconds (h 6 (pos 1) (lit< tt)),
) refl

and_left : (a b : Bool) → (a && b) ≡ true → a ≡ true
and_left true b h = refl
and_left false b h = h

and_right : (a b : Bool) → (a && b) ≡ true → b ≡ true
and_right true b h = h
and_right false b h = cc

pub time_zero_fields : (n : IntervalNorm) → is_time_zero n ≡ true → All (λ z. z ≡ pos 0) (time_fields n)
unfolding is_time_zero
time_zero_fields n h =
    let hms : ((is_zero n.hours && is_zero n.minutes) && is_zero n.seconds) ≡ true = and_left _ (is_zero n.microseconds) h in
    let hm : (is_zero n.hours && is_zero n.minutes) ≡ true = and_left _ (is_zero n.seconds) hms in
    let us : n.microseconds ≡ pos 0 = zero_is_zero _ (and_right (((is_zero n.hours && is_zero n.minutes) && is_zero n.seconds)) _ h) in
    let s : n.seconds ≡ pos 0 = zero_is_zero _ (and_right ((is_zero n.hours && is_zero n.minutes)) _ hms) in
    let m : n.minutes ≡ pos 0 = zero_is_zero _ (and_right (is_zero n.hours) _ hm) in
    let o : n.hours ≡ pos 0 = zero_is_zero _ (and_left _ (is_zero n.minutes) hm) in
    All-cons (λ z. z ≡ pos 0) n.hours (n.minutes ∷ n.seconds ∷ n.microseconds ∷ []) o
    (All-cons (λ z. z ≡ pos 0) n.minutes (n.seconds ∷ n.microseconds ∷ []) m
    (All-cons (λ z. z ≡ pos 0) n.seconds (n.microseconds ∷ []) s
    (All-cons (λ z. z ≡ pos 0) n.microseconds [] us (All-nil (λ z. z ≡ pos 0)))))

pub all_zero_fields : (n : IntervalNorm) → is_all_zero n ≡ true → All (λ z. z ≡ pos 0) (all_fields n)
unfolding is_all_zero is_year_month_zero
all_zero_fields n h =
    let ymd : ((is_zero n.years && is_zero n.months) && is_zero n.days) ≡ true = and_left _ (is_time_zero n) h in
    let ym : (is_zero n.years && is_zero n.months) ≡ true = and_left _ (is_zero n.days) ymd in
    let t : is_time_zero n ≡ true = and_right (((is_zero n.years && is_zero n.months) && is_zero n.days)) _ h in
    let d : n.days ≡ pos 0 = zero_is_zero _ (and_right ((is_zero n.years && is_zero n.months)) _ ymd) in
    let m : n.months ≡ pos 0 = zero_is_zero _ (and_right (is_zero n.years) _ ym) in
    let y : n.years ≡ pos 0 = zero_is_zero _ (and_left _ (is_zero n.months) ym) in
    All-cons (λ z. z ≡ pos 0) n.years (n.months ∷ n.days ∷ time_fields n) y
    (All-cons (λ z. z ≡ pos 0) n.months (n.days ∷ time_fields n) m
    (All-cons (λ z. z ≡ pos 0) n.days (time_fields n) d (time_zero_fields n t)))

same_test : (b t : Bool) → (IsTrue b → t ≡ true) → (t ≡ true → IsTrue b) → b ≡ t
same_test true t f g = sym (f refl)
same_test false true f g = g refl
same_test false false f g = refl

-- the public tests of a normal form's fields, as the words of a text
pub zeroed_is : (n : IntervalNorm) (b : Bool) → (IsTrue b ↔ All (λ z. z ≡ pos 0) (all_fields n)) → b ≡ is_all_zero n
zeroed_is n b h = same_test b (is_all_zero n) (λ t. all_zero_is n (h.0 t)) (λ e. h.1 (all_zero_fields n e))

and_false : (a b : Bool) → (a && b) ≡ false → (a ≡ false) ⊎ (b ≡ false)
and_false true b h = inr h
and_false false b h = inl refl

not_true : (b : Bool) → not b ≡ true → b ≡ false
not_true true h = cc
not_true false h = refl

not_false : (b : Bool) → (b ≡ true → ⊥) → not b ≡ true
not_false true h = absurd (h refl)
not_false false h = refl

false_is_not_zero : (z : ℤ) → is_zero z ≡ false → z ≢ pos 0
false_is_not_zero z h e = let t : is_zero z ≡ true = is_zero_is z e in cc

some_time : (n : IntervalNorm) → is_time_zero n ≡ false → Any (λ z. z ≢ pos 0) (time_fields n)
unfolding is_time_zero
some_time n h = elim (and_false _ (is_zero n.microseconds) h) [
  | inr us ↦ (3, n.microseconds, lit< tt, refl, false_is_not_zero _ us)
  | inl hms ↦ elim (and_false _ (is_zero n.seconds) hms) [
    | inr s ↦ (2, n.seconds, lit< tt, refl, false_is_not_zero _ s)
    | inl hm ↦ elim (and_false _ (is_zero n.minutes) hm) [
      | inr m ↦ (1, n.minutes, lit< tt, refl, false_is_not_zero _ m)
      | inl o ↦ (0, n.hours, lit< tt, refl, false_is_not_zero _ o)
    ]
  ]
]

pub time_present_is : (n : IntervalNorm) (b : Bool) → (IsTrue b ↔ Any (λ z. z ≢ pos 0) (time_fields n)) → b ≡ not (is_time_zero n)
time_present_is n b h = same_test b (not (is_time_zero n))
    (λ t. not_false _ (λ e. let a : Any (λ z. z ≢ pos 0) (time_fields n) = h.0 t in a.4 (sym a.3 ∙ time_zero_fields n e a.0 a.1 a.2)))
    (λ e. h.1 (some_time n (not_true _ e)))

pub day_present_is : (n : IntervalNorm) (b : Bool) → (IsTrue b ↔ (n.days ≢ pos 0)) → b ≡ not (is_zero n.days)
day_present_is n b h = same_test b (not (is_zero n.days)) (λ t. not_false _ (λ e. h.0 t (zero_is_zero _ e)))
    (λ e. h.1 (false_is_not_zero _ (not_true _ e)))

pub year_month_present_is : (n : IntervalNorm) (b : Bool) → (IsTrue b ↔ ((n.years ≢ pos 0) ⊎ (n.months ≢ pos 0)))
    → b ≡ not (is_year_month_zero n)
unfolding is_year_month_zero
year_month_present_is n b h = same_test b (not (is_year_month_zero n))
    (λ t. not_false _ (λ e. elim (h.0 t) [
      | inl y ↦ y (zero_is_zero _ (and_left _ (is_zero n.months) e))
      | inr m ↦ m (zero_is_zero _ (and_right (is_zero n.years) _ e))
    ]))
    (λ e. h.1 (elim (and_false _ (is_zero n.months) (not_true _ e)) [
      | inl y ↦ inl (false_is_not_zero _ y)
      | inr m ↦ inr (false_is_not_zero _ m)
    ]))

or_true : (a b : Bool) → (a || b) ≡ true → (a ≡ true) ⊎ (b ≡ true)
or_true true b h = inl refl
or_true false b h = inr h

or_left : (a b : Bool) → a ≡ true → (a || b) ≡ true
or_left a b h = rw h refl

or_right : (a b : Bool) → b ≡ true → (a || b) ≡ true
or_right true b h = refl
or_right false b h = h

positive_is : (z : ℤ) → pos 0 <ℤ z → is_positive z ≡ true
positive_is z h = grind (arith, ints)

is_positive_is : (z : ℤ) → is_positive z ≡ true → pos 0 <ℤ z
is_positive_is z h = grind (arith, ints)

some_positive : (n : IntervalNorm) → is_time_positive n ≡ true → Any (λ z. pos 0 <ℤ z) (time_fields n)
some_positive n h = elim (or_true _ (is_positive n.microseconds) h) [
  | inr us ↦ (3, n.microseconds, lit< tt, refl, is_positive_is _ us)
  | inl hms ↦ elim (or_true _ (is_positive n.seconds) hms) [
    | inr s ↦ (2, n.seconds, lit< tt, refl, is_positive_is _ s)
    | inl hm ↦ elim (or_true _ (is_positive n.minutes) hm) [
      | inr m ↦ (1, n.minutes, lit< tt, refl, is_positive_is _ m)
      | inl o ↦ (0, n.hours, lit< tt, refl, is_positive_is _ o)
    ]
  ]
]

positive_at : (n : IntervalNorm) (k : ℕ) (x : ℤ) → k < 4 → get_or (time_fields n) k x ≡ x → pos 0 <ℤ x → is_time_positive n ≡ true
positive_at n zero x lt e h = or_left _ _ (or_left _ _ (or_left _ _ (positive_is _ (subst (λ z. pos 0 <ℤ z) (sym e) h))))
positive_at n (suc zero) x lt e h = or_left _ _ (or_left _ _ (or_right _ _ (positive_is _ (subst (λ z. pos 0 <ℤ z) (sym e) h))))
positive_at n (suc (suc zero)) x lt e h = or_left _ _ (or_right _ _ (positive_is _ (subst (λ z. pos 0 <ℤ z) (sym e) h)))
positive_at n (suc (suc (suc zero))) x lt e h = or_right _ _ (positive_is _ (subst (λ z. pos 0 <ℤ z) (sym e) h))
positive_at n (suc (suc (suc (suc k)))) x lt e h = absurd (omega arith)

pub time_positive_is : (n : IntervalNorm) (b : Bool) → (IsTrue b ↔ Any (λ z. pos 0 <ℤ z) (time_fields n)) → b ≡ is_time_positive n
time_positive_is n b h = same_test b (is_time_positive n)
    (λ t. let a : Any (λ z. pos 0 <ℤ z) (time_fields n) = h.0 t in positive_at n a.0 a.1 a.2 a.3 a.4)
    (λ e. h.1 (some_positive n e))

-- ---- the ends of words

test_false : (b : Bool) → (b ≡ true → ⊥) → b ≡ false
test_false true h = absurd (h refl)
test_false false h = refl

pub word_end_minus : (digits : List ℕ) → word_end (minus_if true ++ digits) ≡ codes "s"
unfolding word_end
word_end_minus digits = refl

decimal_one : decimal 1 ≡ codes "1"
unfolding digits
decimal_one = refl

pub word_end_one : word_end (minus_if false ++ decimal 1) ≡ []
unfolding word_end digits
word_end_one = refl

pub word_end_many : (n : ℕ) → n < 2 ^ 64 → (n ≡ 1 → ⊥) → word_end (minus_if false ++ decimal n) ≡ codes "s"
unfolding word_end
word_end_many n small h = ap (λ b. if b then [] else codes "s")
    (test_false (bytes_eq (decimal n) (codes "1"))
    (λ t. h (decimal_injective n 1 small (lit< tt) ((bytes_eq-Decides (decimal n) (codes "1")).0 t ∙ sym decimal_one))))

-- a number with a point isn't printed as `1`
pub word_end_point : (minus : Bool) (xs ys : List ℕ) → word_end (minus_if minus ++ (xs ++ 46 ∷ ys)) ≡ codes "s"
unfolding word_end
word_end_point true xs ys = refl
word_end_point false [] ys = refl
word_end_point false (x ∷ []) ys = ap (λ b. if b then [] else codes "s") (and-false (nat_eq x 49))
word_end_point false (x ∷ y ∷ xs) ys = ap (λ b. if b then [] else codes "s") (and-false (nat_eq x 49))

pub ruleset word_ends = (word_end_minus, word_end_one, word_end_many, append-nil)

not_negative : (z : ℤ) → is_zero z ≡ true → is_negative z ≡ false
not_negative z h = ap is_negative (zero_is_zero z h)

second_ago : (n : IntervalNorm) (b : Bool) → is_second_zero n ≡ b → is_ago (second_parts n) ≡ is_second_negative n
unfolding second_parts is_second_zero
second_ago n true h = rw (h, not_negative n.seconds (and_left _ _ h), not_negative n.microseconds (and_right (is_zero n.seconds) _ h)) refl
second_ago n false h = rw h refl

-- without hours and minutes the seconds come first
pub seconds_ago : (n : IntervalNorm) → unsigned_abs n.hours ≡ 0 → unsigned_abs n.minutes ≡ 0
    → is_ago (verbose_time_parts n) ≡ is_second_negative n
unfolding verbose_time_parts part_of
seconds_ago n hours minutes = rw (is_zero_yes n.hours hours, is_zero_yes n.minutes minutes) (second_ago n (is_second_zero n) refl)

pub ruleset second_words = (word_end_point, signed_passed)

pub ruleset parts_put = (flat_map-append, append_assoc, append-nil, to_z-of_z)

-- an i32 fits an i64
pub fits_wider : (z : ℤ) → FitsSigned w32 z → FitsSigned w64 z
fits_wider z h = let small : mag z < 2 ^ 31 = h.sfits in record { sfits = omega arith }

-- an i32 as an i64
pub widened : (z : ℤ) → FitsSigned w32 z → to_z w64 (of_z w64 (to_z w32 (of_z w32 z))) ≡ z
widened z h = ap (λ y. to_z w64 (of_z w64 y)) (to_z-of_z w32 z h) ∙ to_z-of_z w64 z (fits_wider z h)
