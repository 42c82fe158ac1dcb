-- The text of the style postgres as its parts, each behind a space: the first space isn't counted.
use Rattle.std.proofs.Common.{◌≡◌, ℕ, zero, suc, ℤ, pos, negsuc, neg_ℤ, ◌+◌, ◌*◌, ◌/◌, ◌%◌, ◌<◌, ◌≤◌, Bool, true, false, not, ◌&&◌, ◌||◌, List, [], ◌∷◌, ◌++◌, length, drop, take, map, length-append, ◌-◌, ◌^◌, ap, ◌∙◌, sym, refl, subst, arith, eq-zero-or-pos, inl, inr, lit<, ◌≤ℤ◌}
use Rattle.std.specs.Prelude.{decimal, unsigned_abs, int_div, int_rem, codes, flat_map, ◌==◌, if◌then◌else◌}
use Rattle.std.specs.Int.{is_negative}
use Rattle.std.specs.List.{join_with_byte}
use Rattle.std.proofs.lemmas.Int.{ints}
use Rattle.std.proofs.lemmas.List.{take-append-le}
use Rattle.std.proofs.Math.Seq.{take-length}
use Rattle.std.proofs.lemmas.Bool.{and_parts}
use mathlib.Core.List.{append_assoc, append-nil}
use Rattle.std.proofs.lemmas.Grind.{flat_map-append}
use Rattle.pg_interval.specs.NormalForm.{normal_form}
use Rattle.pg_interval.specs.Printed.{is_zero, is_all_zero, is_time_zero, is_year_month_zero, minus_if, word_end, two_digits_of, six_digits, fraction_of, after_hours, is_time_negative, two_digits, Part, part_of, part_text, own_text, verbose_part_text, date_parts, time_texts, postgres_text}
use Rattle.pg_interval.specs.declared.pg_interval.Interval.{Interval}
use Rattle.pg_interval.specs.declared.interval_norm.IntervalNorm.{IntervalNorm}
use Rattle.pg_interval.proofs.PrintedLemmas.{word_end_minus, word_end_one, word_end_many, is_zero_yes, is_zero_no}
use Rattle.pg_interval.proofs.NormalFacts.{not_below}
use Rattle.std.proofs.lemmas.Fmt.{length-decimal-le}

-- ---- the words behind a number

-- 1 with a minus or without
pub one_word_end : (minus : Bool) (n : ℕ) → n ≡ 1 → word_end (minus_if minus ++ decimal n) ≡ (if minus then 115 ∷ [] else [])
one_word_end true n h = word_end_minus (decimal n)
one_word_end false n h = rw h word_end_one

pub many_word_end : (minus : Bool) (n : ℕ) → n < 2 ^ 64 → (n ≡ 1 → ⊥) → word_end (minus_if minus ++ decimal n) ≡ 115 ∷ []
many_word_end true n small h = word_end_minus (decimal n)
many_word_end false n small h = word_end_many n small h

-- the words without their last byte
pub words_taken : (word words : List ℕ) → words ≡ 32 ∷ word ++ 115 ∷ [] → take (length words - 1) words ≡ 32 ∷ word
words_taken word words h =
    let long : length (32 ∷ word ++ 115 ∷ []) - 1 ≡ length (32 ∷ word) = omega (arith, length-append word (115 ∷ [])) in
    rw (h, long) (take-append-le (length (32 ∷ word)) (32 ∷ word) (115 ∷ []) (omega arith) ∙ take-length (32 ∷ word))

-- what stands behind 1
pub one_put : (minus : Bool) (n : ℕ) (word put front t0 t1 : List ℕ) → n ≡ 1 → front ≡ 32 ∷ word
    → t1 ≡ (if minus then 115 ∷ [] else []) ++ t0 → put ≡ front ++ t1
    → put ≡ 32 ∷ (word ++ word_end (minus_if minus ++ decimal n) ++ t0)
one_put minus n word put front t0 t1 one f e1 e2 =
    rw (e2, f, e1, one_word_end minus n one) (ap (λ t. 32 ∷ t) (sym (append_assoc word (if minus then 115 ∷ [] else []) t0)))

pub ruleset words_put = (one_word_end, many_word_end, append-nil, append_assoc)

-- ---- a part's number as its sign and its size

zero_test : (k : ℕ) → k ≡ 0 → (k == 0) ≡ true
zero_test k h = grind arith

some_test : (k : ℕ) → 0 < k → (k == 0) ≡ false
some_test k h = grind arith

zero_of_test : (k : ℕ) → (k == 0) ≡ true → k ≡ 0
zero_of_test k h = grind arith

plus : (a : ℕ) → is_negative (pos a) ≡ false
plus a = not_below (pos a) (omega (arith, ints))

minus_of : (x : ℕ) → 0 < x → is_negative (neg_ℤ (pos x)) ≡ true
minus_of zero h = absurd (omega arith)
minus_of (suc x) h = refl

abs_neg : (x : ℕ) → unsigned_abs (neg_ℤ (pos x)) ≡ x
abs_neg zero = refl
abs_neg (suc x) = refl

div_abs : (z : ℤ) (b : ℕ) → unsigned_abs (int_div z (pos b)) ≡ unsigned_abs z / b
div_abs (pos a) b = refl
div_abs (negsuc a) b = abs_neg (suc a / b)

rem_abs : (z : ℤ) (b : ℕ) → unsigned_abs (int_rem z (pos b)) ≡ unsigned_abs z % b
rem_abs (pos a) b = refl
rem_abs (negsuc a) b = abs_neg (suc a % b)

quotient_sign : (z : ℤ) (b : ℕ) → 0 < unsigned_abs z / b → is_negative (int_div z (pos b)) ≡ is_negative z
quotient_sign (pos a) b h = plus (a / b) ∙ sym (plus a)
quotient_sign (negsuc a) b h = minus_of (suc a / b) h

remainder_sign : (z : ℤ) (b : ℕ) → 0 < unsigned_abs z % b → is_negative (int_rem z (pos b)) ≡ is_negative z
remainder_sign (pos a) b h = plus (a % b) ∙ sym (plus a)
remainder_sign (negsuc a) b h = minus_of (suc a % b) h

-- the text of a part of this size
abbrev pub sized : Bool → ℕ → List ℕ → List ℕ
sized minus k name = if k == 0 then [] else 32 ∷ part_text minus (decimal k) name

part_of_size : (z : ℤ) (minus : Bool) (k : ℕ) (name : List ℕ) → unsigned_abs z ≡ k → (0 < k → is_negative z ≡ minus)
    → flat_map (verbose_part_text false) (part_of z name) ≡ sized minus k name
unfolding part_of verbose_part_text
part_of_size z minus k name size sign = elim (eq-zero-or-pos k) [
  | inl none ↦ rw (is_zero_yes z (size ∙ none), zero_test k none) refl
  | inr some ↦ rw (is_zero_no z (λ e. omega arith), some_test k some, sign some, size)
      (append-nil (32 ∷ part_text minus (decimal k) name))
]

dates_of_sizes : (i : Interval) → flat_map (verbose_part_text false) (date_parts (normal_form i))
    ≡ sized (is_negative i.months) (unsigned_abs i.months / 12) (codes "year") ++ sized (is_negative i.months) (unsigned_abs i.months % 12)
    (codes "mon") ++ sized (is_negative i.days) (unsigned_abs i.days) (codes "day")
unfolding date_parts normal_form
dates_of_sizes i =
    let y = part_of_size (int_div i.months (pos 12)) _ _ (codes "year") (div_abs i.months 12) (quotient_sign i.months 12) in
    let m = part_of_size (int_rem i.months (pos 12)) _ _ (codes "mon") (rem_abs i.months 12) (remainder_sign i.months 12) in
    let d = part_of_size i.days _ _ (codes "day") refl (λ _. refl) in
    simp (flat_map-append, y, m, d)

-- one part in front of another
pub dates_put : (i : Interval) (t0 t1 t2 t3 : List ℕ) (minus day_minus : Bool) (y m d : ℕ) → minus ≡ is_negative i.months
    → day_minus ≡ is_negative i.days → y ≡ unsigned_abs i.months / 12 → m ≡ unsigned_abs i.months % 12 → d ≡ unsigned_abs i.days
    → t1 ≡ sized day_minus d (codes "day") ++ t0 → t2 ≡ sized minus m (codes "mon") ++ t1 → t3 ≡ sized minus y (codes "year") ++ t2
    → t3 ≡ flat_map (verbose_part_text false) (date_parts (normal_form i)) ++ t0
dates_put i t0 t1 t2 t3 minus day_minus y m d es eds ey em ed e1 e2 e3 =
    rw (e3, e2, e1, es, eds, ey, em, ed, dates_of_sizes i) (simp append_assoc)

pub two_long : (n : ℕ) → n < 100 → length (decimal n) ≤ 2
two_long n h = length-decimal-le 2 n (lit< tt) h (omega arith)

pub nine_long : (n : ℕ) → n < 1000000000 → length (decimal n) ≤ 9
nine_long n h = length-decimal-le 9 n (lit< tt) h (omega arith)

pub ten_long : (n : ℕ) → n < 10000000000 → length (decimal n) ≤ 10
ten_long n h = length-decimal-le 10 n (lit< tt) h (omega arith)

-- ---- the time

zeros : (a b c d : ℕ) → ((((a == 0) && (b == 0)) && (c == 0)) && (d == 0)) ≡ true → (((a ≡ 0) × (b ≡ 0)) × (c ≡ 0)) × (d ≡ 0)
zeros a b c d h =
    let abc = and_parts _ _ h in
    let ab = and_parts _ _ abc.0 in
    let one = and_parts _ _ ab.0 in
    (((zero_of_test a one.0, zero_of_test b one.1), zero_of_test c ab.1), zero_of_test d abc.1)

not_true : (b : Bool) → (b ≡ true → ⊥) → b ≡ false
not_true true h = absurd (h refl)
not_true false h = refl

some_time_is : (n : ℕ) → (n ≡ 0 → ⊥)
    → ((((n / 1000000 / 60 / 60 == 0) && (n / 1000000 / 60 % 60 == 0)) && (n / 1000000 % 60 == 0)) && (n % 1000000 == 0)) ≡ false
some_time_is n h = not_true _ (λ e. let z = zeros (n / 1000000 / 60 / 60) (n / 1000000 / 60 % 60) (n / 1000000 % 60) (n % 1000000) e in h (omega arith))

neg_by_size : (x : ℕ) → is_negative (neg_ℤ (pos x)) ≡ not (x == 0)
neg_by_size zero = refl
neg_by_size (suc x) = ap not (sym (some_test (suc x) (omega arith)))

rem_of_neg : (x : ℕ) → int_rem (neg_ℤ (pos x)) (pos 60) ≡ neg_ℤ (pos (x % 60))
rem_of_neg zero = refl
rem_of_neg (suc x) = refl

some_not_zero : (a b c d : Bool) → (((a && b) && c) && d) ≡ false → (((not a || not b) || not c) || not d) ≡ true
some_not_zero true true true true h = cc
some_not_zero true true true false h = refl
some_not_zero true true false d h = refl
some_not_zero true false c d h = refl
some_not_zero false b c d h = refl

time_sign_is : (u : ℤ) → (((is_negative (int_div u (pos 3600000000)) || is_negative (int_rem (int_div u (pos 60000000)) (pos 60)))
    || is_negative (int_rem (int_div u (pos 1000000)) (pos 60))) || is_negative (int_rem u (pos 1000000))) ≡ is_negative u
time_sign_is (pos a) = rw (plus (a / 3600000000), plus (a / 60000000 % 60), plus (a / 1000000 % 60), plus (a % 1000000), plus a) refl
time_sign_is (negsuc a) =
    let n : ℕ = suc a in
    let h : n / 3600000000 ≡ n / 1000000 / 60 / 60 = omega arith in
    let m : n / 60000000 ≡ n / 1000000 / 60 = omega arith in
    rw (rem_of_neg, rem_of_neg, neg_by_size, neg_by_size, neg_by_size, neg_by_size, h, m)
    (some_not_zero _ _ _ _ (some_time_is n (λ e. omega arith)))

-- a time is below zero where its microseconds are
time_negative_is : (i : Interval) → is_time_negative (normal_form i) ≡ is_negative i.microseconds
unfolding normal_form
time_negative_is i = time_sign_is i.microseconds

clock_is : (n : IntervalNorm) → after_hours n ≡ 58 ∷ (two_digits n.minutes ++ (58 ∷ (two_digits n.seconds ++ fraction_of n.microseconds)))
unfolding after_hours
clock_is n = ap (λ t. 58 ∷ t) (append_assoc (two_digits n.minutes) (58 ∷ two_digits n.seconds) (fraction_of n.microseconds))

time_text_is : (n : IntervalNorm) → is_time_zero n ≡ false
    → time_texts n ≡ (minus_if (is_time_negative n) ++ two_digits n.hours ++ after_hours n) ∷ []
unfolding time_texts
time_text_is n h = rw h refl

time_behind_space : (n : IntervalNorm) → is_time_zero n ≡ false
    → flat_map (λ t. 32 ∷ t) (time_texts n) ≡ 32 ∷ (minus_if (is_time_negative n) ++ (two_digits n.hours ++ after_hours n))
time_behind_space n h = ap (flat_map (λ t. 32 ∷ t)) (time_text_is n h)
    ∙ append-nil (32 ∷ (minus_if (is_time_negative n) ++ two_digits n.hours ++ after_hours n))
    ∙ ap (λ t. 32 ∷ t) (append_assoc (minus_if (is_time_negative n)) (two_digits n.hours) (after_hours n))

-- the sizes of a time's numbers
pub record AreTimeSizes (i : Interval) (n : ℕ) : Type 0 where
  pub hours : unsigned_abs (normal_form i).hours ≡ n / 1000000 / 60 / 60
  pub minutes : unsigned_abs (normal_form i).minutes ≡ n / 1000000 / 60 % 60
  pub seconds : unsigned_abs (normal_form i).seconds ≡ n / 1000000 % 60
  pub microseconds : unsigned_abs (normal_form i).microseconds ≡ n % 1000000

time_sizes : (i : Interval) (n : ℕ) → unsigned_abs i.microseconds ≡ n → AreTimeSizes i n
unfolding normal_form
time_sizes i n e =
    let u = i.microseconds in
    record {
      hours = div_abs u 3600000000 ∙ omega arith;
      minutes = rem_abs (int_div u (pos 60000000)) 60 ∙ ap (λ k. k % 60) (div_abs u 60000000) ∙ omega arith;
      seconds = rem_abs (int_div u (pos 1000000)) 60 ∙ ap (λ k. k % 60) (div_abs u 1000000) ∙ omega arith;
      microseconds = rem_abs u 1000000 ∙ omega arith;
    }

pub no_time : (i : Interval) → unsigned_abs i.microseconds ≡ 0 → flat_map (λ t. 32 ∷ t) (time_texts (normal_form i)) ≡ []
unfolding time_texts is_time_zero
no_time i e =
    let size = time_sizes i 0 e in
    rw (is_zero_yes _ size.hours, is_zero_yes _ size.minutes, is_zero_yes _ size.seconds, is_zero_yes _ size.microseconds) refl

some_time : (i : Interval) (n : ℕ) → AreTimeSizes i n → (n ≡ 0 → ⊥) → is_time_zero (normal_form i) ≡ false
unfolding is_time_zero is_zero
some_time i n size some = rw (size.hours, size.minutes, size.seconds, size.microseconds) (some_time_is n some)

two_digits_at : (z : ℤ) (n : ℕ) → unsigned_abs z ≡ n → two_digits z ≡ two_digits_of n
two_digits_at z n e = ap two_digits_of e

fraction_at : (z : ℤ) (n : ℕ) → unsigned_abs z ≡ n → fraction_of z ≡ (if n == 0 then [] else 46 ∷ six_digits n)
unfolding fraction_of is_zero
fraction_at z n e = ap (λ k. if k == 0 then [] else 46 ∷ six_digits k) e

clock_at : (i : Interval) (n : ℕ) → AreTimeSizes i n → after_hours (normal_form i)
    ≡ 58 ∷ (two_digits_of (n / 1000000 / 60 % 60) ++ (58 ∷ (two_digits_of (n / 1000000 % 60)
    ++ (if n % 1000000 == 0 then [] else 46 ∷ six_digits (n % 1000000)))))
clock_at i n size =
    let minutes = two_digits_at (normal_form i).minutes _ size.minutes in
    let seconds = two_digits_at (normal_form i).seconds _ size.seconds in
    let micros = fraction_at (normal_form i).microseconds _ size.microseconds in
    clock_is (normal_form i)
    ∙ ap (λ t. 58 ∷ (t ++ (58 ∷ (two_digits (normal_form i).seconds ++ fraction_of (normal_form i).microseconds)))) minutes
    ∙ ap (λ t. 58 ∷ (two_digits_of (n / 1000000 / 60 % 60) ++ (58 ∷ (t ++ fraction_of (normal_form i).microseconds)))) seconds
    ∙ ap (λ t. 58 ∷ (two_digits_of (n / 1000000 / 60 % 60) ++ (58 ∷ (two_digits_of (n / 1000000 % 60) ++ t)))) micros

pieces : (m h mm ss us t0 : List ℕ)
    → 32 ∷ (m ++ (h ++ 58 ∷ mm ++ 58 ∷ ss ++ (us ++ t0))) ≡ (32 ∷ (m ++ (h ++ (58 ∷ (mm ++ (58 ∷ (ss ++ us))))))) ++ t0
pieces m h mm ss us t0 = simp append_assoc

-- one piece in front of another
pub time_put : (i : Interval) (n : ℕ) (minus : Bool) (t0 t1 t2 t3 t4 : List ℕ) → unsigned_abs i.microseconds ≡ n → (n ≡ 0 → ⊥)
    → minus ≡ is_negative i.microseconds → t1 ≡ (if n % 1000000 == 0 then [] else 46 ∷ six_digits (n % 1000000)) ++ t0
    → t2 ≡ two_digits_of (n / 1000000 / 60 / 60) ++ 58 ∷ two_digits_of (n / 1000000 / 60 % 60) ++ 58 ∷ two_digits_of (n / 1000000 % 60)
    ++ t1 → t3 ≡ minus_if minus ++ t2 → t4 ≡ 32 ∷ t3 → t4 ≡ flat_map (λ t. 32 ∷ t) (time_texts (normal_form i)) ++ t0
time_put i n minus t0 t1 t2 t3 t4 e some es e1 e2 e3 e4 =
    let size = time_sizes i n e in
    let m : List ℕ = minus_if minus in
    let h : List ℕ = two_digits_of (n / 1000000 / 60 / 60) in
    let mm : List ℕ = two_digits_of (n / 1000000 / 60 % 60) in
    let ss : List ℕ = two_digits_of (n / 1000000 % 60) in
    let us : List ℕ = if n % 1000000 == 0 then [] else 46 ∷ six_digits (n % 1000000) in
    let whole : flat_map (λ t. 32 ∷ t) (time_texts (normal_form i)) ≡ 32 ∷ (m ++ (h ++ (58 ∷ (mm ++ (58 ∷ (ss ++ us)))))) =
    time_behind_space (normal_form i) (some_time i n size some)
    ∙ ap (λ b. 32 ∷ (minus_if b ++ (two_digits (normal_form i).hours ++ after_hours (normal_form i)))) (time_negative_is i ∙ sym es)
    ∙ ap (λ t. 32 ∷ (m ++ (t ++ after_hours (normal_form i)))) (two_digits_at (normal_form i).hours _ size.hours)
    ∙ ap (λ t. 32 ∷ (m ++ (h ++ t))) (clock_at i n size) in
    e4 ∙ ap (λ t. 32 ∷ t) (e3 ∙ ap (λ t. m ++ t) (e2 ∙ ap (λ t. h ++ 58 ∷ mm ++ 58 ∷ ss ++ t) e1))
    ∙ pieces m h mm ss us t0 ∙ ap (λ t. t ++ t0) (sym whole)

-- ---- the whole text

nil_left : (xs ys : List ℕ) → xs ++ ys ≡ [] → xs ≡ []
nil_left [] ys h = refl
nil_left (x ∷ xs) ys h = cc

nil_right : (xs ys : List ℕ) → xs ++ ys ≡ [] → ys ≡ []
nil_right [] ys h = h
nil_right (x ∷ xs) ys h = cc

part_none : (z : ℤ) (name : List ℕ) → flat_map (verbose_part_text false) (part_of z name) ≡ [] → is_zero z ≡ true
unfolding part_of verbose_part_text
part_none z name = elim (is_zero z) as (λ b. flat_map (verbose_part_text false) (if b then [] else record {
  negative = is_negative z;
  digits = decimal (unsigned_abs z);
  word = name;
} ∷ []) ≡ [] → b ≡ true) [
  | true ↦ λ h. refl
  | false ↦ λ h. cc
]

time_none : (n : IntervalNorm) → flat_map (λ t. 32 ∷ t) (time_texts n) ≡ [] → is_time_zero n ≡ true
unfolding time_texts
time_none n = elim (is_time_zero n) as (λ b. flat_map (λ t. 32 ∷ t) (if b then []
    else (minus_if (is_time_negative n) ++ two_digits_of (unsigned_abs n.hours) ++ after_hours n) ∷ []) ≡ [] → b ≡ true) [
      | true ↦ λ h. refl
      | false ↦ λ h. cc
    ]

-- all parts, each behind a space
abbrev pub spaced : IntervalNorm → List ℕ
spaced n = flat_map (verbose_part_text false) (date_parts n) ++ flat_map (λ t. 32 ∷ t) (time_texts n)

zero_if_none : (n : IntervalNorm) → spaced n ≡ [] → is_all_zero n ≡ true
unfolding is_all_zero is_year_month_zero date_parts
zero_if_none n h =
    let f : Part → List ℕ = verbose_part_text false in
    let y : List Part = part_of n.years (codes "year") in
    let m : List Part = part_of n.months (codes "mon") in
    let d : List Part = part_of n.days (codes "day") in
    let time = time_none n (nil_right (flat_map f (y ++ m ++ d)) _ h) in
    let dates : flat_map f y ++ flat_map f m ++ flat_map f d ≡ [] = simp flat_map-append at (nil_left (flat_map f (y ++ m ++ d)) _ h) in
    let both = nil_left (flat_map f y ++ flat_map f m) (flat_map f d) dates in
    let years = part_none n.years (codes "year") (nil_left (flat_map f y) (flat_map f m) both) in
    let months = part_none n.months (codes "mon") (nil_right (flat_map f y) (flat_map f m) both) in
    let days = part_none n.days (codes "day") (nil_right (flat_map f y ++ flat_map f m) (flat_map f d) dates) in
    rw (years, months, days, time) refl

none_if_zero : (n : IntervalNorm) → is_all_zero n ≡ true → spaced n ≡ []
unfolding is_all_zero is_year_month_zero date_parts part_of time_texts
none_if_zero n h =
    let ymd = and_parts _ (is_time_zero n) h in
    let ym = and_parts _ (is_zero n.days) ymd.0 in
    let y = and_parts (is_zero n.years) (is_zero n.months) ym.0 in
    rw (y.0, y.1, ym.1, ymd.1) refl

spaced_texts : (ps : List Part) → flat_map (verbose_part_text false) ps ≡ flat_map (λ t. 32 ∷ t) (map own_text ps)
unfolding verbose_part_text
spaced_texts [] = refl
spaced_texts (p ∷ ps) = ap (λ t. (32 ∷ own_text p) ++ t) (spaced_texts ps)

joined_spaced : (ts : List (List ℕ)) → drop 1 (flat_map (λ t. 32 ∷ t) ts) ≡ join_with_byte 32 ts
joined_spaced [] = refl
joined_spaced (p ∷ []) = append-nil p
joined_spaced (p ∷ q ∷ ps) = ap (λ t. p ++ 32 ∷ t) (joined_spaced (q ∷ ps))

-- nothing stands there for zero alone
pub zero_put : (n : IntervalNorm) → spaced n ≡ [] → postgres_text n ≡ codes "00:00:00"
unfolding postgres_text
zero_put n h = rw (zero_if_none n h) refl

pub parts_put : (n : IntervalNorm) → (spaced n ≡ [] → ⊥) → drop 1 (spaced n) ≡ postgres_text n
unfolding postgres_text
parts_put n h =
    let some : is_all_zero n ≡ false = elim (is_all_zero n) as (λ b. b ≡ is_all_zero n → b ≡ false) [
      | true ↦ λ e. absurd (h (none_if_zero n (sym e)))
      | false ↦ λ e. refl
    ] refl in
    rw (some, spaced_texts (date_parts n), ← flat_map-append) (joined_spaced (map own_text (date_parts n) ++ time_texts n))

-- the dates in front of the time
pub whole_spaced : (n : IntervalNorm) (t0 t1 t2 : List ℕ) → t0 ≡ [] → t1 ≡ flat_map (λ t. 32 ∷ t) (time_texts n) ++ t0
    → t2 ≡ flat_map (verbose_part_text false) (date_parts n) ++ t1 → t2 ≡ spaced n
whole_spaced n t0 t1 t2 none e1 e2 =
    let times : List ℕ = flat_map (λ t. 32 ∷ t) (time_texts n) in
    e2 ∙ ap (λ t. flat_map (verbose_part_text false) (date_parts n) ++ t) (e1 ∙ ap (λ t. times ++ t) none ∙ append-nil times)
