-- What the style iso_8601 prints stands for the interval.
use Rattle.std.proofs.Common.{◌≡◌, ℕ, ◌^◌, ◌<◌, ◌≤◌, Bool, true, false, ◌&&◌, ◌||◌, List, [], ◌∷◌, ◌++◌, length, ap, ◌∙◌, sym, refl, subst, arith, lit<, lit≤, zero-le, Option, Some, Ok, Err, ℤ, pos}
use mathlib.Core.List.{append_assoc, append-nil}
use Rattle.std.specs.Prelude.{if◌then◌else◌, ◌==◌, unsigned_abs, codes, decimal}
use Rattle.std.specs.List.{list_any, list_all, slice_split}
use Rattle.std.specs.Int.{is_negative}
use Rattle.std.specs.Int.Signed.{mag}
use Rattle.std.proofs.lemmas.List.Folds.{list_any-append, list_all-append}
use Rattle.std.proofs.Math.ListN.{length-append}
use Rattle.std.proofs.lemmas.Int.{ints}
use Rattle.std.proofs.Math.Bool.{or-true}
use Rattle.std.specs.Str.Parse.{digits_value}
use Rattle.pg_interval.specs.Cell.{IsInterval}
use Rattle.pg_interval.specs.Texts.{is_digit, is_point, is_minus, is_empty, are_digits}
use Rattle.pg_interval.specs.Decimals.{Decimal, TimeUnit, Year, Month, Day, Hour, Minute, Second, with_sign, worth}
use Rattle.pg_interval.specs.Pairs.{Pair, pair, decimal_pair, checked, total_of, sum_of, nothing, fits_above}
use Rattle.pg_interval.specs.IsoText.{Item, is_designator, items_of, is_item_number, date_unit, time_unit, pairs_of_items, pairs_of_halves, iso_pairs}
use Rattle.pg_interval.specs.Reading.{reading, of_shape, out_of_range, Iso8601}
use Rattle.pg_interval.specs.Printed.{minus_if, digits_of, is_zero, is_all_zero, is_time_zero, is_year_month_zero, is_time_negative, is_second_zero, is_second_negative, six_digits, fraction_of, item_text, second_text, iso_time_text, iso_text, printed}
use Rattle.pg_interval.specs.NormalForm.{normal_form, exact_total}
use Rattle.pg_interval.specs.declared.pg_interval.Interval.{Interval}
use Rattle.pg_interval.specs.declared.interval_norm.IntervalNorm.{IntervalNorm}
use Rattle.interval_errors.specs.declared.Reason.TheVariants.{TooLong}
use Rattle.interval_errors.specs.declared.ParseError.{ParseError}
use Rattle.interval_errors.specs.declared.ParseError.TheVariants.{InvalidInterval}
use Rattle.pg_interval.proofs.DigitTexts.{none_of_digits, all_digits, digits_decimal, value_decimal, decimal_point, split_none, split_at, not_longer, and_left, and_right, or_none_left, or_none_right}
use Rattle.pg_interval.proofs.PartTexts.{whole_number, number_pairs, number_total, abs_small, unit_worth, decimal_pair_whole, fits_by_mag, whole_worth}
use Rattle.pg_interval.proofs.TimeTexts.{second_decimal, second_worth, six_are_digits, six_value}
use Rattle.pg_interval.proofs.PrintedLemmas.{time_zero_fields, zero_is_zero}
use Rattle.pg_interval.proofs.NormalFacts.{IsSized, HasTimeSign, normal_sizes, normal_time_sign, same_interval, above}
use Rattle.pg_interval.proofs.PairSums.{date_total, judged_interval, time_sum, second_whole}
use Rattle.pg_interval.proofs.PostgresReads.{zero_interval, minus_length, decimal_length, fraction_length}

-- ---- items

digit_no_designator : (c : ℕ) → is_digit c ≡ true → is_designator c ≡ false
digit_no_designator c h = grind arith

digit_no_t : (c : ℕ) → is_digit c ≡ true → (c == 84) ≡ false
digit_no_t c h = grind arith

-- a number and its letter in front of other items
item_first : (number : List ℕ) (l : ℕ) (rest : List ℕ) (r : List Item) → list_any is_designator number ≡ false → is_designator l ≡ true
    → items_of rest ≡ Some r → items_of (number ++ l ∷ rest) ≡ Some (record { number = number; letter = l } ∷ r)
item_first [] l rest r h k e = rw (k, e) refl
item_first (c ∷ cs) l rest r h k e = rw (
  or_none_left (is_designator c) (list_any is_designator cs) h,
  item_first cs l rest r (or_none_right (is_designator c) (list_any is_designator cs) h) k e,
) refl

-- the text is items, and they are these pairs
pub record AreItems (unit : ℕ → Option TimeUnit) (text : List ℕ) (ps : List Pair) : Type 0 where
  pub items : List Item
  pub cut : items_of text ≡ Some items
  pub pairs : pairs_of_items unit items ≡ Some ps

no_items : (unit : ℕ → Option TimeUnit) → AreItems unit [] []
no_items unit = record { items = []; cut = refl; pairs = refl }

more_items : {unit : ℕ → Option TimeUnit} {u : TimeUnit} {ps : List Pair} (number : List ℕ) (l : ℕ) (rest : List ℕ) (d : Decimal)
    → list_any is_designator number ≡ false → is_designator l ≡ true → is_item_number number ≡ true → unit l ≡ Some u
    → decimal_pair u number ≡ pair u d → AreItems unit rest ps → AreItems unit (number ++ l ∷ rest) (pair u d ∷ ps)
more_items {unit} {u} {ps} number l rest d bare ends written named read others = record {
  items = record { number = number; letter = l } ∷ others.items;
  cut = item_first number l rest others.items bare ends others.cut;
  pairs = rw (written, named, others.pairs) (ap (λ p. Some (p ∷ ps)) read);
}

pub digits_written : (ds : List ℕ) → list_all is_digit ds ≡ true → list_all (λ d. is_digit d || is_point d) ds ≡ true
digits_written [] h = refl
digits_written (d ∷ ds) h = rw (
  and_left (is_digit d) (list_all is_digit ds) h,
  digits_written ds (and_right (is_digit d) (list_all is_digit ds) h),
) refl

item_first_digit : (d : ℕ) (cs : List ℕ) → is_digit d ≡ true → list_all (λ e. is_digit e || is_point e) cs ≡ true
    → is_item_number (d ∷ cs) ≡ true
item_first_digit d cs h k = ap (λ b. ((is_minus d || b) || is_point d) && list_all (λ e. is_digit e || is_point e) cs) h
    ∙ ap (λ b. (b || is_point d) && list_all (λ e. is_digit e || is_point e) cs) (or-true (is_minus d)) ∙ k

-- digits, and maybe a point and digits, are the number of an item
pub item_number : (minus : Bool) (ds fs : List ℕ) → are_digits ds ≡ true → list_all (λ d. is_digit d || is_point d) (ds ++ fs) ≡ true
    → is_item_number (minus_if minus ++ (ds ++ fs)) ≡ true
item_number true ds fs h k = k
item_number false [] fs h k = cc
item_number false (d ∷ ds) fs h k = item_first_digit d (ds ++ fs) (and_left (is_digit d) (list_all is_digit ds) (all_digits (d ∷ ds) h))
    (and_right (is_digit d || is_point d) _ k)

no_designator : (minus : Bool) (ds : List ℕ) → list_any is_designator ds ≡ false → list_any is_designator (minus_if minus ++ ds) ≡ false
no_designator true ds h = h
no_designator false ds h = h

-- a number that isn't zero, with its letter
pub number_item : {unit : ℕ → Option TimeUnit} {u : TimeUnit} {ps : List Pair} (z : ℤ) (l : ℕ) (rest : List ℕ) → mag z < 2 ^ 63
    → is_designator l ≡ true → unit l ≡ Some u → AreItems unit rest ps → AreItems unit (item_text z l ++ rest) (number_pairs u z ++ ps)
unfolding item_text number_pairs
number_item {unit} {u} {ps} z l rest small ends named others =
    let wide = abs_small z small in
    let ds = digits_decimal (unsigned_abs z) wide in
    let number = minus_if (is_negative z) ++ digits_of z in
    elim (is_zero z) as (λ b. AreItems unit ((if b then [] else number ++ l ∷ []) ++ rest) ((if b then []
    else pair u (whole_number (is_negative z) (unsigned_abs z)) ∷ []) ++ ps)) [
      | true ↦ others
      | false ↦ subst (λ t. AreItems unit t (pair u (whole_number (is_negative z) (unsigned_abs z)) ∷ ps))
          (sym (append_assoc number (l ∷ []) rest))
          (more_items number l rest (whole_number (is_negative z) (unsigned_abs z))
          (no_designator (is_negative z) (digits_of z)
          (none_of_digits is_designator digit_no_designator (digits_of z) (all_digits (digits_of z) ds)))
          ends
          (ap (λ t. is_item_number (minus_if (is_negative z) ++ t)) (sym (append-nil (digits_of z)))
          ∙ item_number (is_negative z) (digits_of z) [] ds (ap (list_all (λ d. is_digit d || is_point d)) (append-nil (digits_of z))
          ∙ digits_written (digits_of z) (all_digits (digits_of z) ds)))
          named
          (decimal_pair_whole u (is_negative z) (unsigned_abs z) wide)
          others)
    ]

-- ---- seconds

six_length : (n : ℕ) → length (six_digits n) ≡ 6
unfolding six_digits
six_length n = refl

six_short : (n : ℕ) → length (six_digits n) ≤ 18
unfolding six_digits
six_short n = lit≤ tt

second_number : (minus : Bool) (s : ℕ) (z : ℤ) → s < 2 ^ 64 → unsigned_abs z < 1000000
    → decimal_pair Second (minus_if minus ++ (decimal s ++ fraction_of z)) ≡ pair Second (second_decimal minus s z)
unfolding fraction_of second_decimal
second_number minus s z small below = elim (is_zero z) as
    (λ b. decimal_pair Second (minus_if minus ++ (decimal s ++ (if b then [] else 46 ∷ six_digits (unsigned_abs z))))
    ≡ pair Second (if b then whole_number minus s else record { negative = minus; whole = s; fraction = unsigned_abs z; places = 6 })) [
      | true ↦ ap (λ t. decimal_pair Second (minus_if minus ++ t)) (append-nil (decimal s)) ∙ decimal_pair_whole Second minus s small
      | false ↦
          ap (λ r. record { number = checked r; unit = Second })
          (decimal_point minus (decimal s) (six_digits (unsigned_abs z)) (digits_decimal s small) (six_are_digits (unsigned_abs z))
          (six_short (unsigned_abs z)))
          ∙ ap (λ w. pair Second (record {
            negative = minus;
            whole = w;
            fraction = digits_value 10 (six_digits (unsigned_abs z));
            places = length (six_digits (unsigned_abs z));
          })) (value_decimal s small)
          ∙ ap (λ f. pair Second (record {
            negative = minus;
            whole = s;
            fraction = f;
            places = length (six_digits (unsigned_abs z));
          })) (six_value (unsigned_abs z) below)
          ∙ ap (λ p. pair Second (record { negative = minus; whole = s; fraction = unsigned_abs z; places = p }))
          (six_length (unsigned_abs z))
    ]

fraction_bare : (z : ℤ) → list_any is_designator (fraction_of z) ≡ false
unfolding fraction_of
fraction_bare z = elim (is_zero z) as (λ b. list_any is_designator (if b then [] else 46 ∷ six_digits (unsigned_abs z)) ≡ false) [
  | true ↦ refl
  | false ↦ none_of_digits is_designator digit_no_designator (six_digits (unsigned_abs z)) (six_are_digits (unsigned_abs z))
]

fraction_written : (z : ℤ) → list_all (λ d. is_digit d || is_point d) (fraction_of z) ≡ true
unfolding fraction_of
fraction_written z = elim (is_zero z) as (λ b. list_all (λ d. is_digit d || is_point d) (if b then [] else 46 ∷ six_digits (unsigned_abs z))
    ≡ true) [
      | true ↦ refl
      | false ↦ digits_written (six_digits (unsigned_abs z)) (six_are_digits (unsigned_abs z))
    ]

pub second_pairs : IntervalNorm → List Pair
second_pairs n = if is_second_zero n then [] else pair Second
    (second_decimal (is_second_negative n) (unsigned_abs n.seconds) n.microseconds) ∷ []

second_items : (n : IntervalNorm) → IsSized n → AreItems time_unit (second_text n) (second_pairs n)
unfolding second_text second_pairs
second_items n size =
    let minus = is_second_negative n in
    let s = digits_of n.seconds in
    let f = fraction_of n.microseconds in
    let wide = abs_small n.seconds size.seconds in
    let ds = digits_decimal (unsigned_abs n.seconds) wide in
    elim (is_second_zero n) as (λ b. AreItems time_unit (if b then [] else minus_if minus ++ s ++ f ++ 83 ∷ []) (if b then []
    else pair Second (second_decimal minus (unsigned_abs n.seconds) n.microseconds) ∷ [])) [
      | true ↦ no_items time_unit
      | false ↦ subst (λ t. AreItems time_unit (t ++ 83 ∷ [])
          (pair Second (second_decimal minus (unsigned_abs n.seconds) n.microseconds) ∷ [])) (sym (append_assoc (minus_if minus) s f))
          (more_items (minus_if minus ++ (s ++ f)) 83 [] (second_decimal minus (unsigned_abs n.seconds) n.microseconds)
          (no_designator minus (s ++ f) (list_any-append is_designator s f
          ∙ (rw (none_of_digits is_designator digit_no_designator s (all_digits s ds), fraction_bare n.microseconds) refl)))
          refl
          (item_number minus s f ds (list_all-append (λ d. is_digit d || is_point d) s f
          ∙ (rw (digits_written s (all_digits s ds), fraction_written n.microseconds) refl)))
          refl
          (second_number minus (unsigned_abs n.seconds) n.microseconds wide size.microseconds)
          (no_items time_unit))
    ]

seconds_are_time : (a b c d : Bool) → (c || d) ≡ true → (((a || b) || c) || d) ≡ true
seconds_are_time true b c d h = refl
seconds_are_time false true c d h = refl
seconds_are_time false false c d h = h

-- the numbers of the seconds have one sign
pub record HasSecondSign (minus : Bool) (n : IntervalNorm) : Type 0 where
  pub seconds : with_sign minus (unsigned_abs n.seconds) ≡ n.seconds
  pub microseconds : with_sign minus (unsigned_abs n.microseconds) ≡ n.microseconds

second_sign_by : (n : IntervalNorm) (b : Bool) → is_second_negative n ≡ b → HasTimeSign (is_time_negative n) n → HasSecondSign b n
second_sign_by n false e sign = record {
  seconds = above n.seconds (or_none_left (is_negative n.seconds) (is_negative n.microseconds) e);
  microseconds = above n.microseconds (or_none_right (is_negative n.seconds) (is_negative n.microseconds) e);
}
second_sign_by n true e sign =
    let t : is_time_negative n ≡ true = seconds_are_time (is_negative n.hours) (is_negative n.minutes) (is_negative n.seconds)
    (is_negative n.microseconds) e in
    let known : HasTimeSign true n = subst (λ b. HasTimeSign b n) t sign in
    record { seconds = known.seconds; microseconds = known.microseconds }

pub second_sign : (n : IntervalNorm) → HasTimeSign (is_time_negative n) n → HasSecondSign (is_second_negative n) n
second_sign n sign = second_sign_by n (is_second_negative n) refl sign

no_more : (i : Interval) → sum_of i nothing ≡ i
no_more i = same_interval _ _ (omega (arith, ints)) (omega (arith, ints)) (omega (arith, ints))

-- what the seconds add up to
abbrev pub second_sum : IntervalNorm → Interval
second_sum n = sum_of (unit_worth Second n.seconds) (record { months = pos 0; days = pos 0; microseconds = n.microseconds })

second_total_by : (range : ParseError) (n : IntervalNorm) (b : Bool) → is_second_zero n ≡ b → IsSized n
    → HasSecondSign (is_second_negative n) n → total_of range (if b then []
    else pair Second (second_decimal (is_second_negative n) (unsigned_abs n.seconds) n.microseconds) ∷ []) ≡ Ok (second_sum n)
unfolding is_second_zero
second_total_by range n true e size sign = ap Ok (sym (rw (
  zero_is_zero n.seconds (and_left _ _ e),
  zero_is_zero n.microseconds (and_right (is_zero n.seconds) _ e),
) refl))
second_total_by range n false e size sign =
    let minus = is_second_negative n in
    let d = second_decimal minus (unsigned_abs n.seconds) n.microseconds in
    whole_worth range Second d [] nothing (ap (fits_above 63) (second_whole minus (unsigned_abs n.seconds) n.microseconds ∙ sign.seconds)
    ∙ fits_by_mag 63 n.seconds size.seconds) refl
    ∙ ap Ok (no_more (worth Second d) ∙ second_worth minus (unsigned_abs n.seconds) n.microseconds sign.microseconds
    ∙ ap (λ y. sum_of (unit_worth Second y) (record { months = pos 0; days = pos 0; microseconds = n.microseconds })) sign.seconds)

second_total : (range : ParseError) (n : IntervalNorm) → IsSized n → HasSecondSign (is_second_negative n) n
    → total_of range (second_pairs n) ≡ Ok (second_sum n)
unfolding second_pairs
second_total range n size sign = second_total_by range n (is_second_zero n) refl size sign

-- ---- the two halves

date_text : IntervalNorm → List ℕ
date_text n = item_text n.years 89 ++ item_text n.months 77 ++ item_text n.days 68

clock_text : IntervalNorm → List ℕ
clock_text n = item_text n.hours 72 ++ item_text n.minutes 77 ++ second_text n

date_pairs : IntervalNorm → List Pair
date_pairs n = number_pairs Year n.years ++ (number_pairs Month n.months ++ (number_pairs Day n.days ++ []))

clock_pairs : IntervalNorm → List Pair
clock_pairs n = number_pairs Hour n.hours ++ (number_pairs Minute n.minutes ++ second_pairs n)

wider : (z : ℤ) → mag z < 2 ^ 31 → mag z < 2 ^ 63
wider z h = omega arith

date_items : (n : IntervalNorm) → IsSized n → AreItems date_unit (date_text n) (date_pairs n)
unfolding date_text date_pairs
date_items n size =
    let y = item_text n.years 89 in
    let m = item_text n.months 77 in
    let d = item_text n.days 68 in
    subst (λ t. AreItems date_unit t (number_pairs Year n.years ++ (number_pairs Month n.months ++ (number_pairs Day n.days ++ []))))
    (sym (append_assoc y m d ∙ ap (λ t. y ++ (m ++ t)) (sym (append-nil d))))
    (number_item n.years 89 (m ++ (d ++ [])) (wider n.years size.years) refl refl
    (number_item n.months 77 (d ++ []) (wider n.months size.months) refl refl
    (number_item n.days 68 [] (wider n.days size.days) refl refl (no_items date_unit))))

clock_items : (n : IntervalNorm) → IsSized n → AreItems time_unit (clock_text n) (clock_pairs n)
unfolding clock_text clock_pairs
clock_items n size =
    let h = item_text n.hours 72 in
    let m = item_text n.minutes 77 in
    subst (λ t. AreItems time_unit t (number_pairs Hour n.hours ++ (number_pairs Minute n.minutes ++ second_pairs n)))
    (sym (append_assoc h m (second_text n)))
    (number_item n.hours 72 (m ++ second_text n) size.hours refl refl
    (number_item n.minutes 77 (second_text n) size.minutes refl refl (second_items n size)))

is_t : ℕ → Bool
is_t b = b == 84

none_append : (xs ys : List ℕ) → list_any (λ b. b == 84) xs ≡ false → list_any (λ b. b == 84) ys ≡ false
    → list_any (λ b. b == 84) (xs ++ ys) ≡ false
none_append xs ys h k = list_any-append (λ b. b == 84) xs ys ∙ (rw (h, k) refl)

minus_no_t : (b : Bool) → list_any (λ c. c == 84) (minus_if b) ≡ false
minus_no_t true = refl
minus_no_t false = refl

item_no_t : (z : ℤ) (l : ℕ) → mag z < 2 ^ 63 → (l == 84) ≡ false → list_any (λ b. b == 84) (item_text z l) ≡ false
unfolding item_text
item_no_t z l small h = elim (is_zero z) as (λ b. list_any (λ c. c == 84) (if b then []
    else minus_if (is_negative z) ++ digits_of z ++ l ∷ []) ≡ false) [
      | true ↦ refl
      | false ↦ none_append (minus_if (is_negative z) ++ digits_of z) (l ∷ [])
          (none_append (minus_if (is_negative z)) (digits_of z) (minus_no_t (is_negative z))
          (none_of_digits (λ c. c == 84) digit_no_t (digits_of z)
          (all_digits (digits_of z) (digits_decimal (unsigned_abs z) (abs_small z small))))) (rw h refl)
    ]

fraction_no_t : (z : ℤ) → list_any (λ b. b == 84) (fraction_of z) ≡ false
unfolding fraction_of
fraction_no_t z = elim (is_zero z) as (λ b. list_any (λ c. c == 84) (if b then [] else 46 ∷ six_digits (unsigned_abs z)) ≡ false) [
  | true ↦ refl
  | false ↦ none_of_digits (λ c. c == 84) digit_no_t (six_digits (unsigned_abs z)) (six_are_digits (unsigned_abs z))
]

second_no_t : (n : IntervalNorm) → IsSized n → list_any (λ b. b == 84) (second_text n) ≡ false
unfolding second_text
second_no_t n size = elim (is_second_zero n) as (λ b. list_any (λ c. c == 84) (if b then []
    else minus_if (is_second_negative n) ++ digits_of n.seconds ++ fraction_of n.microseconds ++ 83 ∷ []) ≡ false) [
      | true ↦ refl
      | false ↦ none_append (minus_if (is_second_negative n) ++ digits_of n.seconds ++ fraction_of n.microseconds) (83 ∷ [])
          (none_append (minus_if (is_second_negative n) ++ digits_of n.seconds) (fraction_of n.microseconds)
          (none_append (minus_if (is_second_negative n)) (digits_of n.seconds) (minus_no_t (is_second_negative n))
          (none_of_digits (λ c. c == 84) digit_no_t (digits_of n.seconds)
          (all_digits (digits_of n.seconds) (digits_decimal (unsigned_abs n.seconds) (abs_small n.seconds size.seconds)))))
          (fraction_no_t n.microseconds)) refl
    ]

date_no_t : (n : IntervalNorm) → IsSized n → list_any (λ b. b == 84) (date_text n) ≡ false
unfolding date_text
date_no_t n size = none_append (item_text n.years 89 ++ item_text n.months 77) (item_text n.days 68)
    (none_append (item_text n.years 89) (item_text n.months 77) (item_no_t n.years 89 (wider n.years size.years) refl)
    (item_no_t n.months 77 (wider n.months size.months) refl)) (item_no_t n.days 68 (wider n.days size.days) refl)

clock_no_t : (n : IntervalNorm) → IsSized n → list_any (λ b. b == 84) (clock_text n) ≡ false
unfolding clock_text
clock_no_t n size = none_append (item_text n.hours 72 ++ item_text n.minutes 77) (second_text n)
    (none_append (item_text n.hours 72) (item_text n.minutes 77) (item_no_t n.hours 72 size.hours refl)
    (item_no_t n.minutes 77 size.minutes refl)) (second_no_t n size)

-- the pairs of the text behind `P`
pub iso_all_pairs : IntervalNorm → List Pair
iso_all_pairs n = if is_time_zero n then date_pairs n else date_pairs n ++ clock_pairs n

halves_by : (n : IntervalNorm) (b : Bool) → IsSized n
    → pairs_of_halves (slice_split (λ c. c == 84) (date_text n ++ (if b then [] else 84 ∷ clock_text n)))
    ≡ Some (if b then date_pairs n else date_pairs n ++ clock_pairs n)
halves_by n true size =
    let date = date_items n size in
    ap (λ t. pairs_of_halves (slice_split (λ c. c == 84) t)) (append-nil (date_text n))
    ∙ ap pairs_of_halves (split_none (λ c. c == 84) (date_text n) (date_no_t n size))
    ∙ (rw (date.cut, date.pairs) refl)
halves_by n false size =
    let date = date_items n size in
    let clock = clock_items n size in
    ap pairs_of_halves (split_at (λ c. c == 84) (date_text n) 84 (clock_text n) (date_no_t n size) refl
    ∙ ap (λ ps. date_text n ∷ ps) (split_none (λ c. c == 84) (clock_text n) (clock_no_t n size)))
    ∙ (rw (date.cut, date.pairs, clock.cut, clock.pairs) refl)

clock_total : (range : ParseError) (n : IntervalNorm) → IsSized n → HasSecondSign (is_second_negative n) n
    → total_of range (clock_pairs n) ≡ Ok (time_sum n)
unfolding clock_pairs
clock_total range n size sign = number_total range Hour n.hours _ _ (fits_by_mag 63 n.hours size.hours)
    (number_total range Minute n.minutes _ _ (fits_by_mag 63 n.minutes size.minutes) (second_total range n size sign))

no_clock : (n : IntervalNorm) → is_time_zero n ≡ true → nothing ≡ time_sum n
no_clock n h = let f = time_zero_fields n h in rw (
  f 0 (pos 1) (lit< tt),
  f 1 (pos 1) (lit< tt),
  f 2 (pos 1) (lit< tt),
  f 3 (pos 1) (lit< tt),
) refl

iso_total_by : (range : ParseError) (n : IntervalNorm) (b : Bool) → is_time_zero n ≡ b → IsSized n → HasSecondSign (is_second_negative n) n
    → total_of range (if b then date_pairs n else date_pairs n ++ clock_pairs n) ≡ Ok (exact_total n)
unfolding date_pairs
iso_total_by range n true e size sign = date_total range n [] size (ap Ok (no_clock n e))
iso_total_by range n false e size sign =
    ap (total_of range) (append_assoc (number_pairs Year n.years) (number_pairs Month n.months ++ (number_pairs Day n.days ++ []))
    (clock_pairs n)
    ∙ ap (λ ps. number_pairs Year n.years ++ ps) (append_assoc (number_pairs Month n.months) (number_pairs Day n.days ++ []) (clock_pairs n)
    ∙ ap (λ ps. number_pairs Month n.months ++ ps) (append_assoc (number_pairs Day n.days) [] (clock_pairs n))))
    ∙ date_total range n (clock_pairs n) size (clock_total range n size sign)

-- ---- the whole text

empty_append : (xs ys : List ℕ) → is_empty (xs ++ ys) ≡ (is_empty xs && is_empty ys)
empty_append [] ys = refl
empty_append (x ∷ xs) ys = refl

empty_last : (xs : List ℕ) (l : ℕ) → is_empty (xs ++ l ∷ []) ≡ false
empty_last [] l = refl
empty_last (x ∷ xs) l = refl

item_empty : (z : ℤ) (l : ℕ) → is_empty (item_text z l) ≡ is_zero z
unfolding item_text
item_empty z l = elim (is_zero z) as (λ b. is_empty (if b then [] else minus_if (is_negative z) ++ digits_of z ++ l ∷ []) ≡ b) [
  | true ↦ refl
  | false ↦ empty_last (minus_if (is_negative z) ++ digits_of z) l
]

clock_empty : (n : IntervalNorm) → is_empty (iso_time_text n) ≡ is_time_zero n
unfolding iso_time_text
clock_empty n = elim (is_time_zero n) as (λ b. is_empty (if b then []
    else 84 ∷ item_text n.hours 72 ++ item_text n.minutes 77 ++ second_text n) ≡ b) [ true ↦ refl | false ↦ refl ]

text_empty : (n : IntervalNorm) → is_empty (date_text n ++ iso_time_text n) ≡ is_all_zero n
unfolding date_text is_all_zero is_year_month_zero
text_empty n =
    empty_append (item_text n.years 89 ++ item_text n.months 77 ++ item_text n.days 68) (iso_time_text n)
    ∙ ap (λ b. b && is_empty (iso_time_text n)) (empty_append (item_text n.years 89 ++ item_text n.months 77) (item_text n.days 68)
    ∙ ap (λ b. b && is_empty (item_text n.days 68)) (empty_append (item_text n.years 89) (item_text n.months 77)))
    ∙ (rw (item_empty n.years 89, item_empty n.months 77, item_empty n.days 68, clock_empty n) refl)

iso_whole : (xs : List ℕ) → is_empty xs ≡ false → iso_pairs (80 ∷ xs) ≡ pairs_of_halves (slice_split (λ c. c == 84) xs)
unfolding iso_pairs
iso_whole [] h = cc
iso_whole (x ∷ xs) h = refl

item_length : (z : ℤ) (l : ℕ) → mag z < 2 ^ 63 → length (item_text z l) ≤ 22
unfolding item_text
item_length z l small =
    let a : length (minus_if (is_negative z)) ≤ 1 = minus_length (is_negative z) in
    let d : length (decimal (unsigned_abs z)) ≤ 20 = decimal_length (unsigned_abs z) (abs_small z small) in
    elim (is_zero z) as (λ b. length (if b then [] else minus_if (is_negative z) ++ digits_of z ++ l ∷ []) ≤ 22) [
      | true ↦ zero-le
      | false ↦ omega (
        arith,
        length-append (minus_if (is_negative z) ++ digits_of z) (l ∷ []),
        length-append (minus_if (is_negative z)) (digits_of z),
      )
    ]

second_length : (n : IntervalNorm) → IsSized n → length (second_text n) ≤ 29
unfolding second_text
second_length n size =
    let a : length (minus_if (is_second_negative n)) ≤ 1 = minus_length (is_second_negative n) in
    let d : length (decimal (unsigned_abs n.seconds)) ≤ 20 = decimal_length (unsigned_abs n.seconds) (abs_small n.seconds size.seconds) in
    let f : length (fraction_of n.microseconds) ≤ 7 = fraction_length n.microseconds in
    elim (is_second_zero n) as (λ b. length (if b then []
    else minus_if (is_second_negative n) ++ digits_of n.seconds ++ fraction_of n.microseconds ++ 83 ∷ []) ≤ 29) [
      | true ↦ zero-le
      | false ↦ omega (
        arith,
        length-append (minus_if (is_second_negative n) ++ digits_of n.seconds ++ fraction_of n.microseconds)
            (83 ∷ []),
        length-append (minus_if (is_second_negative n) ++ digits_of n.seconds) (fraction_of n.microseconds),
        length-append (minus_if (is_second_negative n)) (digits_of n.seconds),
      )
    ]

iso_time_length : (n : IntervalNorm) → IsSized n → length (iso_time_text n) ≤ 80
unfolding iso_time_text
iso_time_length n size =
    let h : length (item_text n.hours 72) ≤ 22 = item_length n.hours 72 size.hours in
    let m : length (item_text n.minutes 77) ≤ 22 = item_length n.minutes 77 size.minutes in
    let s : length (second_text n) ≤ 29 = second_length n size in
    elim (is_time_zero n) as (λ b. length (if b then [] else 84 ∷ item_text n.hours 72 ++ item_text n.minutes 77 ++ second_text n) ≤ 80) [
      | true ↦ zero-le
      | false ↦ omega (
        arith,
        length-append (item_text n.hours 72 ++ item_text n.minutes 77) (second_text n),
        length-append (item_text n.hours 72) (item_text n.minutes 77),
      )
    ]

iso_length : (n : IntervalNorm) → IsSized n → length (80 ∷ (date_text n ++ iso_time_text n)) ≤ 4096
unfolding date_text
iso_length n size =
    let y : length (item_text n.years 89) ≤ 22 = item_length n.years 89 (wider n.years size.years) in
    let m : length (item_text n.months 77) ≤ 22 = item_length n.months 77 (wider n.months size.months) in
    let d : length (item_text n.days 68) ≤ 22 = item_length n.days 68 (wider n.days size.days) in
    let t : length (iso_time_text n) ≤ 80 = iso_time_length n size in
    omega (
      arith,
      length-append (item_text n.years 89 ++ item_text n.months 77 ++ item_text n.days 68) (iso_time_text n),
      length-append (item_text n.years 89 ++ item_text n.months 77) (item_text n.days 68),
      length-append (item_text n.years 89) (item_text n.months 77),
    )

iso_read : (n : IntervalNorm) → is_all_zero n ≡ false → IsSized n
    → iso_pairs (80 ∷ (date_text n ++ iso_time_text n)) ≡ Some (iso_all_pairs n)
unfolding iso_time_text clock_text iso_all_pairs
iso_read n e size = iso_whole (date_text n ++ iso_time_text n) (text_empty n ∙ e) ∙ halves_by n (is_time_zero n) size

iso_zero : reading Iso8601 (codes "PT0S") ≡ Ok nothing
unfolding reading iso_pairs
iso_zero = refl

iso_by : (i : Interval) (b : Bool) → is_all_zero (normal_form i) ≡ b → IsInterval i
    → reading Iso8601 (if b then codes "PT0S" else 80 ∷ (date_text (normal_form i) ++ iso_time_text (normal_form i))) ≡ Ok i
unfolding reading iso_all_pairs
iso_by i true e within = iso_zero ∙ ap Ok (sym (zero_interval i e))
iso_by i false e within =
    let n = normal_form i in
    let size = normal_sizes i within in
    let text = 80 ∷ (date_text n ++ iso_time_text n) in
    ap (λ b. if b then Err (InvalidInterval TooLong)
    else of_shape Iso8601 (iso_pairs text)) (not_longer 4096 (length text) (iso_length n size))
    ∙ ap (of_shape Iso8601) (iso_read n e size)
    ∙ judged_interval (out_of_range Iso8601) (iso_all_pairs n) i within
    (iso_total_by (out_of_range Iso8601) n (is_time_zero n) refl size (second_sign n (normal_time_sign i)))

-- what is printed stands for the interval
pub iso_stands : (i : Interval) → IsInterval i → reading Iso8601 (printed Iso8601 i) ≡ Ok i
unfolding iso_text date_text
iso_stands i within = iso_by i (is_all_zero (normal_form i)) refl within
