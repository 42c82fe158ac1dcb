-- What pairs add up to, and that no unit has two of them.
use Rattle.std.proofs.Common.{◌≡◌, ℕ, Bool, true, false, ◌&&◌, List, [], ◌∷◌, ◌++◌, ap, ◌∙◌, sym, refl, arith, Ok, ℤ, pos}
use mathlib.Core.List.{append_assoc, append-nil}
use Rattle.std.specs.Prelude.{if◌then◌else◌, ◌==◌, unsigned_abs}
use Rattle.std.specs.List.{list_any}
use Rattle.std.proofs.lemmas.Int.{ints}
use Rattle.std.proofs.lemmas.Bool.{eqb-true}
use Rattle.pg_interval.specs.Cell.{IsInterval}
use Rattle.pg_interval.specs.Decimals.{Decimal, TimeUnit, Year, Month, Day, Hour, Minute, Second, with_sign, whole_part, worth, is_zero_decimal}
use Rattle.pg_interval.specs.Pairs.{Pair, pair, fits_field, fits_above, total_of, sum_of, nothing, interval_of_pairs, judged}
use Rattle.pg_interval.specs.PostgresText.{same_unit, each_unit_once, unless_zero}
use Rattle.pg_interval.specs.Printed.{is_zero}
use Rattle.pg_interval.specs.NormalForm.{normal_form, exact_total}
use Rattle.pg_interval.specs.declared.pg_interval.Interval.{Interval}
use Rattle.pg_interval.specs.declared.interval_norm.IntervalNorm.{IntervalNorm}
use Rattle.interval_errors.specs.declared.ParseError.{ParseError}
use Rattle.pg_interval.proofs.PrintedLemmas.{is_zero_yes}
use Rattle.pg_interval.proofs.DigitTexts.{and_left, and_right}
use Rattle.pg_interval.proofs.PartTexts.{whole_number, number_pairs, number_total, unit_worth, worth_whole, whole_worth, zero_sign, nothing_more, fits_by_mag}
use Rattle.pg_interval.proofs.TimeTexts.{second_decimal, second_worth, time_numbers}
use Rattle.pg_interval.proofs.NormalFacts.{IsSized, HasTimeSign, fields_sum, same_interval}
use Rattle.pg_interval.proofs.NormalFormLemmas.{exact_total-normal_form}

-- ---- sums

-- a number, left out where it is zero, in front of the other pairs
unless_total_by : (range : ParseError) (u : TimeUnit) (d : Decimal) (ps : List Pair) (i : Interval) (b : Bool) → is_zero_decimal d ≡ b
    → fits_field u (whole_part d) ≡ true → (is_zero_decimal d ≡ true → worth u d ≡ nothing) → total_of range ps ≡ Ok i
    → total_of range (unless_zero u d ++ ps) ≡ Ok (sum_of (worth u d) i)
unless_total_by range u d ps i true e h none k =
    ap (λ b. total_of range ((if b then [] else pair u d ∷ []) ++ ps)) e ∙ k ∙ ap Ok (sym (ap (λ w. sum_of w i) (none e) ∙ nothing_more i))
unless_total_by range u d ps i false e h none k =
    ap (λ b. total_of range ((if b then [] else pair u d ∷ []) ++ ps)) e ∙ whole_worth range u d ps i h k

no_number : (n : ℕ) → (n == 0 && 0 == 0) ≡ true → n ≡ 0
no_number n h = eqb-true n 0 (and_left (n == 0) _ h)

whole_none : (u : TimeUnit) (minus : Bool) (n : ℕ) → is_zero_decimal (whole_number minus n) ≡ true
    → worth u (whole_number minus n) ≡ nothing
whole_none u minus n h = worth_whole u minus n ∙ ap (λ m. unit_worth u (with_sign minus m)) (no_number n h)
    ∙ ap (unit_worth u) (zero_sign minus) ∙ zero_unit u
  where
    zero_unit : (u : TimeUnit) → unit_worth u (pos 0) ≡ nothing
    zero_unit Year = refl
    zero_unit Month = refl
    zero_unit Day = refl
    zero_unit Hour = refl
    zero_unit Minute = refl
    zero_unit Second = refl

second_none_by : (minus : Bool) (s : ℕ) (z : ℤ) (b : Bool) → is_zero z ≡ b
    → is_zero_decimal (if b then whole_number minus s else record { negative = minus; whole = s; fraction = unsigned_abs z; places = 6 })
    ≡ true → worth Second (if b then whole_number minus s else record {
      negative = minus;
      whole = s;
      fraction = unsigned_abs z;
      places = 6;
    }) ≡ nothing
second_none_by minus s z true e h = whole_none Second minus s h
second_none_by minus s z false e h = let zero : unsigned_abs z ≡ 0 = eqb-true (unsigned_abs z) 0 (and_right (s == 0) _ h) in
    let t : is_zero z ≡ true = is_zero_yes z zero in cc

second_none : (minus : Bool) (s : ℕ) (z : ℤ) → is_zero_decimal (second_decimal minus s z) ≡ true
    → worth Second (second_decimal minus s z) ≡ nothing
unfolding second_decimal
second_none minus s z h = second_none_by minus s z (is_zero z) refl h

second_whole_by : (minus : Bool) (s : ℕ) (z : ℤ) (b : Bool)
    → whole_part (if b then whole_number minus s else record { negative = minus; whole = s; fraction = unsigned_abs z; places = 6 })
    ≡ with_sign minus s
second_whole_by minus s z true = refl
second_whole_by minus s z false = refl

pub second_whole : (minus : Bool) (s : ℕ) (z : ℤ) → whole_part (second_decimal minus s z) ≡ with_sign minus s
unfolding second_decimal
second_whole minus s z = second_whole_by minus s z (is_zero z)

-- the time's three sums, added to those of the other pairs
abbrev pub time_sum : IntervalNorm → Interval
time_sum n = sum_of (unit_worth Hour n.hours) (sum_of (unit_worth Minute n.minutes)
    (sum_of (unit_worth Second n.seconds) (record { months = pos 0; days = pos 0; microseconds = n.microseconds })))

regrouped : (w i : Interval) → sum_of w (sum_of i nothing) ≡ sum_of w i
regrouped w i = same_interval _ _ (omega (arith, ints)) (omega (arith, ints)) (omega (arith, ints))

no_more : (i : Interval) → sum_of i nothing ≡ i
no_more i = same_interval _ _ (omega (arith, ints)) (omega (arith, ints)) (omega (arith, ints))

pub time_total : (range : ParseError) (minus : Bool) (n : IntervalNorm) → HasTimeSign minus n → IsSized n
    → total_of range (time_numbers minus n) ≡ Ok (time_sum n)
unfolding time_numbers
time_total range minus n sign size =
    let h = whole_number minus (unsigned_abs n.hours) in
    let m = whole_number minus (unsigned_abs n.minutes) in
    let s = second_decimal minus (unsigned_abs n.seconds) n.microseconds in
    let last : total_of range (unless_zero Second s ++ []) ≡ Ok (sum_of (worth Second s) nothing) =
    unless_total_by range Second s [] nothing (is_zero_decimal s) refl
    (ap (fits_above 63) (second_whole minus (unsigned_abs n.seconds) n.microseconds ∙ sign.seconds)
    ∙ fits_by_mag 63 n.seconds size.seconds) (second_none minus (unsigned_abs n.seconds) n.microseconds) refl in
    let middle = unless_total_by range Minute m (unless_zero Second s ++ []) _ (is_zero_decimal m) refl (ap (fits_above 63) sign.minutes
    ∙ fits_by_mag 63 n.minutes size.minutes) (whole_none Minute minus (unsigned_abs n.minutes)) last in
    let first = unless_total_by range Hour h (unless_zero Minute m ++ (unless_zero Second s ++ [])) _ (is_zero_decimal h) refl
    (ap (fits_above 63) sign.hours ∙ fits_by_mag 63 n.hours size.hours) (whole_none Hour minus (unsigned_abs n.hours)) middle in
    ap (total_of range) (append_assoc (unless_zero Hour h) (unless_zero Minute m) (unless_zero Second s)
    ∙ ap (λ ps. unless_zero Hour h ++ (unless_zero Minute m ++ ps)) (sym (append-nil (unless_zero Second s))))
    ∙ first
    ∙ ap (λ w. Ok (sum_of w (sum_of (worth Minute m) (sum_of (worth Second s) nothing)))) (worth_whole Hour minus (unsigned_abs n.hours)
    ∙ ap (unit_worth Hour) sign.hours)
    ∙ ap (λ w. Ok (sum_of (unit_worth Hour n.hours) (sum_of w (sum_of (worth Second s) nothing))))
    (worth_whole Minute minus (unsigned_abs n.minutes) ∙ ap (unit_worth Minute) sign.minutes)
    ∙ ap (λ w. Ok (sum_of (unit_worth Hour n.hours) (sum_of (unit_worth Minute n.minutes) w))) (no_more (worth Second s)
    ∙ second_worth minus (unsigned_abs n.seconds) n.microseconds sign.microseconds
    ∙ ap (λ y. sum_of (unit_worth Second y) (record { months = pos 0; days = pos 0; microseconds = n.microseconds })) sign.seconds)

-- the date's numbers in front of what the time's pairs add up to
pub date_total : (range : ParseError) (n : IntervalNorm) (ps : List Pair) → IsSized n → total_of range ps ≡ Ok (time_sum n)
    → total_of range (number_pairs Year n.years ++ (number_pairs Month n.months ++ (number_pairs Day n.days ++ ps))) ≡ Ok (exact_total n)
date_total range n ps size h =
    number_total range Year n.years _ _ (fits_by_mag 31 n.years size.years)
    (number_total range Month n.months _ _ (fits_by_mag 31 n.months size.months)
    (number_total range Day n.days ps (time_sum n) (fits_by_mag 31 n.days size.days) h))
    ∙ ap Ok (fields_sum n)

-- pairs that add up to an interval's numbers stand for it
pub judged_interval : (range : ParseError) (ps : List Pair) (i : Interval) → IsInterval i
    → total_of range ps ≡ Ok (exact_total (normal_form i)) → interval_of_pairs range ps ≡ Ok i
judged_interval range ps i within h =
    ap judged (h ∙ ap Ok (exact_total-normal_form i))
    ∙ (rw (
      fits_by_mag 31 i.months within.months.sfits,
      fits_by_mag 31 i.days within.days.sfits,
      fits_by_mag 63 i.microseconds within.microseconds.sfits,
    ) refl)

-- ---- units

-- a pair of a unit, or none
abbrev pub maybe : Bool → TimeUnit → Decimal → List Pair
maybe none u d = if none then [] else pair u d ∷ []

once_more : (none : Bool) (u : TimeUnit) (d : Decimal) (ps : List Pair) → list_any (λ q. same_unit u q.unit) ps ≡ false
    → each_unit_once ps ≡ true → each_unit_once (maybe none u d ++ ps) ≡ true
once_more true u d ps h k = k
once_more false u d ps h k = rw (h, k) refl

none_more : (none : Bool) (u v : TimeUnit) (d : Decimal) (ps : List Pair) → same_unit u v ≡ false
    → list_any (λ q. same_unit u q.unit) ps ≡ false → list_any (λ q. same_unit u q.unit) (maybe none v d ++ ps) ≡ false
none_more true u v d ps h k = k
none_more false u v d ps h k = rw (h, k) refl

pub six_once : (a b c e f g : Bool) (y m d h n s : Decimal)
    → each_unit_once (maybe a Year y ++ (maybe b Month m
    ++ (maybe c Day d ++ (maybe e Hour h ++ (maybe f Minute n ++ (maybe g Second s ++ [])))))) ≡ true
six_once a b c e f g y m d h n s =
    let five = maybe g Second s ++ [] in
    let four = maybe f Minute n ++ five in
    let three = maybe e Hour h ++ four in
    let two = maybe c Day d ++ three in
    once_more a Year y (maybe b Month m ++ two) (none_more b Year Month m two refl
    (none_more c Year Day d three refl (none_more e Year Hour h four refl
    (none_more f Year Minute n five refl (none_more g Year Second s [] refl refl)))))
    (once_more b Month m two (none_more c Month Day d three refl
    (none_more e Month Hour h four refl (none_more f Month Minute n five refl (none_more g Month Second s [] refl refl))))
    (once_more c Day d three (none_more e Day Hour h four refl (none_more f Day Minute n five refl (none_more g Day Second s [] refl refl)))
    (once_more e Hour h four (none_more f Hour Minute n five refl (none_more g Hour Second s [] refl refl))
    (once_more f Minute n five (none_more g Minute Second s [] refl refl)
    (once_more g Second s [] refl refl)))))
