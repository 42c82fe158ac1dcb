-- What the first try at a text of items finds there.
use Rattle.std.proofs.Common.{◌≡◌, ℕ, ◌+◌, ◌*◌, ◌^◌, ◌<◌, ◌≤◌, Bool, true, false, not, ◌||◌, List, [], ◌∷◌, ◌++◌, length, ap, ◌∙◌, sym, refl, arith, Some, None, Ok, pos, ◌+ℤ◌, ◌*ℤ◌}
use mathlib.Core.List.{append_assoc, append-nil}
use Rattle.std.specs.Prelude.{if◌then◌else◌, ◌==◌}
use Rattle.std.specs.List.{list_all}
use Rattle.std.specs.Str.Parse.{digits_value}
use Rattle.std.proofs.lemmas.Int.{ints}
use Rattle.std.proofs.lemmas.List.Folds.{list_all-append}
use Rattle.pg_interval.specs.Texts.{◌>>=◌, is_digit, is_point, is_minus, begins}
use Rattle.pg_interval.specs.Decimals.{Decimal, TimeUnit, Year, Month, Day, Hour, Minute, Second, decimal_of, with_sign, worth, whole_part}
use Rattle.pg_interval.specs.Pairs.{checked, sum_of, fits_field}
use Rattle.pg_interval.specs.IsoText.{is_designator, is_item_number}
use Rattle.pg_interval.specs.ItemReader.{is_time_mark, is_unmarked, unit_at, left}
use Rattle.pg_interval.specs.Printed.{minus_if}
use Rattle.pg_interval.specs.Reader.{tallied}
use Rattle.pg_interval.specs.WordReader.{out_of_range}
use Rattle.pg_interval.specs.FrontReader.{IsNumberFront, IsFraction, amount, only_time, only_months, without_minus}
use Rattle.pg_interval.specs.declared.pg_interval.Interval.{Interval}
use Rattle.pg_interval.proofs.DigitTexts.{and_left, and_right, all_digits, decimal_whole, decimal_point}
use Rattle.pg_interval.proofs.PartTexts.{whole_number, unit_worth, worth_whole}
use Rattle.pg_interval.proofs.TimeTexts.{rounded_six}
use Rattle.pg_interval.proofs.ReadSums.{tallied_fits}
use Rattle.pg_interval.proofs.ReadItems.{item_first, letter_no_mark}
use Rattle.pg_interval.proofs.IsoReads.{item_number, digits_written}
use Rattle.pg_interval.proofs.FrontSigns.{same_byte}
use Rattle.pg_interval.proofs.FrontFields.{fits_small, wider}

-- ---- what an item is worth

twelve : (b : Bool) (n : ℕ) → pos 12 *ℤ with_sign b n ≡ with_sign b (12 * n)
twelve true n = omega (arith, ints)
twelve false n = omega (arith, ints)

hours : (b : Bool) (n : ℕ) → pos 3600000000 *ℤ with_sign b n ≡ with_sign b (3600000000 * n)
hours true n = omega (arith, ints)
hours false n = omega (arith, ints)

minutes : (b : Bool) (n : ℕ) → pos 60000000 *ℤ with_sign b n ≡ with_sign b (60000000 * n)
minutes true n = omega (arith, ints)
minutes false n = omega (arith, ints)

seconds : (b : Bool) (n : ℕ) → pos 1000000 *ℤ with_sign b n ≡ with_sign b (1000000 * n)
seconds true n = omega (arith, ints)
seconds false n = omega (arith, ints)

amount_by : (u : TimeUnit) (b : Bool) (n : ℕ) → unit_worth u (with_sign b n) ≡ amount u b n
amount_by Year b n = ap only_months (twelve b n)
amount_by Month b n = refl
amount_by Day b n = refl
amount_by Hour b n = ap only_time (hours b n)
amount_by Minute b n = ap only_time (minutes b n)
amount_by Second b n = ap only_time (seconds b n)

amount_is : (u : TimeUnit) (b : Bool) (n : ℕ) → worth u (whole_number b n) ≡ amount u b n
amount_is u b n = worth_whole u b n ∙ amount_by u b n

whole_fits : (u : TimeUnit) (b : Bool) (n : ℕ) → n < 2 ^ 31 → fits_field u (with_sign b n) ≡ true
whole_fits Year b n h = fits_small 31 b n h
whole_fits Month b n h = fits_small 31 b n h
whole_fits Day b n h = fits_small 31 b n h
whole_fits Hour b n h = fits_small 63 b n (wider n h)
whole_fits Minute b n h = fits_small 63 b n (wider n h)
whole_fits Second b n h = fits_small 63 b n (wider n h)

-- a whole second with six digits behind the point
with_six : Bool → ℕ → ℕ → Decimal
with_six b s f = record { negative = b; whole = s; fraction = f; places = 6 }

six_sum : (b : Bool) (s f : ℕ) → pos 1000000 *ℤ with_sign b s +ℤ with_sign b f ≡ with_sign b (1000000 * s + f)
six_sum true s f = omega (arith, ints)
six_sum false s f = omega (arith, ints)

six_worth : (b : Bool) (s f : ℕ) → worth Second (with_six b s f) ≡ only_time (with_sign b (1000000 * s + f))
unfolding with_six
six_worth b s f = ap (λ n. only_time (pos 1000000 *ℤ with_sign b s +ℤ with_sign b n)) (rounded_six f) ∙ ap only_time (six_sum b s f)

six_fits : (b : Bool) (s f : ℕ) → s < 2 ^ 31 → fits_field Second (whole_part (with_six b s f)) ≡ true
unfolding with_six
six_fits b s f h = fits_small 63 b s (wider s h)

-- ---- an item in front of the rest

minus_split_by : (c : ℕ) (cs xs : List ℕ) (b : Bool) → is_minus c ≡ b → (if b then cs else c ∷ cs) ≡ xs → c ∷ cs ≡ minus_if b ++ xs
minus_split_by c cs xs true e h = ap (λ x. x ∷ cs) (same_byte c 45 e) ∙ ap (λ t. 45 ∷ t) h
minus_split_by c cs xs false e h = h

minus_split : (text xs : List ℕ) → without_minus text ≡ xs → text ≡ minus_if (begins is_minus text) ++ xs
minus_split [] xs h = h
minus_split (c ∷ cs) xs h = minus_split_by c cs xs (is_minus c) refl h

date_letter_by : (a b c d e : Bool) (u : TimeUnit)
    → Some u ≡ (if a then Some Year else (if b then Some Month else (if c then Some Day else (if d then Some Hour else None))))
    → (a || b || c || d || e) ≡ true
date_letter_by true b c d e u h = refl
date_letter_by false true c d e u h = refl
date_letter_by false false true d e u h = refl
date_letter_by false false false true e u h = refl
date_letter_by false false false false e u h = cc

time_letter_by : (a b c d e : Bool) (u : TimeUnit)
    → Some u ≡ (if a then Some Year
    else (if b then Some Minute else (if c then Some Day else (if d then Some Hour else (if e then Some Second else None)))))
    → (a || b || c || d || e) ≡ true
time_letter_by true b c d e u h = refl
time_letter_by false true c d e u h = refl
time_letter_by false false true d e u h = refl
time_letter_by false false false true e u h = refl
time_letter_by false false false false true u h = refl
time_letter_by false false false false false u h = cc

named_letter : (in_time : Bool) (l : ℕ) (u : TimeUnit) → Some u ≡ unit_at in_time l → is_designator l ≡ true
named_letter true l u h = time_letter_by (l == 89) (l == 77) (l == 68) (l == 72) (l == 83) u h
named_letter false l u h = date_letter_by (l == 89) (l == 77) (l == 68) (l == 72) (l == 83) u h

letter_stops : (l : ℕ) → is_designator l ≡ true → is_unmarked l ≡ false
letter_stops l h = ap (λ b. not (b || is_time_mark l)) h

digit_unmarked : (c : ℕ) → is_digit c ≡ true → is_unmarked c ≡ true
digit_unmarked c h = grind arith

digits_unmarked : (ds : List ℕ) → list_all is_digit ds ≡ true → list_all is_unmarked ds ≡ true
digits_unmarked [] h = refl
digits_unmarked (d ∷ ds) h = rw (
  digit_unmarked d (and_left (is_digit d) (list_all is_digit ds) h),
  digits_unmarked ds
      (and_right (is_digit d) (list_all is_digit ds) h),
) refl

signed_unmarked : (b : Bool) (xs : List ℕ) → list_all is_unmarked xs ≡ true → list_all is_unmarked (minus_if b ++ xs) ≡ true
signed_unmarked true xs h = h
signed_unmarked false xs h = h

-- an item of this number, which is good and fits
item_worth : (in_time : Bool) (i : Interval) (number : List ℕ) (l : ℕ) (rest : List ℕ) (u : TimeUnit) (d : Decimal)
    → list_all is_unmarked number ≡ true → is_item_number number ≡ true → Some u ≡ unit_at in_time l → decimal_of number ≡ Ok d
    → fits_field u (whole_part d) ≡ true → left in_time (Ok i) (number ++ l ∷ rest) ≡ left in_time (Ok (sum_of i (worth u d))) rest
item_worth in_time i number l rest u d plain good named read fits =
    let letter = named_letter in_time l u named in
    item_first in_time (Ok i) number l rest plain (letter_stops l letter) (letter_no_mark l letter)
    ∙ ap (λ x. if x then (unit_at in_time l >>= λ u. left in_time (tallied out_of_range u (checked (decimal_of number)) (Ok i))
    rest) else None) good
    ∙ ap (λ o. o >>= λ u. left in_time (tallied out_of_range u (checked (decimal_of number)) (Ok i)) rest) (sym named)
    ∙ ap (λ n. left in_time (tallied out_of_range u (checked n) (Ok i)) rest) read
    ∙ ap (λ r. left in_time r rest) (tallied_fits out_of_range u d (Ok i) fits)

pub item_read : (in_time : Bool) (i j : Interval) (text bare behind rest : List ℕ) (n l : ℕ) (u : TimeUnit)
    → bare ≡ without_minus text → IsNumberFront n bare behind → behind ≡ l ∷ rest → Some u ≡ unit_at in_time l
    → j ≡ sum_of i (amount u (begins is_minus text) n) → left in_time (Ok i) text ≡ left in_time (Ok j) rest
item_read in_time i j text bare behind rest n l u e f at named sum =
    let b = begins is_minus text in
    let ds = f.digits in
    let number = minus_if b ++ ds in
    let whole : text ≡ number ++ l ∷ rest = minus_split text (ds ++ behind) (sym e ∙ f.parts) ∙ ap (λ t. minus_if b ++ (ds ++ t)) at
    ∙ sym (append_assoc (minus_if b) ds (l ∷ rest)) in
    let all = all_digits ds f.are in
    let good : is_item_number number ≡ true = ap (λ t. is_item_number (minus_if b ++ t)) (sym (append-nil ds))
    ∙ item_number b ds [] f.are (ap (list_all (λ d. is_digit d || is_point d)) (append-nil ds) ∙ digits_written ds all) in
    let read : decimal_of number ≡ Ok (whole_number b n) = decimal_whole b ds f.are ∙ ap (λ v. Ok (whole_number b v)) f.value in
    ap (left in_time (Ok i)) whole
    ∙ item_worth in_time i number l rest u (whole_number b n) (signed_unmarked b ds (digits_unmarked ds all)) good named read
    (whole_fits u b n f.small)
    ∙ ap (λ w. left in_time (Ok (sum_of i w)) rest) (amount_is u b n)
    ∙ ap (λ s. left in_time (Ok s) rest) (sym sum)

-- seconds with six digits behind the point
pub second_read : (i j : Interval) (text bare behind rest : List ℕ) (n f : ℕ) → bare ≡ without_minus text
    → IsNumberFront n bare behind → IsFraction f behind rest
    → j ≡ sum_of i (only_time (with_sign (begins is_minus text) (1000000 * n + f))) → left true (Ok i) text ≡ left true (Ok j) rest
unfolding with_six
second_read i j text bare behind rest n f e w g sum =
    let b = begins is_minus text in
    let ds = w.digits in
    let fs = g.digits in
    let number = minus_if b ++ (ds ++ 46 ∷ fs) in
    let tail : ds ++ behind ≡ (ds ++ 46 ∷ fs) ++ 83 ∷ rest = ap (λ t. ds ++ t) g.parts ∙ sym (append_assoc ds (46 ∷ fs) (83 ∷ rest)) in
    let whole : text ≡ number ++ 83 ∷ rest = minus_split text (ds ++ behind) (sym e ∙ w.parts) ∙ ap (λ t. minus_if b ++ t) tail
    ∙ sym (append_assoc (minus_if b) (ds ++ 46 ∷ fs) (83 ∷ rest)) in
    let all = all_digits ds w.are in
    let rest_all = all_digits fs g.are in
    let digit : ℕ → Bool = λ d. is_digit d || is_point d in
    let written : list_all digit (ds ++ 46 ∷ fs) ≡ true = list_all-append digit ds (46 ∷ fs)
    ∙ (rw (digits_written ds all, digits_written fs rest_all) refl) in
    let plain : list_all is_unmarked (ds ++ 46 ∷ fs) ≡ true = list_all-append is_unmarked ds (46 ∷ fs)
    ∙ (rw (digits_unmarked ds all, digits_unmarked fs rest_all) refl) in
    let few : length fs ≤ 18 = let six : length fs ≡ 6 = g.six in omega arith in
    let read : decimal_of number ≡ Ok (with_six b n f) =
    decimal_point b ds fs w.are rest_all few
    ∙ ap (λ v. Ok (record { negative = b; whole = v; fraction = digits_value 10 fs; places = length fs })) w.value
    ∙ ap (λ v. Ok (record { negative = b; whole = n; fraction = v; places = length fs })) g.value
    ∙ ap (λ p. Ok (record { negative = b; whole = n; fraction = f; places = p })) g.six in
    ap (left true (Ok i)) whole
    ∙ item_worth true i number 83 rest Second (with_six b n f) (signed_unmarked b (ds ++ 46 ∷ fs) plain)
    (item_number b ds (46 ∷ fs) w.are written) refl read (six_fits b n f w.small)
    ∙ ap (λ w. left true (Ok (sum_of i w)) rest) (six_worth b n f)
    ∙ ap (λ s. left true (Ok s) rest) (sym sum)
