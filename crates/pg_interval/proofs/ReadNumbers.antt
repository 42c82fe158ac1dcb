-- The steps by which a reader reads a number of a text.
use Rattle.std.proofs.Common.{◌≡◌, ℕ, suc, ◌+◌, ◌-◌, ◌*◌, ◌^◌, ◌<◌, ◌≤◌, min, Bool, true, false, not, ◌&&◌, ◌||◌, ◌≢◌, List, [], ◌∷◌, ◌++◌, length, get_or, take, drop, ap, ◌∙◌, sym, refl, arith, lit<, Option, None, Some, Result, Ok, Err, cond}
use mathlib.Core.List.{append-nil}
use Rattle.std.specs.Prelude.{cond, if◌then◌else◌, ◌==◌, nat_lt}
use Rattle.std.specs.List.{list_all, list_any, prefix_len, slice_split, onto_first}
use Rattle.std.specs.Char.{digit_value}
use Rattle.std.specs.Str.Parse.{digits_value, AllDigits}
use Rattle.std.proofs.lemmas.Int.Digits.{digits_value_more, digits_value-lt}
use Rattle.std.proofs.lemmas.Str.{digit_value_digit}
use Rattle.std.proofs.lemmas.List.Folds.{list_all_at, list_all-append}
use Rattle.std.proofs.lemmas.List.Sums.{prefix_len-le-length}
use Rattle.std.proofs.lemmas.List.{take_all}
use Rattle.std.proofs.Math.Nat.{pow-le-pow_right}
use Rattle.pg_interval.specs.Texts.{is_digit, is_minus, is_point, is_empty, are_digits, begins, without_sign}
use Rattle.pg_interval.specs.Decimals.{Decimal, number_of, decimal_of, decimal_of_parts, decimal_between}
use Rattle.pg_interval.specs.Reader.{capped, capped_decimal, fraction_after, number_held, turned_if}
use Rattle.interval_errors.specs.declared.DecimalError.{DecimalError}
use Rattle.interval_errors.specs.declared.DecimalError.TheVariants.{Malformed, TooManyDigits}
use Rattle.pg_interval.proofs.DigitTexts.{and_left, and_right, split_none, split_at, none_of_digits, digit_no_point, not_longer}

-- ---- lists

pub all_at : (p : ℕ → Bool) (xs : List ℕ) (i : ℕ) → list_all p xs ≡ true → i < length xs → p (get_or xs i 0) ≡ true
all_at p xs i all lt = by (p (get_or xs i 0)) refl
  where
    by : (b : Bool) → p (get_or xs i 0) ≡ b → p (get_or xs i 0) ≡ true
    by true e = e
    by false e = let f = list_all_at p xs i 0 lt e in cc

add_one_front : (n : ℕ) → 1 + n ≡ suc n
add_one_front n = omega arith

front_by : (p : ℕ → Bool) (x : ℕ) (xs : List ℕ) (b : Bool) → p x ≡ b → list_all p (take (prefix_len p xs) xs) ≡ true
    → list_all p (take (cond b (1 + prefix_len p xs) 0) (x ∷ xs)) ≡ true
front_by p x xs true e h = rw add_one_front (ap (λ b. b && list_all p (take (prefix_len p xs) xs)) e ∙ h)
front_by p x xs false e h = refl

pub front_passes : (p : ℕ → Bool) (xs : List ℕ) → list_all p (take (prefix_len p xs) xs) ≡ true
front_passes p [] = refl
front_passes p (x ∷ xs) = front_by p x xs (p x) refl (front_passes p xs)

back_by : (p : ℕ → Bool) (x : ℕ) (xs : List ℕ) (b : Bool) → p x ≡ b → begins p (drop (prefix_len p xs) xs) ≡ false
    → begins p (drop (cond b (1 + prefix_len p xs) 0) (x ∷ xs)) ≡ false
back_by p x xs true e h = rw add_one_front h
back_by p x xs false e h = e

pub back_fails : (p : ℕ → Bool) (xs : List ℕ) → begins p (drop (prefix_len p xs) xs) ≡ false
back_fails p [] = refl
back_fails p (x ∷ xs) = back_by p x xs (p x) refl (back_fails p xs)

-- a run that is the whole list
pub all_run : (p : ℕ → Bool) (xs : List ℕ) → prefix_len p xs ≡ length xs → list_all p xs ≡ true
all_run p xs e = ap (list_all p) (sym (ap (λ n. take n xs) e ∙ take_all (length xs) xs (omega arith))) ∙ front_passes p xs

not_all_by : (p : ℕ → Bool) (x : ℕ) (xs : List ℕ) (b : Bool) → p x ≡ b → cond b (1 + prefix_len p xs) 0 < 1 + length xs
    → (prefix_len p xs < length xs → list_all p xs ≡ false) → (p x && list_all p xs) ≡ false
not_all_by p x xs true e lt h = ap (λ b. b && list_all p xs) e ∙ h (omega arith)
not_all_by p x xs false e lt h = ap (λ b. b && list_all p xs) e

pub not_all_run : (p : ℕ → Bool) (xs : List ℕ) → prefix_len p xs < length xs → list_all p xs ≡ false
not_all_run p [] lt = absurd (omega arith)
not_all_run p (x ∷ xs) lt = not_all_by p x xs (p x) refl (omega arith) (not_all_run p xs)

-- ---- digits

digit_range : (c : ℕ) → is_digit c ≡ true → (48 ≤ c) × (c ≤ 57)
digit_range c h = (grind arith, grind arith)

pub digit_is : (c : ℕ) → is_digit c ≡ true → digit_value c ≡ c - 48
digit_is c h = let r = digit_range c h in let v = digit_value_digit c (r.0, r.1) in omega arith

all_digits_of : (ds : List ℕ) → list_all is_digit ds ≡ true → AllDigits 10 ds
all_digits_of [] h = tt
all_digits_of (d ∷ ds) h = (
  let k = and_left (is_digit d) (list_all is_digit ds) h in let r = digit_range d k in let e = digit_is d
      k in omega arith,
  all_digits_of ds (and_right (is_digit d) (list_all is_digit ds) h),
)

pub digits_below : (ds : List ℕ) → list_all is_digit ds ≡ true → length ds ≤ 18 → digits_value 10 ds < 10 ^ 18
digits_below ds all few = let a = digits_value-lt 10 ds (all_digits_of ds all) in let b : 10 ^ length ds ≤ 10 ^ 18 =
    pow-le-pow_right (lit< tt) few in omega arith

capped_more : (v d : ℕ) → min (min (capped v * 10) 18446744073709551615 + d) 18446744073709551615 ≡ capped (v * 10 + d)
capped_more v d = omega arith

pub digits_step : (ds : List ℕ) (i value product digit sum : ℕ) → list_all is_digit ds ≡ true → i < length ds
    → value ≡ capped (digits_value 10 (take i ds)) → product ≡ min (value * 10) 18446744073709551615 → digit ≡ get_or ds i 0 - 48
    → sum ≡ min (product + digit) 18446744073709551615 → sum ≡ capped (digits_value 10 (take (i + 1) ds))
digits_step ds i value product digit sum all lt v p d s =
    let at = digit_is (get_or ds i 0) (all_at is_digit ds i all lt) in
    let more = digits_value_more 10 ds i lt in
    s ∙ (rw (p, d, v, more, at) (capped_more (digits_value 10 (take i ds)) (get_or ds i 0 - 48)))

pub number_is : (minus : Bool) (w f : List ℕ) (a b : ℕ) → a ≡ capped (digits_value 10 w) → b ≡ capped (digits_value 10 f)
    → list_all is_digit f ≡ true → length f ≤ 18 → (let d : Decimal = record {
      negative = minus;
      whole = a;
      fraction = b;
      places = length f;
    } in d) ≡ capped_decimal (number_of minus w f)
number_is minus w f a b ea eb all few = let small = digits_below f all few in let e : b ≡ digits_value 10 f = omega arith in rw (ea, e) refl

-- ---- cuts

pub split_parts : (q : ℕ → Bool) (xs : List ℕ) → (p : List ℕ) × (ps : List (List ℕ)) × (slice_split q xs ≡ p ∷ ps)
split_parts q [] = ([], [], refl)
split_parts q (x ∷ xs) =
    let rest = split_parts q xs in
    elim (q x) as (λ b. (p : List ℕ) × (ps : List (List ℕ))
    × ((if b then [] ∷ slice_split q xs else onto_first x (slice_split q xs)) ≡ p ∷ ps)) [
      | true ↦ ([], slice_split q xs, refl)
      | false ↦ (x ∷ rest.0, rest.1, ap (onto_first x) rest.2)
    ]

-- a text with a byte that cuts it has two parts or more
two_by : (q : ℕ → Bool) (x : ℕ) (xs : List ℕ) (b : Bool) → (b || list_any q xs) ≡ true
    → (list_any q xs ≡ true → (p : List ℕ) × (r : List ℕ) × (ps : List (List ℕ)) × (slice_split q xs ≡ p ∷ r ∷ ps))
    → (p : List ℕ) × (r : List ℕ) × (ps : List (List ℕ))
    × ((if b then [] ∷ slice_split q xs else onto_first x (slice_split q xs)) ≡ p ∷ r ∷ ps)
two_by q x xs true e h = let f = split_parts q xs in ([], f.0, f.1, ap (λ ps. [] ∷ ps) f.2)
two_by q x xs false e h = let r = h e in (x ∷ r.0, r.1, r.2, ap (onto_first x) r.3)

-- a text with a byte that cuts it has two parts or more
pub two_parts : (q : ℕ → Bool) (xs : List ℕ) → list_any q xs ≡ true
    → (p : List ℕ) × (r : List ℕ) × (ps : List (List ℕ)) × (slice_split q xs ≡ p ∷ r ∷ ps)
two_parts q [] h = cc
two_parts q (x ∷ xs) h = two_by q x xs (q x) h (two_parts q xs)

-- ---- decimals

pub none_right : (b : Bool) → (b && false) ≡ false
none_right true = refl
none_right false = refl

not_digits : (xs ys : List ℕ) → list_all is_digit xs ≡ false → are_digits (xs ++ ys) ≡ false
not_digits xs ys h = ap (λ b. not (is_empty (xs ++ ys)) && b) (list_all-append is_digit xs ys ∙ ap (λ b. b && list_all is_digit ys) h)
    ∙ none_right (not (is_empty (xs ++ ys)))

bad_first : (minus : Bool) (first : List ℕ) (ps : List (List ℕ)) → list_all is_digit first ≡ false
    → decimal_of_parts minus (first ∷ ps) ≡ Err Malformed
bad_first minus first [] h = rw (not_digits first [] h) refl
bad_first minus first (f ∷ []) h = rw (not_digits first f h) refl
bad_first minus first (f ∷ g ∷ ps) h = refl

bad_second : (minus : Bool) (first f : List ℕ) (ps : List (List ℕ)) → list_all is_digit f ≡ false
    → decimal_of_parts minus (first ∷ f ∷ ps) ≡ Err Malformed
bad_second minus first f [] h = rw (not_digits_after first f h) refl
  where
    not_digits_after : (xs ys : List ℕ) → list_all is_digit ys ≡ false → are_digits (xs ++ ys) ≡ false
    not_digits_after xs ys h = ap (λ b. not (is_empty (xs ++ ys)) && b) (list_all-append is_digit xs ys
        ∙ ap (λ b. list_all is_digit xs && b) h ∙ none_right (list_all is_digit xs)) ∙ none_right (not (is_empty (xs ++ ys)))
bad_second minus first f (g ∷ ps) h = refl

-- the parts of digits with other bytes behind them, which are never none
parts_after : (w r : List ℕ) → list_all is_digit w ≡ true
    → (p : List ℕ) × (ps : List (List ℕ)) × (slice_split is_point (w ++ r) ≡ (w ++ p) ∷ ps) × (slice_split is_point r ≡ p ∷ ps)
parts_after [] r h = let q = split_parts is_point r in (q.0, q.1, q.2, q.2)
parts_after (d ∷ w) r h =
    let q = parts_after w r (and_right (is_digit d) (list_all is_digit w) h) in
    (q.0, q.1, (rw (digit_no_point d (and_left (is_digit d) (list_all is_digit w) h)) (ap (onto_first d) q.2)), q.3)

-- what digits and the rest behind them are, by the fraction in the rest
abbrev pub from_fraction : Bool → List ℕ → Option (List ℕ) → Result Decimal DecimalError
from_fraction minus w None = Err Malformed
from_fraction minus w (Some f) = decimal_between minus w f

pub not_digit_first : (c : ℕ) (p : List ℕ) (w : List ℕ) → is_digit c ≡ false → list_all is_digit (w ++ c ∷ p) ≡ false
not_digit_first c p w h = list_all-append is_digit w (c ∷ p) ∙ (rw h (none_right (list_all is_digit w)))

not_point : (c : ℕ) (cs : List ℕ) → is_point c ≡ false
    → (p : List ℕ) × (ps : List (List ℕ)) × (slice_split is_point (c ∷ cs) ≡ (c ∷ p) ∷ ps)
not_point c cs h = let q = split_parts is_point cs in (q.0, q.1, (rw h (ap (onto_first c) q.2)))

malformed_tail : (minus : Bool) (w cs : List ℕ) (some : Bool) → list_any is_point cs ≡ some → list_all is_digit cs ≡ false
    → decimal_of_parts minus (w ∷ slice_split is_point cs) ≡ Err Malformed
malformed_tail minus w cs false none e = ap (λ ps. decimal_of_parts minus (w ∷ ps)) (split_none is_point cs none)
    ∙ bad_second minus w cs [] e
malformed_tail minus w cs true some e = let q = two_parts is_point cs some in ap (λ ps. decimal_of_parts minus (w ∷ ps)) q.3

fraction_parts : (minus : Bool) (w cs : List ℕ) (all : Bool) → list_all is_digit cs ≡ all
    → decimal_of_parts minus (w ∷ slice_split is_point cs) ≡ from_fraction minus w (if all then Some cs else None)
fraction_parts minus w cs true e = ap (λ ps. decimal_of_parts minus (w ∷ ps))
    (split_none is_point cs (none_of_digits is_point digit_no_point cs e))
fraction_parts minus w cs false e = malformed_tail minus w cs (list_any is_point cs) refl e

first_same : (x y : List ℕ) (xs ys : List (List ℕ)) → x ∷ xs ≡ y ∷ ys → x ≡ y
first_same x y xs ys e = cc

after_by : (minus : Bool) (w : List ℕ) (c : ℕ) (cs : List ℕ) (b : Bool) → list_all is_digit w ≡ true → is_digit c ≡ false → is_point c ≡ b
    → decimal_of_parts minus (slice_split is_point (w ++ c ∷ cs))
    ≡ from_fraction minus w (if b && list_all is_digit cs then Some cs else None)
after_by minus w c cs true all stop e = ap (decimal_of_parts minus)
    (split_at is_point w c cs (none_of_digits is_point digit_no_point w all) e) ∙ fraction_parts minus w cs (list_all is_digit cs) refl
after_by minus w c cs false all stop e =
    let q = parts_after w (c ∷ cs) all in
    let n = not_point c cs e in
    let p : q.0 ≡ c ∷ n.0 = first_same q.0 (c ∷ n.0) q.1 n.1 (sym q.3 ∙ n.2) in
    ap (decimal_of_parts minus) q.2 ∙ ap (λ x. decimal_of_parts minus ((w ++ x) ∷ q.1)) p
    ∙ bad_first minus (w ++ c ∷ n.0) q.1 (not_digit_first c n.0 w stop)

pub after_digits : (minus : Bool) (w r : List ℕ) → list_all is_digit w ≡ true → begins is_digit r ≡ false
    → decimal_of_parts minus (slice_split is_point (w ++ r)) ≡ from_fraction minus w (fraction_after r)
after_digits minus w [] all stop =
    ap (λ t. decimal_of_parts minus (slice_split is_point t)) (append-nil w)
    ∙ ap (decimal_of_parts minus) (split_none is_point w (none_of_digits is_point digit_no_point w all))
after_digits minus w (c ∷ cs) all stop = after_by minus w c cs (is_point c) all stop refl

filled_decimal : (text : List ℕ) → 0 < length text
    → decimal_of text ≡ decimal_of_parts (begins is_minus text) (slice_split is_point (without_sign text))
filled_decimal [] h = absurd (omega arith)
filled_decimal (c ∷ cs) h = refl

pub decimal_is : (text w r : List ℕ) → 0 < length text → without_sign text ≡ w ++ r → list_all is_digit w ≡ true → begins is_digit r ≡ false
    → decimal_of text ≡ from_fraction (begins is_minus text) w (fraction_after r)
decimal_is text w r filled parts all stop = filled_decimal text filled
    ∙ ap (λ t. decimal_of_parts (begins is_minus text) (slice_split is_point t)) parts ∙ after_digits (begins is_minus text) w r all stop

fraction_by : (cs f : List ℕ) (c : ℕ) (b : Bool) → (is_point c && list_all is_digit cs) ≡ b → (if b then Some cs else None) ≡ Some f
    → list_all is_digit f ≡ true
fraction_by cs f c true h k = let same : cs ≡ f = cc in ap (list_all is_digit) (sym same) ∙ and_right (is_point c) (list_all is_digit cs) h
fraction_by cs f c false h k = cc

none_same : (f : List ℕ) → Some [] ≡ Some f → [] ≡ f
none_same f e = cc

-- the digits that `fraction_after` gives
pub fraction_digits : (r f : List ℕ) → fraction_after r ≡ Some f → list_all is_digit f ≡ true
fraction_digits [] f e = ap (list_all is_digit) (sym (none_same f e))
fraction_digits (c ∷ cs) f e = fraction_by cs f c (is_point c && list_all is_digit cs) refl e

between_filled : (w f : List ℕ) → list_all is_digit w ≡ true → list_all is_digit f ≡ true → 0 < length w + length f
    → are_digits (w ++ f) ≡ true
between_filled [] [] a b h = absurd (omega arith)
between_filled [] (c ∷ f) a b h = b
between_filled (c ∷ w) f a b h = list_all-append is_digit (c ∷ w) f ∙ (rw (a, b) refl)

-- the answers of a reader of one decimal
pub malformed_read : (turn minus : Bool) (w r : List ℕ) (text : List ℕ) → decimal_of text ≡ from_fraction minus w (fraction_after r)
    → fraction_after r ≡ None → Err Malformed ≡ number_held turn (decimal_of text)
malformed_read turn minus w r text e none = sym (ap (number_held turn) (e ∙ ap (from_fraction minus w) none))

pub nothing_read : (turn minus : Bool) (w r f text : List ℕ) → decimal_of text ≡ from_fraction minus w (fraction_after r)
    → fraction_after r ≡ Some f → length w ≡ 0 → length f ≡ 0 → Err Malformed ≡ number_held turn (decimal_of text)
nothing_read turn minus [] r [] text e some a b = sym (ap (number_held turn) (e ∙ ap (from_fraction minus []) some))
nothing_read turn minus [] r (c ∷ f) text e some a b = absurd (omega arith)
nothing_read turn minus (c ∷ w) r f text e some a b = absurd (omega arith)

pub long_read : (turn minus : Bool) (w r f text : List ℕ) → decimal_of text ≡ from_fraction minus w (fraction_after r)
    → fraction_after r ≡ Some f → list_all is_digit w ≡ true → 18 < length f → Err TooManyDigits ≡ number_held turn (decimal_of text)
long_read turn minus w r f text e some all long =
    let digits = between_filled w f all (fraction_digits r f some) (omega arith) in
    let past : nat_lt 18 (length f) ≡ true = grind arith in
    let long : decimal_between minus w f ≡ Err TooManyDigits = rw (digits, past) refl in
    sym (ap (number_held turn) (e ∙ ap (from_fraction minus w) some ∙ long))

pub turned_sign : (turn minus : Bool) (w f : List ℕ)
    → number_of (if turn then not minus else minus) w f ≡ turned_if turn (number_of minus w f)
turned_sign true minus w f = refl
turned_sign false minus w f = refl

pub good_read : (turn minus : Bool) (w r f text : List ℕ) (d : Decimal) → decimal_of text ≡ from_fraction minus w (fraction_after r)
    → fraction_after r ≡ Some f → list_all is_digit w ≡ true → length f ≤ 18 → 0 < length w + length f
    → d ≡ capped_decimal (number_of (if turn then not minus else minus) w f) → Ok d ≡ number_held turn (decimal_of text)
good_read turn minus w r f text d e some all few filled is =
    let digits = between_filled w f all (fraction_digits r f some) filled in
    let short : decimal_between minus w f ≡ Ok (number_of minus w f) = rw (digits, not_longer 18 (length f) few) refl in
    ap Ok (is ∙ ap capped_decimal (turned_sign turn minus w f)) ∙ sym (ap (number_held turn) (e ∙ ap (from_fraction minus w) some ∙ short))

-- ---- what stands behind a point

pub fraction_yes : (r : List ℕ) → 0 < length r → get_or r 0 0 ≡ 46 → prefix_len is_digit (drop 1 r) ≡ length (drop 1 r)
    → fraction_after r ≡ Some (drop 1 r)
fraction_yes [] h at run = absurd (omega arith)
fraction_yes (c ∷ cs) h at run = rw (at, all_run is_digit cs run) refl

pub fraction_no_point : (r : List ℕ) → 0 < length r → get_or r 0 0 ≢ 46 → fraction_after r ≡ None
fraction_no_point [] h at = absurd (omega arith)
fraction_no_point (c ∷ cs) h at = let e : (c == 46) ≡ false = grind arith in rw e refl

pub fraction_no_digits : (r : List ℕ) → 0 < length r → get_or r 0 0 ≡ 46 → prefix_len is_digit (drop 1 r) ≢ length (drop 1 r)
    → fraction_after r ≡ None
fraction_no_digits [] h at run = absurd (omega arith)
fraction_no_digits (c ∷ cs) h at run = let lt : prefix_len is_digit cs < length cs = omega (arith, prefix_len-le-length is_digit cs) in
    rw (at, not_all_run is_digit cs lt) refl
