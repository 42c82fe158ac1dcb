-- What the style postgres prints stands for the interval.
use Rattle.std.proofs.Common.{◌≡◌, ℕ, ◌+◌, ◌^◌, ◌<◌, ◌≤◌, Bool, true, false, List, [], ◌∷◌, ◌++◌, length, map, ap, ◌∙◌, sym, refl, arith, lit<, lit≤, zero-le, Option, Some, None, Ok, Err, ℤ, pos}
use mathlib.Core.List.{append_assoc, append-nil, map-append}
use Rattle.std.specs.Prelude.{if◌then◌else◌, unsigned_abs, codes, decimal, nat_lt, bytes_eq}
use Rattle.std.specs.List.{list_any, flat_map, join_with_byte}
use Rattle.std.specs.Int.{is_negative}
use Rattle.std.specs.Int.Signed.{mag}
use Rattle.std.proofs.lemmas.Grind.{flat_map-append}
use Rattle.std.proofs.lemmas.List.Folds.{list_any-append}
use Rattle.std.proofs.lemmas.Fmt.{length-decimal-le}
use Rattle.std.proofs.Math.ListN.{length-append}
use Rattle.pg_interval.specs.Cell.{IsInterval}
use Rattle.pg_interval.specs.Texts.{◌>>=◌, is_whitespace, is_empty, are_digits, tokens}
use Rattle.pg_interval.specs.Decimals.{TimeUnit, Year, Month, Day, Hour, Minute, Second, is_zero_decimal}
use Rattle.pg_interval.specs.Pairs.{Pair, total_of, nothing}
use Rattle.pg_interval.specs.PostgresText.{token_of, pairs_of_tokens, pairs_by_words, each_unit_once, postgres_pairs, unit_of_word, unless_zero}
use Rattle.pg_interval.specs.Reading.{reading, of_shape, out_of_range, Postgres}
use Rattle.pg_interval.specs.Printed.{Part, part_of, part_text, own_text, word_end, minus_if, digits_of, is_zero, is_all_zero, is_time_zero, is_time_negative, two_digits, two_digits_of, six_digits, fraction_of, after_hours, date_parts, time_texts, postgres_text, printed}
use Rattle.pg_interval.specs.NormalForm.{normal_form, exact_total}
use Rattle.pg_interval.specs.declared.pg_interval.Interval.{Interval}
use Rattle.pg_interval.specs.declared.interval_norm.IntervalNorm.{IntervalNorm}
use Rattle.interval_errors.specs.declared.Reason.TheVariants.{TooLong}
use Rattle.interval_errors.specs.declared.ParseError.{ParseError}
use Rattle.interval_errors.specs.declared.ParseError.TheVariants.{InvalidInterval}
use Rattle.pg_interval.proofs.DigitTexts.{none_of_digits, digit_no_space, all_digits, digits_two, tokens_append, tokens_whole, not_longer}
use Rattle.pg_interval.proofs.PartTexts.{Names, whole_number, number_pairs, number_first, tokens_of_parts, abs_small}
use Rattle.pg_interval.proofs.TimeTexts.{second_decimal, time_numbers, time_token, six_are_digits}
use Rattle.pg_interval.proofs.PrintedLemmas.{all_zero_fields, time_zero_fields, is_zero_is}
use Rattle.pg_interval.proofs.NormalFacts.{IsSized, HasTimeSign, normal_sizes, normal_time_sign, same_interval}
use Rattle.pg_interval.proofs.NormalFormLemmas.{exact_total-normal_form}
use Rattle.pg_interval.proofs.PairSums.{time_total, date_total, judged_interval, six_once}

-- ---- tokens

tokens_joined : (ps : List (List ℕ)) → tokens (join_with_byte 32 ps) ≡ flat_map tokens ps
tokens_joined [] = refl
tokens_joined (p ∷ []) = sym (append-nil (tokens p))
tokens_joined (p ∷ q ∷ ps) = tokens_append p (join_with_byte 32 (q ∷ ps)) ∙ ap (λ ts. tokens p ++ ts) (tokens_joined (q ∷ ps))

tokens_of_texts : (ps : List Part) → map token_of (flat_map tokens (map own_text ps)) ≡ tokens_of_parts ps
unfolding tokens_of_parts
tokens_of_texts [] = refl
tokens_of_texts (p ∷ ps) = map-append token_of (tokens (own_text p)) (flat_map tokens (map own_text ps))
    ∙ ap (λ ts. map token_of (tokens (own_text p)) ++ ts) (tokens_of_texts ps)
    ∙ sym (map-append token_of (tokens (own_text p)) (flat_map (λ q. tokens (own_text q)) ps))

parts_append : (ps qs : List Part) → tokens_of_parts (ps ++ qs) ≡ tokens_of_parts ps ++ tokens_of_parts qs
unfolding tokens_of_parts
parts_append ps qs = ap (map token_of) (flat_map-append (λ p. tokens (own_text p)) ps qs)
    ∙ map-append token_of (flat_map (λ p. tokens (own_text p)) ps) (flat_map (λ p. tokens (own_text p)) qs)

minus_no_space : (minus : Bool) (xs : List ℕ) → list_any is_whitespace xs ≡ false → list_any is_whitespace (minus_if minus ++ xs) ≡ false
minus_no_space true xs h = h
minus_no_space false xs h = h

digits_no_space : (ds : List ℕ) → are_digits ds ≡ true → list_any is_whitespace ds ≡ false
digits_no_space ds h = none_of_digits is_whitespace digit_no_space ds (all_digits ds h)

no_space_append : (xs ys : List ℕ) → list_any is_whitespace xs ≡ false → list_any is_whitespace ys ≡ false
    → list_any is_whitespace (xs ++ ys) ≡ false
no_space_append xs ys h k = list_any-append is_whitespace xs ys ∙ (rw (h, k) refl)

fraction_no_space : (z : ℤ) → list_any is_whitespace (fraction_of z) ≡ false
unfolding fraction_of
fraction_no_space z = elim (is_zero z) as (λ b. list_any is_whitespace (if b then [] else 46 ∷ six_digits (unsigned_abs z)) ≡ false) [
  | true ↦ refl
  | false ↦ none_of_digits is_whitespace digit_no_space (six_digits (unsigned_abs z)) (six_are_digits (unsigned_abs z))
]

pub after_hours_no_space : (n : IntervalNorm) → IsSized n → list_any is_whitespace (after_hours n) ≡ false
unfolding after_hours
after_hours_no_space n size =
    no_space_append (58 ∷ two_digits n.minutes ++ 58 ∷ two_digits n.seconds) (fraction_of n.microseconds)
    (no_space_append (58 ∷ two_digits n.minutes) (58 ∷ two_digits n.seconds)
    (digits_no_space (two_digits n.minutes) (digits_two (unsigned_abs n.minutes) (abs_small n.minutes size.minutes)))
    (digits_no_space (two_digits n.seconds) (digits_two (unsigned_abs n.seconds) (abs_small n.seconds size.seconds))))
    (fraction_no_space n.microseconds)

time_text : IntervalNorm → List ℕ
time_text n = minus_if (is_time_negative n) ++ two_digits n.hours ++ after_hours n

filled_before : (xs ys : List ℕ) → is_empty ys ≡ false → is_empty (xs ++ ys) ≡ false
filled_before [] ys h = h
filled_before (x ∷ xs) ys h = refl

after_hours_filled : (n : IntervalNorm) → is_empty (after_hours n) ≡ false
unfolding after_hours
after_hours_filled n = refl

-- no pair where the time is zero
no_time : (minus : Bool) (n : IntervalNorm) → is_time_zero n ≡ true → time_numbers minus n ≡ []
unfolding time_numbers second_decimal
no_time minus n h =
    let f = time_zero_fields n h in
    rw (f 0 (pos 1) (lit< tt), f 1 (pos 1) (lit< tt), f 2 (pos 1) (lit< tt), f 3 (pos 1) (lit< tt), is_zero_is (pos 0) refl) refl

time_tokens_by : (unit : List ℕ → Option TimeUnit) (n : IntervalNorm) (b : Bool) → is_time_zero n ≡ b → IsSized n
    → pairs_of_tokens unit (map token_of (flat_map tokens (if b then [] else time_text n ∷ [])))
    ≡ Some (time_numbers (is_time_negative n) n)
unfolding time_text
time_tokens_by unit n true e size = ap Some (sym (no_time (is_time_negative n) n e))
time_tokens_by unit n false e size =
    let hours : unsigned_abs n.hours < 2 ^ 64 = abs_small n.hours size.hours in
    ap (λ ts. pairs_of_tokens unit (map token_of ts)) (append-nil (tokens (time_text n)))
    ∙ ap (λ ts. pairs_of_tokens unit (map token_of ts))
    (tokens_whole (time_text n) (filled_before (minus_if (is_time_negative n) ++ two_digits n.hours) (after_hours n)
    (after_hours_filled n))
    (no_space_append (minus_if (is_time_negative n) ++ two_digits n.hours) (after_hours n)
    (minus_no_space (is_time_negative n) (two_digits n.hours)
    (digits_no_space (two_digits n.hours) (digits_two (unsigned_abs n.hours) hours))) (after_hours_no_space n size)))
    ∙ ap (λ t. pairs_of_tokens unit (t ∷ [])) (time_token (is_time_negative n) n hours (abs_small n.minutes size.minutes)
    (abs_small n.seconds size.seconds) size.microseconds)
    ∙ ap Some (append-nil (time_numbers (is_time_negative n) n))

time_tokens : (unit : List ℕ → Option TimeUnit) (n : IntervalNorm) → IsSized n
    → pairs_of_tokens unit (map token_of (flat_map tokens (time_texts n))) ≡ Some (time_numbers (is_time_negative n) n)
unfolding time_texts time_text
time_tokens unit n size = time_tokens_by unit n (is_time_zero n) refl size

-- ---- the whole text

years_named : Names unit_of_word (codes "year") Year
years_named = record { one = refl; many = refl; word = refl; words = refl; filled = refl; unbroken = refl }

months_named : Names unit_of_word (codes "mon") Month
months_named = record { one = refl; many = refl; word = refl; words = refl; filled = refl; unbroken = refl }

days_named : Names unit_of_word (codes "day") Day
days_named = record { one = refl; many = refl; word = refl; words = refl; filled = refl; unbroken = refl }

unfoldable pub all_pairs : IntervalNorm → List Pair
all_pairs n = number_pairs Year n.years ++ (number_pairs Month n.months ++ (number_pairs Day n.days ++ time_numbers (is_time_negative n) n))

once : (n : IntervalNorm) → each_unit_once (all_pairs n) ≡ true
unfolding all_pairs number_pairs time_numbers
once n =
    let h = whole_number (is_time_negative n) (unsigned_abs n.hours) in
    let m = whole_number (is_time_negative n) (unsigned_abs n.minutes) in
    let s = second_decimal (is_time_negative n) (unsigned_abs n.seconds) n.microseconds in
    ap (λ ps. each_unit_once (number_pairs Year n.years ++ (number_pairs Month n.months ++ (number_pairs Day n.days ++ ps))))
    (append_assoc (unless_zero Hour h) (unless_zero Minute m) (unless_zero Second s)
    ∙ ap (λ ps. unless_zero Hour h ++ (unless_zero Minute m ++ ps)) (sym (append-nil (unless_zero Second s))))
    ∙ six_once (is_zero n.years) (is_zero n.months) (is_zero n.days) (is_zero_decimal h) (is_zero_decimal m) (is_zero_decimal s)
    (whole_number (is_negative n.years) (unsigned_abs n.years)) (whole_number (is_negative n.months) (unsigned_abs n.months))
    (whole_number (is_negative n.days) (unsigned_abs n.days)) h m s

wider : (z : ℤ) → mag z < 2 ^ 31 → mag z < 2 ^ 63
wider z h = omega arith

text_tokens : (n : IntervalNorm) → map token_of (tokens (join_with_byte 32 (map own_text (date_parts n) ++ time_texts n)))
    ≡ tokens_of_parts (part_of n.years (codes "year"))
    ++ (tokens_of_parts (part_of n.months (codes "mon"))
    ++ (tokens_of_parts (part_of n.days (codes "day")) ++ map token_of (flat_map tokens (time_texts n))))
unfolding date_parts
text_tokens n =
    let y = part_of n.years (codes "year") in
    let m = part_of n.months (codes "mon") in
    let d = part_of n.days (codes "day") in
    let t = map token_of (flat_map tokens (time_texts n)) in
    ap (map token_of) (tokens_joined (map own_text (y ++ m ++ d) ++ time_texts n)
    ∙ flat_map-append tokens (map own_text (y ++ m ++ d)) (time_texts n))
    ∙ map-append token_of (flat_map tokens (map own_text (y ++ m ++ d))) (flat_map tokens (time_texts n))
    ∙ ap (λ ts. ts ++ t) (tokens_of_texts (y ++ m ++ d) ∙ parts_append (y ++ m) d ∙ ap (λ ts. ts ++ tokens_of_parts d) (parts_append y m))
    ∙ append_assoc (tokens_of_parts y ++ tokens_of_parts m) (tokens_of_parts d) t
    ∙ append_assoc (tokens_of_parts y) (tokens_of_parts m) (tokens_of_parts d ++ t)

pairs_read : (n : IntervalNorm) → IsSized n → pairs_by_words unit_of_word (join_with_byte 32 (map own_text (date_parts n) ++ time_texts n))
    ≡ Some (all_pairs n)
unfolding all_pairs
pairs_read n size =
    ap (λ ts. pairs_of_tokens unit_of_word ts >>= λ ps. if each_unit_once ps then Some ps else None) (text_tokens n)
    ∙ ap (λ o. o >>= λ ps. if each_unit_once ps then Some ps
    else None) (number_first n.years _ _ years_named (wider n.years size.years)
    (number_first n.months _ _ months_named (wider n.months size.months)
    (number_first n.days _ _ days_named (wider n.days size.days) (time_tokens unit_of_word n size))))
    ∙ ap (λ b. if b then Some (all_pairs n) else None) (once n)

all_total : (range : ParseError) (n : IntervalNorm) → IsSized n → HasTimeSign (is_time_negative n) n
    → total_of range (all_pairs n) ≡ Ok (exact_total n)
unfolding all_pairs
all_total range n size sign = date_total range n (time_numbers (is_time_negative n) n) size
    (time_total range (is_time_negative n) n sign size)

-- ---- lengths

-- the length of the parts with a byte for each space
text_size : List (List ℕ) → ℕ
text_size [] = 0
text_size (p ∷ ps) = length p + 1 + text_size ps

joined_size : (ps : List (List ℕ)) → length (join_with_byte 32 ps) ≤ text_size ps
unfolding text_size
joined_size [] = omega arith
joined_size (p ∷ []) = omega arith
joined_size (p ∷ q ∷ ps) = let rest : length (join_with_byte 32 (q ∷ ps)) ≤ text_size (q ∷ ps) = joined_size (q ∷ ps) in
    omega (arith, length-append p (32 ∷ join_with_byte 32 (q ∷ ps)))

text_size-append : (ps qs : List (List ℕ)) → text_size (ps ++ qs) ≡ text_size ps + text_size qs
unfolding text_size
text_size-append [] qs = omega arith
text_size-append (p ∷ ps) qs = let rest : text_size (ps ++ qs) ≡ text_size ps + text_size qs = text_size-append ps qs in omega arith

pub minus_length : (b : Bool) → length (minus_if b) ≤ 1
minus_length true = lit≤ tt
minus_length false = lit≤ tt

pub word_end_length : (number : List ℕ) → length (word_end number) ≤ 1
unfolding word_end
word_end_length number = elim (bytes_eq number (codes "1")) as (λ b. length (if b then [] else codes "s") ≤ 1) [
  | true ↦ lit≤ tt
  | false ↦ lit≤ tt
]

pub decimal_length : (n : ℕ) → n < 2 ^ 64 → length (decimal n) ≤ 20
decimal_length n h = length-decimal-le 20 n (lit< tt) (omega arith) h

pub two_length : (n : ℕ) → n < 2 ^ 64 → length (two_digits_of n) ≤ 21
unfolding two_digits_of
two_length n h = let short : length (decimal n) ≤ 20 = decimal_length n h in
    elim (nat_lt n 10) as (λ b. length (if b then 48 ∷ decimal n else decimal n) ≤ 21) [ true ↦ omega arith | false ↦ omega arith ]

pub fraction_length : (z : ℤ) → length (fraction_of z) ≤ 7
unfolding fraction_of six_digits
fraction_length z = elim (is_zero z) as (λ b. length (if b then [] else 46 ∷ six_digits (unsigned_abs z)) ≤ 7) [
  | true ↦ lit≤ tt
  | false ↦ lit≤ tt
]

pub after_hours_length : (n : IntervalNorm) → IsSized n → length (after_hours n) ≤ 51
unfolding after_hours
after_hours_length n size =
    let m : length (two_digits_of (unsigned_abs n.minutes)) ≤ 21 = two_length (unsigned_abs n.minutes) (abs_small n.minutes size.minutes) in
    let s : length (two_digits_of (unsigned_abs n.seconds)) ≤ 21 = two_length (unsigned_abs n.seconds) (abs_small n.seconds size.seconds) in
    let f : length (fraction_of n.microseconds) ≤ 7 = fraction_length n.microseconds in
    omega (
      arith,
      length-append (58 ∷ two_digits n.minutes ++ 58 ∷ two_digits n.seconds) (fraction_of n.microseconds),
      length-append (58 ∷ two_digits n.minutes) (58 ∷ two_digits n.seconds),
    )

pub part_length : (minus : Bool) (ds name : List ℕ) → length ds ≤ 30 → length name ≤ 6 → length (part_text minus ds name) ≤ 39
unfolding part_text
part_length minus ds name h k =
    let a : length (minus_if minus) ≤ 1 = minus_length minus in
    let e : length (word_end (minus_if minus ++ ds)) ≤ 1 = word_end_length (minus_if minus ++ ds) in
    omega (
      arith,
      length-append (minus_if minus ++ ds ++ 32 ∷ name) (word_end (minus_if minus ++ ds)),
      length-append (minus_if minus ++ ds) (32 ∷ name),
      length-append (minus_if minus) ds,
    )

own_size : (z : ℤ) (name : List ℕ) → mag z < 2 ^ 63 → length name ≤ 6 → text_size (map own_text (part_of z name)) ≤ 40
unfolding text_size part_of
own_size z name small h =
    let d : length (digits_of z) ≤ 20 = decimal_length (unsigned_abs z) (abs_small z small) in
    let l : length (part_text (is_negative z) (digits_of z) name) ≤ 39 = part_length (is_negative z) (digits_of z) name (omega arith) h in
    elim (is_zero z) as (λ b. text_size (map own_text (if b then [] else record {
      negative = is_negative z;
      digits = digits_of z;
      word = name;
    } ∷ [])) ≤ 40) [ true ↦ zero-le | false ↦ omega arith ]

time_size : (n : IntervalNorm) → IsSized n → text_size (time_texts n) ≤ 80
unfolding text_size time_texts
time_size n size =
    let a : length (minus_if (is_time_negative n)) ≤ 1 = minus_length (is_time_negative n) in
    let h : length (two_digits_of (unsigned_abs n.hours)) ≤ 21 = two_length (unsigned_abs n.hours) (abs_small n.hours size.hours) in
    let r : length (after_hours n) ≤ 51 = after_hours_length n size in
    elim (is_time_zero n) as (λ b. text_size (if b then [] else (minus_if (is_time_negative n) ++ two_digits n.hours ++ after_hours n) ∷ [])
    ≤ 80) [
      | true ↦ zero-le
      | false ↦ omega (
        arith,
        length-append (minus_if (is_time_negative n) ++ two_digits n.hours) (after_hours n),
        length-append (minus_if (is_time_negative n)) (two_digits n.hours),
      )
    ]

whole_length : (n : IntervalNorm) → IsSized n → length (join_with_byte 32 (map own_text (date_parts n) ++ time_texts n)) ≤ 4096
unfolding date_parts
whole_length n size =
    let y = map own_text (part_of n.years (codes "year")) in
    let m = map own_text (part_of n.months (codes "mon")) in
    let d = map own_text (part_of n.days (codes "day")) in
    let y_size : text_size y ≤ 40 = own_size n.years (codes "year") (wider n.years size.years) (lit≤ tt) in
    let m_size : text_size m ≤ 40 = own_size n.months (codes "mon") (wider n.months size.months) (lit≤ tt) in
    let d_size : text_size d ≤ 40 = own_size n.days (codes "day") (wider n.days size.days) (lit≤ tt) in
    let t_size : text_size (time_texts n) ≤ 80 = time_size n size in
    let parted : map own_text (date_parts n) ≡ y ++ m ++ d =
    map-append own_text (part_of n.years (codes "year") ++ part_of n.months (codes "mon")) (part_of n.days (codes "day"))
    ∙ ap (λ ps. ps ++ d) (map-append own_text (part_of n.years (codes "year")) (part_of n.months (codes "mon"))) in
    let joined : length (join_with_byte 32 (map own_text (date_parts n) ++ time_texts n))
    ≤ text_size (map own_text (date_parts n) ++ time_texts n) = joined_size (map own_text (date_parts n) ++ time_texts n) in
    let split : text_size (map own_text (date_parts n) ++ time_texts n)
    ≡ text_size y + text_size m + text_size d + text_size (time_texts n) =
    text_size-append (map own_text (date_parts n)) (time_texts n)
    ∙ ap (λ k. k + text_size (time_texts n)) (ap text_size parted ∙ text_size-append (y ++ m) d
    ∙ ap (λ k. k + text_size d) (text_size-append y m)) in
    omega arith

-- ---- the theorem

-- zero alone prints as zero
pub zero_interval : (i : Interval) → is_all_zero (normal_form i) ≡ true → i ≡ nothing
unfolding exact_total
zero_interval i h =
    let f = all_zero_fields (normal_form i) h in
    let y : (normal_form i).years ≡ pos 0 = f 0 (pos 1) (lit< tt) in
    let m : (normal_form i).months ≡ pos 0 = f 1 (pos 1) (lit< tt) in
    let d : (normal_form i).days ≡ pos 0 = f 2 (pos 1) (lit< tt) in
    let o : (normal_form i).hours ≡ pos 0 = f 3 (pos 1) (lit< tt) in
    let n : (normal_form i).minutes ≡ pos 0 = f 4 (pos 1) (lit< tt) in
    let s : (normal_form i).seconds ≡ pos 0 = f 5 (pos 1) (lit< tt) in
    let u : (normal_form i).microseconds ≡ pos 0 = f 6 (pos 1) (lit< tt) in
    sym (exact_total-normal_form i) ∙ same_interval (exact_total (normal_form i)) nothing (rw (y, m) refl) d (rw (o, n, s, u) refl)

zero_read : reading Postgres (codes "00:00:00") ≡ Ok nothing
unfolding reading postgres_pairs
zero_read = refl

postgres_by : (i : Interval) (b : Bool) → is_all_zero (normal_form i) ≡ b → IsInterval i
    → reading Postgres (if b then codes "00:00:00"
    else join_with_byte 32 (map own_text (date_parts (normal_form i)) ++ time_texts (normal_form i))) ≡ Ok i
unfolding reading postgres_pairs
postgres_by i true e within = zero_read ∙ ap Ok (sym (zero_interval i e))
postgres_by i false e within =
    let n = normal_form i in
    let size = normal_sizes i within in
    let text = join_with_byte 32 (map own_text (date_parts n) ++ time_texts n) in
    ap (λ b. if b then Err (InvalidInterval TooLong)
    else of_shape Postgres (pairs_by_words unit_of_word text)) (not_longer 4096 (length text) (whole_length n size))
    ∙ ap (of_shape Postgres) (pairs_read n size)
    ∙ judged_interval (out_of_range Postgres) (all_pairs n) i within (all_total (out_of_range Postgres) n size (normal_time_sign i))

-- what is printed stands for the interval
pub postgres_stands : (i : Interval) → IsInterval i → reading Postgres (printed Postgres i) ≡ Ok i
unfolding postgres_text
postgres_stands i within = postgres_by i (is_all_zero (normal_form i)) refl within
