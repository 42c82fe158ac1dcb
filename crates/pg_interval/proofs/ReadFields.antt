-- The steps by which a reader goes over the fields of a text.
use Rattle.std.proofs.Common.{◌≡◌, ℕ, suc, ◌+◌, ◌<◌, ◌≤◌, Bool, true, false, not, ◌&&◌, ◌||◌, List, [], ◌∷◌, ◌++◌, length, take, drop, ap, ◌∙◌, sym, refl, arith, Option, None, Some, Result, Ok, Err}
use mathlib.Core.List.{append-nil}
use Rattle.std.specs.Prelude.{if◌then◌else◌, nat_le, codes, bytes_eq}
use Rattle.std.specs.List.{list_all, list_any, slice_split, before_first, after_first, prefix_len}
use Rattle.pg_interval.specs.Texts.{◌>>=◌, is_digit, is_sign, is_point, is_colon, is_minus, is_whitespace, begins, without_sign, tokens}
use Rattle.pg_interval.specs.Decimals.{Decimal, number_of, TimeUnit, Year, Month, Day, Hour, Minute, Second}
use Rattle.pg_interval.specs.Pairs.{Pair, total_of, nothing, judged}
use Rattle.pg_interval.specs.PostgresText.{trimmed_start}
use Rattle.pg_interval.specs.SqlText.{field_number, field_pair, fraction_pair, is_field, fields, year_month_pairs, day_pairs, second_pairs, clock_pairs, sql_time_pairs, pairs_of_sql_tokens, sql_pairs}
use Rattle.pg_interval.specs.Reading.{SqlStandard, of_shape}
use Rattle.pg_interval.specs.Reader.{joined, tallied, capped_decimal}
use Rattle.pg_interval.specs.FieldReader.{answer, fraction_number, int_out_of_range, minute_pairs, number_capped, pairs_of_one, pairs_of_two, pairs_of_three, token_first}
use Rattle.pg_interval.specs.WordReader.{answered}
use Rattle.pg_interval.specs.declared.pg_interval.Interval.{Interval}
use Rattle.interval_errors.specs.declared.IntError.TheVariants.{Empty, InvalidDigit}
use Rattle.interval_errors.specs.declared.ParseError.{ParseError}
use Rattle.interval_errors.specs.declared.ParseError.TheVariants.{ParseIntErr}
use Rattle.pg_interval.proofs.DigitTexts.{split_none, split_at}
use Rattle.pg_interval.proofs.ReadNumbers.{two_parts, split_parts, not_all_run, all_run}
use Rattle.pg_interval.proofs.ReadSums.{joined_joined, total_more, start_joined, joined_nothing, tallied_capped}
use Rattle.pg_interval.proofs.ReadTokens.{token_first as first_token, tokens_trimmed, front_parts, front_taken}

abbrev Sum : Type 0
Sum = Result Interval ParseError

-- ---- sums

pub tallied_whole : (u : TimeUnit) (n : Result Decimal ParseError) (r : Sum)
    → tallied int_out_of_range u (number_capped n) r ≡ tallied int_out_of_range u n r
tallied_whole u (Ok d) r = tallied_capped int_out_of_range u d r
tallied_whole u (Err e) r = refl

more_pairs : (r : Sum) (p : Pair) (ps : List Pair)
    → joined r (total_of int_out_of_range (p ∷ ps)) ≡ joined (tallied int_out_of_range p.unit p.number r) (total_of int_out_of_range ps)
more_pairs r p ps = ap (joined r) (total_more int_out_of_range (p ∷ []) ps)
    ∙ sym (joined_joined r (total_of int_out_of_range (p ∷ [])) (total_of int_out_of_range ps))

pub one_pair : (r : Sum) (p : Pair) → answer r (Some (p ∷ [])) ≡ Some (tallied int_out_of_range p.unit p.number r)
one_pair r p = refl

pub two_pairs : (r : Sum) (p q : Pair) → answer r (Some (p ∷ q ∷ []))
    ≡ Some (tallied int_out_of_range q.unit q.number (tallied int_out_of_range p.unit p.number r))
two_pairs r p q = ap Some (more_pairs r p (q ∷ []))

pub pair_first : (r : Sum) (p : Pair) (o : Option (List Pair))
    → answer r (o >>= λ ps. Some (p ∷ ps)) ≡ answer (tallied int_out_of_range p.unit p.number r) o
pair_first r p None = refl
pair_first r p (Some ps) = ap Some (more_pairs r p ps)

pub pairs_first : (r : Sum) (a b : Option (List Pair))
    → answer r (a >>= λ ps. b >>= λ qs. Some (ps ++ qs)) ≡ (answer r a >>= λ q. answer q b)
pairs_first r None b = refl
pairs_first r (Some ps) None = refl
pairs_first r (Some ps) (Some qs) = ap Some (ap (joined r) (total_more int_out_of_range ps qs)
    ∙ sym (joined_joined r (total_of int_out_of_range ps) (total_of int_out_of_range qs)))

-- ---- fields

pub is_field_no : (text : List ℕ) → begins is_sign text ≡ true → is_field text ≡ false
is_field_no text h = ap not h

pub is_field_yes : (text : List ℕ) → begins is_sign text ≡ false → is_field text ≡ true
is_field_yes text h = ap not h

not_any : (q : ℕ → Bool) (xs : List ℕ) → list_all (λ c. not (q c)) xs ≡ true → list_any q xs ≡ false
not_any q [] h = refl
not_any q (c ∷ cs) h = by (q c) h (not_any q cs)
  where
    by : (b : Bool) → (not b && list_all (λ c. not (q c)) cs) ≡ true → (list_all (λ c. not (q c)) cs ≡ true → list_any q cs ≡ false)
        → (b || list_any q cs) ≡ false
    by true e k = cc
    by false e k = k e

some_any : (q : ℕ → Bool) (xs : List ℕ) → list_all (λ c. not (q c)) xs ≡ false → list_any q xs ≡ true
some_any q [] h = cc
some_any q (c ∷ cs) h = by (q c) h (some_any q cs)
  where
    by : (b : Bool) → (not b && list_all (λ c. not (q c)) cs) ≡ false → (list_all (λ c. not (q c)) cs ≡ false → list_any q cs ≡ true)
        → (b || list_any q cs) ≡ true
    by true e k = refl
    by false e k = k e

-- a byte at which a run of other bytes ends
stops : (q : ℕ → Bool) (c : ℕ) → not (q c) ≡ false → q c ≡ true
stops q c h = by (q c) h
  where
    by : (b : Bool) → not b ≡ false → b ≡ true
    by true e = refl
    by false e = cc

front_only : (q : ℕ → Bool) (h r : List ℕ) → list_all (λ c. not (q c)) h ≡ true → begins (λ c. not (q c)) r ≡ false → begins q r ≡ false
    → r ≡ []
front_only q h [] all stop none = refl
front_only q h (c ∷ cs) all stop none = let e = stops q c stop in cc

-- the parts of a text whose first byte that cuts stands behind `h`, or that has none
pub split_alone : (q : ℕ → Bool) (text h r : List ℕ) → text ≡ h ++ r → list_all (λ c. not (q c)) h ≡ true
    → begins (λ c. not (q c)) r ≡ false → begins q r ≡ false → slice_split q text ≡ h ∷ []
split_alone q text h r e all stop none = ap (slice_split q) (e ∙ ap (λ t. h ++ t) (front_only q h r all stop none) ∙ append-nil h)
    ∙ split_none q h (not_any q h all)

pub split_first : (q : ℕ → Bool) (text h : List ℕ) (c : ℕ) (t : List ℕ) → text ≡ h ++ c ∷ t → list_all (λ c. not (q c)) h ≡ true
    → q c ≡ true → slice_split q text ≡ h ∷ slice_split q t
split_first q text h c t e all k = ap (slice_split q) e ∙ split_at q h c t (not_any q h all) k

run_all : (q : ℕ → Bool) (xs : List ℕ) → length xs ≤ prefix_len (λ c. not (q c)) xs → prefix_len (λ c. not (q c)) xs ≤ length xs
    → slice_split q xs ≡ xs ∷ []
run_all q xs a b = split_none q xs (not_any q xs (all_run (λ c. not (q c)) xs (omega arith)))

pub split_run : (q : ℕ → Bool) (xs : List ℕ) (n : ℕ) → n ≡ prefix_len (λ c. not (q c)) xs → n ≤ length xs → length xs ≤ n
    → slice_split q xs ≡ xs ∷ []
split_run q xs n e a b = run_all q xs (omega arith) (omega arith)

pub split_more : (q : ℕ → Bool) (xs : List ℕ) (n : ℕ) → n ≡ prefix_len (λ c. not (q c)) xs → n < length xs
    → (p : List ℕ) × (r : List ℕ) × (ps : List (List ℕ)) × (slice_split q xs ≡ p ∷ r ∷ ps)
split_more q xs n e a = two_parts q xs (some_any q xs (not_all_run (λ c. not (q c)) xs (omega arith)))

-- ---- numbers

pub empty_field : (minus : Bool) (field : List ℕ) → length field ≡ 0 → Err (ParseIntErr Empty) ≡ number_capped (field_number minus field)
empty_field minus [] h = refl
empty_field minus (c ∷ cs) h = absurd (omega arith)

pub wrong_field : (minus : Bool) (field : List ℕ) (n : ℕ) → n ≡ prefix_len is_digit field → n < length field
    → Err (ParseIntErr InvalidDigit) ≡ number_capped (field_number minus field)
wrong_field minus [] n e h = absurd (omega arith)
wrong_field minus (c ∷ cs) n e h = let none = not_all_run is_digit (c ∷ cs) (omega arith) in sym (ap number_capped (wrong none))
  where
    wrong : list_all is_digit (c ∷ cs) ≡ false → field_number minus (c ∷ cs) ≡ Err (ParseIntErr InvalidDigit)
    wrong none = rw none refl

-- ---- years and months

past_first : (h : List ℕ) (x : ℕ) (t : List ℕ) → drop (length h + 1) (h ++ x ∷ t) ≡ t
past_first [] x t = refl
past_first (c ∷ h) x t = let e : length (c ∷ h) + 1 ≡ suc (length h + 1) = omega arith in
    ap (λ n. drop n ((c ∷ h) ++ x ∷ t)) e ∙ past_first h x t

place_of : (h t : List ℕ) → list_all (λ c. not (is_minus c)) h ≡ true → prefix_len (λ c. not (is_minus c)) (h ++ 45 ∷ t) ≡ length h
place_of h t all = front_parts (λ c. not (is_minus c)) h (45 ∷ t) all refl

before_minus : (h t : List ℕ) → list_all (λ c. not (is_minus c)) h ≡ true → before_first is_minus (h ++ 45 ∷ t) ≡ h
before_minus h t all = ap (λ n. take n (h ++ 45 ∷ t)) (place_of h t all) ∙ front_taken h (45 ∷ t)

after_minus : (h t : List ℕ) → list_all (λ c. not (is_minus c)) h ≡ true → after_first is_minus (h ++ 45 ∷ t) ≡ t
after_minus h t all = ap (λ n. drop (n + 1) (h ++ 45 ∷ t)) (place_of h t all) ∙ past_first h 45 t

or_yes : (a b : Bool) → b ≡ true → (a || b) ≡ true
or_yes true b h = refl
or_yes false b h = h

some_minus : (h t : List ℕ) → list_any is_minus (h ++ 45 ∷ t) ≡ true
some_minus [] t = refl
some_minus (c ∷ h) t = or_yes (is_minus c) (list_any is_minus (h ++ 45 ∷ t)) (some_minus h t)

abbrev pub both_fields : Bool → List ℕ → List ℕ → Option (List Pair)
both_fields minus y m = if is_field y && is_field m then Some (field_pair minus Year y ∷ field_pair minus Month m ∷ []) else None

fields_at : (minus : Bool) (y m : List ℕ) → list_all (λ c. not (is_minus c)) y ≡ true → fields minus (y ++ 45 ∷ m) ≡ both_fields minus y m
fields_at minus y m all = rw (some_minus y m, before_minus y m all, after_minus y m all) refl

pub years_none : (text y behind : List ℕ) → without_sign text ≡ y ++ behind → list_all (λ c. not (is_minus c)) y ≡ true
    → begins (λ c. not (is_minus c)) behind ≡ false → begins is_minus behind ≡ false → year_month_pairs text ≡ None
years_none text y behind e all stop none =
    let whole : without_sign text ≡ y = e ∙ ap (λ t. y ++ t) (front_only is_minus y behind all stop none) ∙ append-nil y in
    ap (fields (begins is_minus text)) whole ∙ (rw (not_any is_minus y all) refl)

pub years_at : (text y m behind : List ℕ) → without_sign text ≡ y ++ behind → behind ≡ 45 ∷ m → list_all (λ c. not (is_minus c)) y ≡ true
    → year_month_pairs text ≡ both_fields (begins is_minus text) y m
years_at text y m behind e f all = ap (fields (begins is_minus text)) (e ∙ ap (λ t. y ++ t) f) ∙ fields_at (begins is_minus text) y m all

pub no_years : (minus : Bool) (y m : List ℕ) → begins is_sign y ≡ true → both_fields minus y m ≡ None
no_years minus y m h = rw h refl

pub no_months : (minus : Bool) (y m : List ℕ) → begins is_sign m ≡ true → both_fields minus y m ≡ None
no_months minus y m h = (rw h refl) ∙ by (is_field y)
  where
    by : (b : Bool) → (if b && false then Some (field_pair minus Year y ∷ field_pair minus Month m ∷ []) else None) ≡ None
    by true = refl
    by false = refl

pub good_years : (minus : Bool) (y m : List ℕ) → begins is_sign y ≡ false → begins is_sign m ≡ false
    → both_fields minus y m ≡ Some (field_pair minus Year y ∷ field_pair minus Month m ∷ [])
good_years minus y m h k = rw (h, k) refl

-- one number more
pub whole_step : (sum r : Sum) (u : TimeUnit) (n m : Result Decimal ParseError) → sum ≡ tallied int_out_of_range u n r → n ≡ number_capped m
    → sum ≡ tallied int_out_of_range u m r
whole_step sum r u n m e f = e ∙ ap (λ x. tallied int_out_of_range u x r) f ∙ tallied_whole u m r

-- ---- days

pub no_days : (text : List ℕ) → begins is_sign (without_sign text) ≡ true → day_pairs text ≡ None
no_days text h = rw h refl

pub good_days : (text : List ℕ) → begins is_sign (without_sign text) ≡ false
    → day_pairs text ≡ Some (field_pair (begins is_minus text) Day (without_sign text) ∷ [])
good_days text h = rw h refl

-- ---- seconds

-- the first part, whatever follows it
pub first_part : (q : ℕ → Bool) (text h r : List ℕ) → text ≡ h ++ r → list_all (λ c. not (q c)) h ≡ true → begins (λ c. not (q c)) r ≡ false
    → (ps : List (List ℕ)) × (slice_split q text ≡ h ∷ ps)
first_part q text h [] e all stop = ([], split_alone q text h [] e all stop refl)
first_part q text h (c ∷ t) e all stop = (slice_split q t, split_first q text h c t e all (stops q c stop))

second_no : (minus : Bool) (s : List ℕ) (ps : List (List ℕ)) → begins is_sign s ≡ true → second_pairs minus (s ∷ ps) ≡ None
second_no minus s [] h = rw h refl
second_no minus s (f ∷ []) h = rw h refl
second_no minus s (f ∷ g ∷ ps) h = refl

pub seconds_no : (minus : Bool) (text s r : List ℕ) → text ≡ s ++ r → list_all (λ c. not (is_point c)) s ≡ true
    → begins (λ c. not (is_point c)) r ≡ false → begins is_sign s ≡ true → second_pairs minus (slice_split is_point text) ≡ None
seconds_no minus text s r e all stop h = let p = first_part is_point text s r e all stop in
    ap (second_pairs minus) p.1 ∙ second_no minus s p.0 h

pub seconds_whole : (minus : Bool) (text s r : List ℕ) → text ≡ s ++ r → list_all (λ c. not (is_point c)) s ≡ true
    → begins (λ c. not (is_point c)) r ≡ false → begins is_point r ≡ false → begins is_sign s ≡ false
    → second_pairs minus (slice_split is_point text) ≡ Some (field_pair minus Second s ∷ [])
seconds_whole minus text s r e all stop none h = ap (second_pairs minus) (split_alone is_point text s r e all stop none) ∙ (rw h refl)

three_parts : (minus : Bool) (s a b : List ℕ) (ps : List (List ℕ)) → second_pairs minus (s ∷ a ∷ b ∷ ps) ≡ None
three_parts minus s a b ps = refl

pub seconds_points : (minus : Bool) (text s r f : List ℕ) (n : ℕ) → text ≡ s ++ r → r ≡ 46 ∷ f → list_all (λ c. not (is_point c)) s ≡ true
    → n ≡ prefix_len (λ c. not (is_point c)) f → n < length f → second_pairs minus (slice_split is_point text) ≡ None
seconds_points minus text s r f n e g all run more =
    let q = split_more is_point f n run more in
    ap (second_pairs minus) (split_first is_point text s 46 f (e ∙ ap (λ t. s ++ t) g) all refl ∙ ap (λ ps. s ∷ ps) q.3)
    ∙ three_parts minus s q.0 q.1 q.2

seconds_two : (minus : Bool) (text s r f : List ℕ) (n : ℕ) → text ≡ s ++ r → r ≡ 46 ∷ f → list_all (λ c. not (is_point c)) s ≡ true
    → n ≡ prefix_len (λ c. not (is_point c)) f → n ≤ length f → length f ≤ n → slice_split is_point text ≡ s ∷ f ∷ []
seconds_two minus text s r f n e g all run within whole =
    split_first is_point text s 46 f (e ∙ ap (λ t. s ++ t) g) all refl ∙ ap (λ ps. s ∷ ps) (split_run is_point f n run within whole)

pub seconds_long : (minus : Bool) (text s r f : List ℕ) (n : ℕ) → text ≡ s ++ r → r ≡ 46 ∷ f → list_all (λ c. not (is_point c)) s ≡ true
    → n ≡ prefix_len (λ c. not (is_point c)) f → n ≤ length f → length f ≤ n → 6 < length f
    → second_pairs minus (slice_split is_point text) ≡ None
seconds_long minus text s r f n e g all run within whole long =
    let past : nat_le (length f) 6 ≡ false = grind arith in
    ap (second_pairs minus) (seconds_two minus text s r f n e g all run within whole) ∙ (rw past (by (is_field s)))
  where
    by : (b : Bool) → (if b && false then Some (field_pair minus Second s ∷ fraction_pair minus f ∷ []) else None) ≡ None
    by true = refl
    by false = refl

pub seconds_good : (minus : Bool) (text s r f : List ℕ) (n : ℕ) → text ≡ s ++ r → r ≡ 46 ∷ f → list_all (λ c. not (is_point c)) s ≡ true
    → n ≡ prefix_len (λ c. not (is_point c)) f → n ≤ length f → length f ≤ n → length f ≤ 6 → begins is_sign s ≡ false
    → second_pairs minus (slice_split is_point text) ≡ Some (field_pair minus Second s ∷ fraction_pair minus f ∷ [])
seconds_good minus text s r f n e g all run within whole few h =
    let short : nat_le (length f) 6 ≡ true = grind arith in
    ap (second_pairs minus) (seconds_two minus text s r f n e g all run within whole) ∙ (rw (h, short) refl)

-- ---- minutes

minute_no : (minus : Bool) (m : List ℕ) (ps : List (List ℕ)) → begins is_sign m ≡ true → minute_pairs minus (m ∷ ps) ≡ None
minute_no minus m [] h = rw h refl
minute_no minus m (s ∷ []) h = rw h refl
minute_no minus m (s ∷ x ∷ ps) h = refl

pub minutes_no : (minus : Bool) (text m r : List ℕ) → text ≡ m ++ r → list_all (λ c. not (is_colon c)) m ≡ true
    → begins (λ c. not (is_colon c)) r ≡ false → begins is_sign m ≡ true → minute_pairs minus (slice_split is_colon text) ≡ None
minutes_no minus text m r e all stop h = let p = first_part is_colon text m r e all stop in
    ap (minute_pairs minus) p.1 ∙ minute_no minus m p.0 h

pub minutes_alone : (minus : Bool) (text m r : List ℕ) → text ≡ m ++ r → list_all (λ c. not (is_colon c)) m ≡ true
    → begins (λ c. not (is_colon c)) r ≡ false → begins is_colon r ≡ false → begins is_sign m ≡ false
    → minute_pairs minus (slice_split is_colon text) ≡ Some (field_pair minus Minute m ∷ [])
minutes_alone minus text m r e all stop none h = ap (minute_pairs minus) (split_alone is_colon text m r e all stop none) ∙ (rw h refl)

four_parts : (minus : Bool) (m a b : List ℕ) (ps : List (List ℕ)) → minute_pairs minus (m ∷ a ∷ b ∷ ps) ≡ None
four_parts minus m a b ps = refl

pub minutes_colons : (minus : Bool) (text m r s : List ℕ) (n : ℕ) → text ≡ m ++ r → r ≡ 58 ∷ s → list_all (λ c. not (is_colon c)) m ≡ true
    → n ≡ prefix_len (λ c. not (is_colon c)) s → n < length s → minute_pairs minus (slice_split is_colon text) ≡ None
minutes_colons minus text m r s n e g all run more =
    let q = split_more is_colon s n run more in
    ap (minute_pairs minus) (split_first is_colon text m 58 s (e ∙ ap (λ t. m ++ t) g) all refl ∙ ap (λ ps. m ∷ ps) q.3)
    ∙ four_parts minus m q.0 q.1 q.2

pub minutes_seconds : (minus : Bool) (text m r s : List ℕ) (n : ℕ) → text ≡ m ++ r → r ≡ 58 ∷ s → list_all (λ c. not (is_colon c)) m ≡ true
    → n ≡ prefix_len (λ c. not (is_colon c)) s → n ≤ length s → length s ≤ n → begins is_sign m ≡ false
    → minute_pairs minus (slice_split is_colon text)
    ≡ (second_pairs minus (slice_split is_point s) >>= λ ps. Some (field_pair minus Minute m ∷ ps))
minutes_seconds minus text m r s n e g all run within whole h =
    ap (minute_pairs minus) (split_first is_colon text m 58 s (e ∙ ap (λ t. m ++ t) g) all refl
    ∙ ap (λ ps. m ∷ ps) (split_run is_colon s n run within whole)) ∙ (rw h refl)

-- ---- times

clock_by : (minus : Bool) (h : List ℕ) (p : List ℕ) (ps : List (List ℕ)) (b : Bool) → is_field h ≡ b
    → clock_pairs minus (h ∷ p ∷ ps) ≡ (if b then (minute_pairs minus (p ∷ ps) >>= λ qs. Some (field_pair minus Hour h ∷ qs)) else None)
clock_by minus h m [] true e = (rw e refl) ∙ by (is_field m)
  where
    by : (b : Bool) → (if b then Some (field_pair minus Hour h ∷ field_pair minus Minute m ∷ []) else None)
        ≡ ((if b then Some (field_pair minus Minute m ∷ []) else None) >>= λ qs. Some (field_pair minus Hour h ∷ qs))
    by true = refl
    by false = refl
clock_by minus h m (s ∷ []) true e = (rw e refl) ∙ by (is_field m) (second_pairs minus (slice_split is_point s))
  where
    by : (b : Bool) (o : Option (List Pair)) → (if b then (o >>= λ ps. Some (field_pair minus Hour h ∷ field_pair minus Minute m ∷ ps))
        else None) ≡ ((if b then (o >>= λ ps. Some (field_pair minus Minute m ∷ ps)) else None)
        >>= λ qs. Some (field_pair minus Hour h ∷ qs))
    by true None = refl
    by true (Some ps) = refl
    by false o = refl
clock_by minus h m (s ∷ x ∷ ps) true e = refl
clock_by minus h m [] false e = rw e refl
clock_by minus h m (s ∷ []) false e = rw e refl
clock_by minus h m (s ∷ x ∷ ps) false e = refl

clock_alone : (minus : Bool) (h : List ℕ) → clock_pairs minus (h ∷ []) ≡ None
clock_alone minus h = refl

pub hours_alone : (minus : Bool) (text h r : List ℕ) → without_sign text ≡ h ++ r → list_all (λ c. not (is_colon c)) h ≡ true
    → begins (λ c. not (is_colon c)) r ≡ false → begins is_colon r ≡ false → sql_time_pairs minus text ≡ None
hours_alone minus text h r e all stop none = ap (clock_pairs minus) (split_alone is_colon (without_sign text) h r e all stop none)
    ∙ clock_alone minus h

pub hours_by : (minus : Bool) (text h r t : List ℕ) (b : Bool) → without_sign text ≡ h ++ r → r ≡ 58 ∷ t
    → list_all (λ c. not (is_colon c)) h ≡ true → is_field h ≡ b
    → sql_time_pairs minus text ≡ (if b then (minute_pairs minus (slice_split is_colon t) >>= λ qs. Some (field_pair minus Hour h ∷ qs))
    else None)
hours_by minus text h r t b e g all f =
    let q = split_parts is_colon t in
    ap (clock_pairs minus) (split_first is_colon (without_sign text) h 58 t (e ∙ ap (λ x. h ++ x) g) all refl ∙ ap (λ ps. h ∷ ps) q.2)
    ∙ clock_by minus h q.0 q.1 b f
    ∙ sym (ap (λ ps. if b then (minute_pairs minus ps >>= λ qs. Some (field_pair minus Hour h ∷ qs)) else None) q.2)

pub no_hours : (minus : Bool) (text h r t : List ℕ) → without_sign text ≡ h ++ r → r ≡ 58 ∷ t → list_all (λ c. not (is_colon c)) h ≡ true
    → begins is_sign h ≡ true → sql_time_pairs minus text ≡ None
no_hours minus text h r t e g all f = hours_by minus text h r t false e g all (is_field_no h f)

pub good_hours : (minus : Bool) (text h r t : List ℕ) → without_sign text ≡ h ++ r → r ≡ 58 ∷ t → list_all (λ c. not (is_colon c)) h ≡ true
    → begins is_sign h ≡ false → sql_time_pairs minus text
    ≡ (minute_pairs minus (slice_split is_colon t) >>= λ qs. Some (field_pair minus Hour h ∷ qs))
good_hours minus text h r t e g all f = hours_by minus text h r t true e g all (is_field_yes h f)

-- ---- tokens

pub next_is : (text w r : List ℕ) → trimmed_start text ≡ w ++ r → list_all (λ c. not (is_whitespace c)) w ≡ true
    → begins (λ c. not (is_whitespace c)) r ≡ false → begins is_whitespace (trimmed_start text) ≡ false → tokens text ≡ token_first w r
next_is text [] r e all stop solid = sym (tokens_trimmed text) ∙ ap tokens (e ∙ none r stop (ap (begins is_whitespace) (sym e) ∙ solid))
  where
    none : (r : List ℕ) → begins (λ c. not (is_whitespace c)) r ≡ false → begins is_whitespace r ≡ false → r ≡ []
    none [] a b = refl
    none (c ∷ cs) a b = let t = stops is_whitespace c a in cc
next_is text (c ∷ w) r e all stop solid = sym (tokens_trimmed text) ∙ ap tokens e ∙ first_token (c ∷ w) r (omega arith) all stop

-- the tokens, one after another
one_token : (a b : List ℕ) (ra rb : List ℕ) (ts : List (List ℕ)) → 0 < length a → ts ≡ token_first a ra → tokens ra ≡ token_first b rb
    → length b ≡ 0 → ts ≡ a ∷ []
one_token [] b ra rb ts h e f none = absurd (omega arith)
one_token (x ∷ a) [] ra rb ts h e f none = e ∙ ap (λ r. (x ∷ a) ∷ r) f
one_token (x ∷ a) (y ∷ b) ra rb ts h e f none = absurd (omega arith)

two_tokens : (a : List ℕ) (ra : List ℕ) (ts us : List (List ℕ)) → 0 < length a → ts ≡ token_first a ra → tokens ra ≡ us → ts ≡ a ∷ us
two_tokens [] ra ts us h e f = absurd (omega arith)
two_tokens (x ∷ a) ra ts us h e f = e ∙ ap (λ r. (x ∷ a) ∷ r) f

no_token : (a ra : List ℕ) (ts : List (List ℕ)) → length a ≡ 0 → ts ≡ token_first a ra → ts ≡ []
no_token [] ra ts h e = e
no_token (x ∷ a) ra ts h e = absurd (omega arith)

pub sql_none : (text a ra : List ℕ) → length a ≡ 0 → tokens text ≡ token_first a ra → sql_pairs text ≡ None
unfolding sql_pairs
sql_none text a ra h e = ap pairs_of_sql_tokens (no_token a ra (tokens text) h e)

pub sql_one : (text a ra b rb : List ℕ) → tokens text ≡ token_first a ra → tokens ra ≡ token_first b rb → 0 < length a → length b ≡ 0
    → sql_pairs text ≡ pairs_of_one a
unfolding sql_pairs
sql_one text a ra b rb e f h none = ap pairs_of_sql_tokens (one_token a b ra rb (tokens text) h e f none)

pub sql_two : (text a ra b rb c rc : List ℕ) → tokens text ≡ token_first a ra → tokens ra ≡ token_first b rb → tokens rb ≡ token_first c rc
    → 0 < length a → 0 < length b → length c ≡ 0 → sql_pairs text ≡ pairs_of_two a b
unfolding sql_pairs
sql_two text a ra b rb c rc e f g h k none = ap pairs_of_sql_tokens
    (two_tokens a ra (tokens text) (b ∷ []) h e (one_token b c rb rc (tokens ra) k f g none))

pub sql_three : (text a ra b rb c rc d rd : List ℕ) → tokens text ≡ token_first a ra → tokens ra ≡ token_first b rb
    → tokens rb ≡ token_first c rc → tokens rc ≡ token_first d rd → 0 < length a → 0 < length b → 0 < length c → length d ≡ 0
    → sql_pairs text ≡ pairs_of_three a b c
unfolding sql_pairs
sql_three text a ra b rb c rc d rd e f g i h k l none =
    ap pairs_of_sql_tokens (two_tokens a ra (tokens text) (b ∷ c ∷ []) h e
    (two_tokens b rb (tokens ra) (c ∷ []) k f (one_token c d rc rd (tokens rb) l g i none)))

four : (a b c d : List ℕ) (ts : List (List ℕ)) → pairs_of_sql_tokens (a ∷ b ∷ c ∷ d ∷ ts) ≡ None
four a b c d ts = refl

some_tokens : (d rd : List ℕ) (ts : List (List ℕ)) → 0 < length d → ts ≡ token_first d rd → ts ≡ d ∷ tokens rd
some_tokens [] rd ts h e = absurd (omega arith)
some_tokens (x ∷ d) rd ts h e = e

pub sql_four : (text a ra b rb c rc d rd : List ℕ) → tokens text ≡ token_first a ra → tokens ra ≡ token_first b rb
    → tokens rb ≡ token_first c rc → tokens rc ≡ token_first d rd → 0 < length a → 0 < length b → 0 < length c → 0 < length d
    → sql_pairs text ≡ None
unfolding sql_pairs
sql_four text a ra b rb c rc d rd e f g i h k l m =
    ap pairs_of_sql_tokens (two_tokens a ra (tokens text) (b ∷ c ∷ d ∷ tokens rd) h e
    (two_tokens b rb (tokens ra) (c ∷ d ∷ tokens rd) k f
    (two_tokens c rc (tokens rb) (d ∷ tokens rd) l g (some_tokens d rd (tokens rc) m i)))) ∙ four a b c d (tokens rd)

-- ---- the answer

pub sql_answered : (o : Option (List Pair)) → answered (answer (Ok nothing) o) ≡ of_shape SqlStandard o
sql_answered None = refl
sql_answered (Some ps) = ap judged (start_joined (total_of int_out_of_range ps))

pub two_answers : (r : Sum) (a b : List ℕ) → answer r (pairs_of_two a b)
    ≡ (answer r (day_pairs a) >>= λ q. answer q (sql_time_pairs (begins is_minus (if begins is_sign b then b else a)) b))
two_answers r a b = pairs_first r (day_pairs a) (sql_time_pairs (begins is_minus (if begins is_sign b then b else a)) b)

pub three_answers : (r : Sum) (a b c : List ℕ) → answer r (pairs_of_three a b c)
    ≡ (answer r (year_month_pairs a) >>= λ q. answer q (day_pairs b) >>= λ s. answer s (sql_time_pairs (begins is_minus c) c))
three_answers r a b c = by (year_month_pairs a) (day_pairs b) (sql_time_pairs (begins is_minus c) c)
  where
    by : (x y z : Option (List Pair)) → answer r (x >>= λ ps. y >>= λ qs. z >>= λ ts. Some (ps ++ qs ++ ts))
        ≡ (answer r x >>= λ q. answer q y >>= λ s. answer s z)
    by None y z = refl
    by (Some ps) None z = refl
    by (Some ps) (Some qs) None = refl
    by (Some ps) (Some qs) (Some ts) = ap Some (ap (joined r) (total_more int_out_of_range (ps ++ qs) ts)
        ∙ sym (joined_joined r (total_of int_out_of_range (ps ++ qs)) (total_of int_out_of_range ts))
        ∙ ap (λ q. joined q (total_of int_out_of_range ts)) (ap (joined r) (total_more int_out_of_range ps qs)
        ∙ sym (joined_joined r (total_of int_out_of_range ps) (total_of int_out_of_range qs))))

pub on_none : (b : Bool) (s : Sum) (o : Option Sum) (f : Sum → Option Sum) → b ≡ false → (if b then Some s else None) ≡ o → None ≡ (o >>= f)
on_none b s o f h e = ap (λ o. o >>= f) (sym (ap (λ b. if b then Some s else None) h) ∙ e)

pub on_some : (b : Bool) (s : Sum) (o : Option Sum) (f : Sum → Option Sum) → b ≡ true → (if b then Some s else None) ≡ o → f s ≡ (o >>= f)
on_some b s o f h e = ap (λ o. o >>= f) (sym (ap (λ b. if b then Some s else None) h) ∙ e)

-- ---- the steps of the sums

pub one_step : (r sum : Sum) (p : Pair) → sum ≡ tallied int_out_of_range p.unit p.number r → Some sum ≡ answer r (Some (p ∷ []))
one_step r sum p e = ap Some e ∙ sym (one_pair r p)

pub two_steps : (r a b : Sum) (p q : Pair) → a ≡ tallied int_out_of_range p.unit p.number r → b ≡ tallied int_out_of_range q.unit q.number a
    → Some b ≡ answer r (Some (p ∷ q ∷ []))
two_steps r a b p q e f = ap Some (f ∙ ap (tallied int_out_of_range q.unit q.number) e) ∙ sym (two_pairs r p q)

pub then_pairs : (r sum : Sum) (p : Pair) (o : Option (List Pair)) → sum ≡ tallied int_out_of_range p.unit p.number r
    → answer sum o ≡ answer r (o >>= λ ps. Some (p ∷ ps))
then_pairs r sum p o e = ap (λ q. answer q o) e ∙ sym (pair_first r p o)

-- ---- good numbers

pub good_field : (minus : Bool) (field : List ℕ) (n : ℕ) → n ≡ prefix_len is_digit field → n ≤ length field → length field ≤ n
    → 0 < length field → Ok (capped_decimal (number_of minus field [])) ≡ number_capped (field_number minus field)
good_field minus [] n e a b h = absurd (omega arith)
good_field minus (c ∷ cs) n e a b h = sym (ap number_capped (right (all_run is_digit (c ∷ cs) (omega arith))))
  where
    right : list_all is_digit (c ∷ cs) ≡ true → field_number minus (c ∷ cs) ≡ Ok (number_of minus (c ∷ cs) [])
    right all = rw all refl

pub wrong_fraction : (minus : Bool) (f : List ℕ) (n : ℕ) → n ≡ prefix_len is_digit f → n < length f
    → Err (ParseIntErr InvalidDigit) ≡ number_capped (fraction_number minus f)
wrong_fraction minus f n e h = let none = not_all_run is_digit f (omega arith) in
    sym (ap (λ b. number_capped (if b then Ok (number_of minus [] f) else Err (ParseIntErr InvalidDigit))) none)

pub good_fraction : (minus : Bool) (f : List ℕ) (n : ℕ) → n ≡ prefix_len is_digit f → n ≤ length f → length f ≤ n
    → Ok (capped_decimal (number_of minus [] f)) ≡ number_capped (fraction_number minus f)
good_fraction minus f n e a b = let all = all_run is_digit f (omega arith) in
    sym (ap (λ b. number_capped (if b then Ok (number_of minus [] f) else Err (ParseIntErr InvalidDigit))) all)

-- ---- one token

pub one_zero : (r : Sum) (a : List ℕ) → bytes_eq a (codes "0") ≡ true → Some r ≡ answer r (pairs_of_one a)
one_zero r a e = ap Some (sym (joined_nothing r))
    ∙ sym (ap (λ b. answer r (if b then Some [] else (if list_any is_colon a then sql_time_pairs (begins is_minus a) a
    else year_month_pairs a))) e)

one_other : (r : Sum) (a : List ℕ) (b : Bool) → bytes_eq a (codes "0") ≡ false → list_any is_colon a ≡ b
    → answer r (if b then sql_time_pairs (begins is_minus a) a else year_month_pairs a) ≡ answer r (pairs_of_one a)
one_other r a b e f = sym (ap (λ b. answer r (if b then Some []
    else (if list_any is_colon a then sql_time_pairs (begins is_minus a) a else year_month_pairs a))) e
    ∙ ap (λ b. answer r (if b then sql_time_pairs (begins is_minus a) a else year_month_pairs a)) f)

pub one_time : (r : Sum) (a : List ℕ) → bytes_eq a (codes "0") ≡ false → list_any is_colon a ≡ true
    → answer r (sql_time_pairs (begins is_minus a) a) ≡ answer r (pairs_of_one a)
one_time r a e f = one_other r a true e f

pub one_years : (r : Sum) (a : List ℕ) → bytes_eq a (codes "0") ≡ false → list_any is_colon a ≡ false
    → answer r (year_month_pairs a) ≡ answer r (pairs_of_one a)
one_years r a e f = one_other r a false e f
