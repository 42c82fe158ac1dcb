-- What the first try at a text of fields finds there.
use Rattle.std.proofs.Common.{◌≡◌, ℕ, zero, suc, ◌+◌, ◌*◌, ◌^◌, ◌/◌, ◌<◌, Bool, true, false, ◌&&◌, ◌||◌, List, [], ◌∷◌, ◌++◌, length, ap, ◌∙◌, sym, refl, subst, arith, Some, None, Ok, Err, ℤ, pos, ◌+ℤ◌, ◌*ℤ◌}
use mathlib.Core.List.{append_assoc, append-nil}
use Rattle.std.specs.Prelude.{if◌then◌else◌, nat_le, nat_lt}
use Rattle.std.specs.List.{list_any, slice_split}
use Rattle.std.specs.Str.Parse.{digits_value}
use Rattle.std.proofs.lemmas.Int.{ints}
use Rattle.std.proofs.lemmas.List.Folds.{list_any-append}
use Rattle.std.proofs.Math.Bool.{or-true}
use Rattle.pg_interval.specs.Texts.{◌>>=◌, is_whitespace, is_sign, is_point, is_colon, is_minus, is_empty, are_digits, begins, without_sign, tokens}
use Rattle.pg_interval.specs.Decimals.{Decimal, TimeUnit, Year, Month, Day, Hour, Minute, Second, number_of, with_sign, worth, whole_part}
use Rattle.pg_interval.specs.Pairs.{Pair, pair, total_of, sum_of, plus, nothing, fits_field, fits_above, interval_of_sums, judged}
use Rattle.pg_interval.specs.Reader.{joined}
use Rattle.pg_interval.specs.Reading.{of_shape, SqlStandard}
use Rattle.pg_interval.specs.SqlText.{field_pair, fraction_pair, is_field, fields, year_month_pairs, day_pairs, second_pairs, clock_pairs, sql_time_pairs, pairs_of_sql_tokens, sql_pairs}
use Rattle.pg_interval.specs.FieldReader.{int_out_of_range}
use Rattle.pg_interval.specs.FrontReader.{IsNumberFront, IsAmount, IsAmountFront, IsSeconds, only_months, only_days, only_time}
use Rattle.pg_interval.specs.declared.pg_interval.Interval.{Interval}
use Rattle.interval_errors.specs.declared.ParseError.{ParseError}
use Rattle.interval_errors.specs.declared.ParseError.TheVariants.{ParseIntErr}
use Rattle.interval_errors.specs.declared.IntError.TheVariants.{InvalidDigit}
use Rattle.pg_interval.proofs.DigitTexts.{digit_no_space, digit_no_colon, digit_no_point, all_digits, filled_digits, split_none, split_at, tokens_append, tokens_whole}
use Rattle.pg_interval.proofs.PartTexts.{whole_number, unit_worth, worth_whole, whole_worth, zero_sign}
use Rattle.pg_interval.proofs.ReadSums.{total_more}
use Rattle.pg_interval.proofs.TimeTexts.{rounded_six}
use Rattle.pg_interval.proofs.NormalFacts.{same_interval}
use Rattle.pg_interval.proofs.FrontSigns.{signed_front}
use Rattle.pg_interval.proofs.SqlReads.{Sign, sign_text, is_minus_sign, sign_before, digits_field, digits_number, sign_bare, digits_bare, append_bare, filled_after, fields_read, not_zero_text}

-- ---- sums

below_true : (m n : ℕ) → m < n → nat_lt m n ≡ true
below_true m n h = grind arith

pub fits_small : (k : ℕ) (b : Bool) (n : ℕ) → n < 2 ^ k → fits_above k (with_sign b n) ≡ true
fits_small k true zero h = below_true zero (2 ^ k) h
fits_small k true (suc n) h = below_true n (2 ^ k) (omega arith)
fits_small k false n h = below_true n (2 ^ k) h

pub wider : (n : ℕ) → n < 2 ^ 31 → n < 2 ^ 63
wider n h = omega arith

-- a whole number in front of the other pairs
whole_more : (u : TimeUnit) (b : Bool) (n : ℕ) (ps : List Pair) (i : Interval) → fits_field u (with_sign b n) ≡ true
    → total_of int_out_of_range ps ≡ Ok i
    → total_of int_out_of_range (pair u (whole_number b n) ∷ ps) ≡ Ok (sum_of (unit_worth u (with_sign b n)) i)
whole_more u b n ps i fits h = whole_worth int_out_of_range u (whole_number b n) ps i fits h ∙ ap (λ w. Ok (sum_of w i)) (worth_whole u b n)

months_sum : (b : Bool) (y m : ℕ) → pos 12 *ℤ with_sign b y +ℤ (with_sign b m +ℤ pos 0) ≡ with_sign b (12 * y + m)
months_sum true y m = omega (arith, ints)
months_sum false y m = omega (arith, ints)

months_total : (b : Bool) (y m : ℕ) → y < 2 ^ 31 → m < 2 ^ 31
    → total_of int_out_of_range (pair Year (whole_number b y) ∷ pair Month (whole_number b m) ∷ []) ≡ Ok
    (only_months (with_sign b (12 * y + m)))
months_total b y m hy hm =
    whole_more Year b y (pair Month (whole_number b m) ∷ []) _ (fits_small 31 b y hy)
    (whole_more Month b m [] nothing (fits_small 31 b m hm) refl)
    ∙ ap Ok (same_interval _ _ (months_sum b y m) refl refl)

no_more_days : (z : ℤ) → z +ℤ pos 0 ≡ z
no_more_days z = omega (arith, ints)

days_total : (b : Bool) (d : ℕ) → d < 2 ^ 31 → total_of int_out_of_range (pair Day (whole_number b d) ∷ []) ≡ Ok (only_days (with_sign b d))
days_total b d h = whole_more Day b d [] nothing (fits_small 31 b d h) refl
    ∙ ap Ok (same_interval _ _ refl (no_more_days (with_sign b d)) refl)

hours_sum : (b : Bool) (h m s : ℕ)
    → pos 3600000000 *ℤ with_sign b h +ℤ (pos 60000000 *ℤ with_sign b m +ℤ with_sign b s) ≡ with_sign b (3600000000 * h + 60000000 * m + s)
hours_sum true h m s = omega (arith, ints)
hours_sum false h m s = omega (arith, ints)

time_total : (b : Bool) (h m s : ℕ) (ps : List Pair) → h < 2 ^ 31 → m < 2 ^ 31
    → total_of int_out_of_range ps ≡ Ok (only_time (with_sign b s))
    → total_of int_out_of_range (pair Hour (whole_number b h) ∷ pair Minute (whole_number b m) ∷ ps) ≡ Ok
    (only_time (with_sign b (3600000000 * h + 60000000 * m + s)))
time_total b h m s ps hh hm e =
    whole_more Hour b h (pair Minute (whole_number b m) ∷ ps) _ (fits_small 63 b h (wider h hh))
    (whole_more Minute b m ps _ (fits_small 63 b m (wider m hm)) e)
    ∙ ap Ok (same_interval _ _ refl refl (hours_sum b h m s))

-- ---- years and months

pub months_read : (text bare r1 r2 rest : List ℕ) (y m : ℕ) → bare ≡ without_sign text → IsNumberFront y bare r1 → r1 ≡ 45 ∷ r2
    → IsNumberFront m r2 rest → IsAmountFront year_month_pairs (only_months (with_sign (begins is_minus text) (12 * y + m))) text rest
months_read text bare r1 r2 rest y m e f dash g =
    let b = begins is_minus text in
    let ys = f.digits in
    let ms = g.digits in
    let tail : r1 ≡ (45 ∷ ms) ++ rest = dash ∙ ap (λ t. 45 ∷ t) g.parts in
    let split = signed_front text ys ((45 ∷ ms) ++ rest) f.are (sym e ∙ f.parts ∙ ap (λ t. ys ++ t) tail) in
    let s = split.sign in
    let token = sign_text s ++ (ys ++ 45 ∷ ms) in
    let cut = sign_before s ys (45 ∷ ms) f.are in
    let minus : is_minus_sign s ≡ b = sym split.minus in
    let pairs = pair Year (whole_number b y) ∷ pair Month (whole_number b m) ∷ [] in
    record {
      token = token;
      parts = split.parts ∙ (simp append_assoc);
      amount = record {
        all = pairs;
        read =
            ap (λ x. fields x (without_sign token)) (cut.0 ∙ minus)
            ∙ ap (fields b) cut.1
            ∙ fields_read b ys ms f.are g.are
            ∙ ap (λ p. Some (p ∷ field_pair b Month ms ∷ [])) (digits_number b Year ys f.are
            ∙ ap (λ n. pair Year (whole_number b n)) f.value)
            ∙ ap (λ p. Some (pair Year (whole_number b y) ∷ p ∷ [])) (digits_number b Month ms g.are
            ∙ ap (λ n. pair Month (whole_number b n)) g.value);
        total = months_total b y m f.small g.small;
        bare = sign_bare is_whitespace s (ys ++ 45 ∷ ms) refl refl
            (append_bare is_whitespace ys (45 ∷ ms) (digits_bare is_whitespace digit_no_space ys f.are)
            (digits_bare is_whitespace digit_no_space ms g.are));
        filled = filled_after (sign_text s) (ys ++ 45 ∷ ms) (filled_after ys (45 ∷ ms) refl);
      };
    }

-- ---- days

pub days_read : (text bare rest : List ℕ) (d : ℕ) → bare ≡ without_sign text → IsNumberFront d bare rest
    → IsAmountFront day_pairs (only_days (with_sign (begins is_minus text) d)) text rest
days_read text bare rest d e f =
    let b = begins is_minus text in
    let ds = f.digits in
    let split = signed_front text ds rest f.are (sym e ∙ f.parts) in
    let s = split.sign in
    let token = sign_text s ++ ds in
    let cut = sign_before s ds [] f.are in
    let same : sign_text s ++ (ds ++ []) ≡ token = ap (λ t. sign_text s ++ t) (append-nil ds) in
    let minus : begins is_minus token ≡ b = ap (begins is_minus) (sym same) ∙ cut.0 ∙ sym split.minus in
    let plain : without_sign token ≡ ds = ap without_sign (sym same) ∙ cut.1 ∙ append-nil ds in
    record {
      token = token;
      parts = split.parts ∙ sym (append_assoc (sign_text s) ds rest);
      amount = record {
        all = pair Day (whole_number b d) ∷ [];
        read =
            ap (λ x. if is_field (without_sign token) then Some (field_pair x Day (without_sign token) ∷ []) else None) minus
            ∙ ap (λ t. if is_field t then Some (field_pair b Day t ∷ []) else None) plain
            ∙ ap (λ x. if x then Some (field_pair b Day ds ∷ []) else None) (digits_field ds f.are)
            ∙ ap (λ p. Some (p ∷ [])) (digits_number b Day ds f.are ∙ ap (λ n. pair Day (whole_number b n)) f.value);
        total = days_total b d f.small;
        bare = sign_bare is_whitespace s ds refl refl (digits_bare is_whitespace digit_no_space ds f.are);
        filled = filled_after (sign_text s) ds (filled_digits ds f.are);
      };
    }

-- ---- the time

second_only : (b : Bool) (s : ℕ) → pos 1000000 *ℤ with_sign b s +ℤ pos 0 ≡ with_sign b (1000000 * s)
second_only true s = omega (arith, ints)
second_only false s = omega (arith, ints)

second_total : (b : Bool) (s : ℕ) → s < 2 ^ 31
    → total_of int_out_of_range (pair Second (whole_number b s) ∷ []) ≡ Ok (only_time (with_sign b (1000000 * s)))
second_total b s h = whole_more Second b s [] nothing (fits_small 63 b s (wider s h)) refl
    ∙ ap Ok (same_interval _ _ refl refl (second_only b s))

-- digits of a fraction, six of them
six_places : Bool → ℕ → Decimal
six_places b f = record { negative = b; whole = 0; fraction = f; places = 6 }

six_fits : (b : Bool) (f : ℕ) → fits_field Second (whole_part (six_places b f)) ≡ true
unfolding six_places
six_fits true f = refl
six_fits false f = refl

six_sum : (b : Bool) (s f : ℕ)
    → pos 1000000 *ℤ with_sign b s +ℤ (pos 1000000 *ℤ pos 0 +ℤ with_sign b f +ℤ pos 0) ≡ with_sign b (1000000 * s + f)
six_sum true s f = omega (arith, ints)
six_sum false s f = omega (arith, ints)

six_worth : (b : Bool) (f : ℕ) → worth Second (six_places b f) ≡ only_time (pos 1000000 *ℤ pos 0 +ℤ with_sign b f)
unfolding six_places
six_worth b f =
    ap (λ z. only_time (pos 1000000 *ℤ z +ℤ with_sign b ((2 * 1000000 * f + 10 ^ 6) / (2 * 10 ^ 6)))) (zero_sign b)
    ∙ ap (λ n. only_time (pos 1000000 *ℤ pos 0 +ℤ with_sign b n)) (rounded_six f)

six_total : (b : Bool) (s f : ℕ) → s < 2 ^ 31
    → total_of int_out_of_range (pair Second (whole_number b s) ∷ pair Second (six_places b f) ∷ []) ≡ Ok
    (only_time (with_sign b (1000000 * s + f)))
six_total b s f h =
    whole_more Second b s (pair Second (six_places b f) ∷ []) _ (fits_small 63 b s (wider s h))
    (whole_worth int_out_of_range Second (six_places b f) [] nothing (six_fits b f) refl
    ∙ ap (λ w. Ok (sum_of w nothing)) (six_worth b f))
    ∙ ap Ok (same_interval _ _ refl refl (six_sum b s f))

pub seconds_whole : (text rest : List ℕ) (s : ℕ) → IsNumberFront s text rest → length rest ≡ 0 → IsSeconds (1000000 * s) text
seconds_whole text [] s f h =
    let ds = f.digits in
    let same : ds ≡ text = sym (append-nil ds) ∙ sym f.parts in
    subst (IsSeconds (1000000 * s)) same (record {
      all = λ b. pair Second (whole_number b s) ∷ [];
      read = λ b.
          ap (second_pairs b) (split_none is_point ds (digits_bare is_point digit_no_point ds f.are))
          ∙ ap (λ x. if x then Some (field_pair b Second ds ∷ []) else None) (digits_field ds f.are)
          ∙ ap (λ p. Some (p ∷ [])) (digits_number b Second ds f.are ∙ ap (λ n. pair Second (whole_number b n)) f.value);
      total = λ b. second_total b s f.small;
      bare = digits_bare is_whitespace digit_no_space ds f.are;
      plain = digits_bare is_colon digit_no_colon ds f.are;
      small = let h : s < 2 ^ 31 = f.small in omega arith;
    })
seconds_whole text (c ∷ cs) s f h = absurd (omega arith)

fraction_is : (b : Bool) (fs : List ℕ) (f : ℕ) → are_digits fs ≡ true → digits_value 10 fs ≡ f → length fs ≡ 6
    → fraction_pair b fs ≡ pair Second (six_places b f)
unfolding six_places
fraction_is b fs f are value six =
    ap (λ x. record { number = if x then Ok (number_of b [] fs) else Err (ParseIntErr InvalidDigit); unit = Second }) (all_digits fs are)
    ∙ ap (λ n. pair Second (record { negative = b; whole = 0; fraction = n; places = length fs })) value
    ∙ ap (λ p. pair Second (record { negative = b; whole = 0; fraction = f; places = p })) six

pub seconds_point : (text r1 r2 rest : List ℕ) (s f : ℕ) → IsNumberFront s text r1 → r1 ≡ 46 ∷ r2 → length r2 ≡ 6
    → IsNumberFront f r2 rest → length rest ≡ 0 → IsSeconds (1000000 * s + f) text
seconds_point text r1 r2 [] s f n point six g h =
    let ds = n.digits in
    let fs = g.digits in
    let same : r2 ≡ fs = g.parts ∙ append-nil fs in
    let whole : ds ++ 46 ∷ fs ≡ text = sym (n.parts ∙ ap (λ t. ds ++ t) (point ∙ ap (λ t. 46 ∷ t) same)) in
    let long : length fs ≡ 6 = ap length (sym same) ∙ six in
    subst (IsSeconds (1000000 * s + f)) whole (record {
      all = λ b. pair Second (whole_number b s) ∷ pair Second (six_places b f) ∷ [];
      read = λ b.
          ap (second_pairs b) (split_at is_point ds 46 fs (digits_bare is_point digit_no_point ds n.are) refl
          ∙ ap (λ ps. ds ∷ ps) (split_none is_point fs (digits_bare is_point digit_no_point fs g.are)))
          ∙ ap (λ x. if x && nat_le (length fs) 6 then Some (field_pair b Second ds ∷ fraction_pair b fs ∷ []) else None)
          (digits_field ds n.are)
          ∙ ap (λ k. if nat_le k 6 then Some (field_pair b Second ds ∷ fraction_pair b fs ∷ []) else None) long
          ∙ ap (λ p. Some (p ∷ fraction_pair b fs ∷ [])) (digits_number b Second ds n.are
          ∙ ap (λ n. pair Second (whole_number b n)) n.value)
          ∙ ap (λ p. Some (pair Second (whole_number b s) ∷ p ∷ [])) (fraction_is b fs f g.are g.value long);
      total = λ b. six_total b s f n.small;
      bare = append_bare is_whitespace ds (46 ∷ fs) (digits_bare is_whitespace digit_no_space ds n.are)
          (digits_bare is_whitespace digit_no_space fs g.are);
      plain = append_bare is_colon ds (46 ∷ fs) (digits_bare is_colon digit_no_colon ds n.are)
          (digits_bare is_colon digit_no_colon fs g.are);
      small = let a : s < 2 ^ 31 = n.small in let b : f < 2 ^ 31 = g.small in omega arith;
    })
seconds_point text r1 r2 (c ∷ cs) s f n point six g h = absurd (omega arith)

pub time_read : (text bare r1 r2 r3 r4 : List ℕ) (h m size : ℕ) → bare ≡ without_sign text → IsNumberFront h bare r1 → r1 ≡ 58 ∷ r2
    → IsNumberFront m r2 r3 → r3 ≡ 58 ∷ r4 → IsSeconds size r4 → (minus : Bool)
    → IsAmount (sql_time_pairs minus) (only_time (with_sign minus (3600000000 * h + 60000000 * m + size))) text
time_read text bare r1 r2 r3 r4 h m size e f colon g other k b =
    let hs = f.digits in
    let ms = g.digits in
    let tail = 58 ∷ (ms ++ 58 ∷ r4) in
    let behind : r1 ≡ tail = colon ∙ ap (λ t. 58 ∷ t) (g.parts ∙ ap (λ t. ms ++ t) other) in
    let whole : without_sign text ≡ hs ++ tail = sym e ∙ f.parts ∙ ap (λ t. hs ++ t) behind in
    let split = signed_front text hs tail f.are whole in
    let bare : list_any is_whitespace (sign_text split.sign ++ (hs ++ tail)) ≡ false = sign_bare is_whitespace split.sign
    (hs ++ tail) refl refl
    (append_bare is_whitespace hs tail (digits_bare is_whitespace digit_no_space hs f.are)
    (append_bare is_whitespace ms (58 ∷ r4) (digits_bare is_whitespace digit_no_space ms g.are) k.bare)) in
    record {
      all = pair Hour (whole_number b h) ∷ pair Minute (whole_number b m) ∷ k.all b;
      read =
          ap (λ t. clock_pairs b (slice_split is_colon t)) whole
          ∙ ap (clock_pairs b) (split_at is_colon hs 58 (ms ++ 58 ∷ r4) (digits_bare is_colon digit_no_colon hs f.are) refl
          ∙ ap (λ ps. hs ∷ ps) (split_at is_colon ms 58 r4 (digits_bare is_colon digit_no_colon ms g.are) refl
          ∙ ap (λ ps. ms ∷ ps) (split_none is_colon r4 k.plain)))
          ∙ ap (λ x. if x && is_field ms
          then (second_pairs b (slice_split is_point r4) >>= λ ps. Some (field_pair b Hour hs ∷ field_pair b Minute ms ∷ ps))
          else None) (digits_field hs f.are)
          ∙ ap (λ x. if x then (second_pairs b (slice_split is_point r4) >>= λ ps. Some
          (field_pair b Hour hs ∷ field_pair b Minute ms ∷ ps)) else None) (digits_field ms g.are)
          ∙ ap (λ o. o >>= λ ps. Some (field_pair b Hour hs ∷ field_pair b Minute ms ∷ ps)) (k.read b)
          ∙ ap (λ p. Some (p ∷ field_pair b Minute ms ∷ k.all b)) (digits_number b Hour hs f.are
          ∙ ap (λ n. pair Hour (whole_number b n)) f.value)
          ∙ ap (λ p. Some (pair Hour (whole_number b h) ∷ p ∷ k.all b)) (digits_number b Minute ms g.are
          ∙ ap (λ n. pair Minute (whole_number b n)) g.value);
      total = time_total b h m size (k.all b) f.small g.small (k.total b);
      bare = ap (list_any is_whitespace) split.parts ∙ bare;
      filled = ap is_empty split.parts ∙ filled_after (sign_text split.sign) (hs ++ tail) (filled_after hs tail refl);
    }

-- ---- all three

three_sum : (m d u : ℤ) → sum_of (only_months m) (sum_of (only_days d) (only_time u)) ≡ record { months = m; days = d; microseconds = u }
three_sum m d u = same_interval _ _ (omega (arith, ints)) (omega (arith, ints)) (omega (arith, ints))

three_totals : (range : ParseError) (ps qs rs : List Pair) (i j k : Interval) → total_of range ps ≡ Ok i → total_of range qs ≡ Ok j
    → total_of range rs ≡ Ok k → total_of range (ps ++ qs ++ rs) ≡ Ok (sum_of i (sum_of j k))
three_totals range ps qs rs i j k a b c =
    ap (total_of range) (append_assoc ps qs rs)
    ∙ total_more range ps (qs ++ rs)
    ∙ ap (λ r. joined r (total_of range (qs ++ rs))) a
    ∙ ap (plus i) (total_more range qs rs ∙ ap (λ r. joined r (total_of range rs)) b ∙ ap (plus j) c)

pub three_read : (text r1 second r2 third : List ℕ) (m d u : ℤ) → IsAmountFront year_month_pairs (only_months m) text r1
    → r1 ≡ 32 ∷ second → IsAmountFront day_pairs (only_days d) second r2 → r2 ≡ 32 ∷ third
    → IsAmount (sql_time_pairs (begins is_minus third)) (only_time u) third
    → of_shape SqlStandard (sql_pairs text) ≡ interval_of_sums (record { months = m; days = d; microseconds = u })
unfolding sql_pairs
three_read text r1 second r2 third m d u f space g other t =
    let a = f.token in
    let b = g.token in
    let x = f.amount in
    let y = g.amount in
    let rest : second ≡ b ++ 32 ∷ third = g.parts ∙ ap (λ r. b ++ r) other in
    let whole : text ≡ a ++ 32 ∷ (b ++ 32 ∷ third) = f.parts ∙ ap (λ r. a ++ r) (space ∙ ap (λ r. 32 ∷ r) rest) in
    let i : Interval = record { months = m; days = d; microseconds = u } in
    let split : tokens text ≡ a ∷ b ∷ third ∷ [] =
    ap tokens whole
    ∙ tokens_append a (b ++ 32 ∷ third)
    ∙ ap (λ ts. ts ++ tokens (b ++ 32 ∷ third)) (tokens_whole a x.filled x.bare)
    ∙ ap (λ ts. a ∷ ts) (tokens_append b third ∙ ap (λ ts. ts ++ tokens third) (tokens_whole b y.filled y.bare)
    ∙ ap (λ ts. b ∷ ts) (tokens_whole third t.filled t.bare)) in
    let read : sql_pairs text ≡ Some (x.all ++ y.all ++ t.all) =
    ap pairs_of_sql_tokens split
    ∙ ap (λ o. o >>= λ year_month. day_pairs b >>= λ day. sql_time_pairs (begins is_minus third) third >>= λ time. Some
    (year_month ++ day ++ time)) x.read
    ∙ ap (λ o. o >>= λ day. sql_time_pairs (begins is_minus third) third >>= λ time. Some (x.all ++ day ++ time)) y.read
    ∙ ap (λ o. o >>= λ time. Some (x.all ++ y.all ++ time)) t.read in
    let total : total_of int_out_of_range (x.all ++ y.all ++ t.all) ≡ Ok i = three_totals int_out_of_range x.all y.all t.all
    (only_months m) (only_days d) (only_time u) x.total y.total t.total ∙ ap Ok (three_sum m d u) in
    ap (of_shape SqlStandard) read ∙ ap judged total

-- ---- days and a time, and a time alone

time_colon_by : (s : Sign) (hs xs : List ℕ) → list_any is_colon (sign_text s ++ (hs ++ 58 ∷ xs)) ≡ true
time_colon_by s hs xs =
    list_any-append is_colon (sign_text s) (hs ++ 58 ∷ xs)
    ∙ ap (λ b. list_any is_colon (sign_text s) || b) (list_any-append is_colon hs (58 ∷ xs) ∙ or-true (list_any is_colon hs))
    ∙ or-true (list_any is_colon (sign_text s))

pub time_colon : (text bare r1 r2 : List ℕ) (h : ℕ) → bare ≡ without_sign text → IsNumberFront h bare r1 → r1 ≡ 58 ∷ r2
    → list_any is_colon text ≡ true
time_colon text bare r1 r2 h e f colon =
    let split = signed_front text f.digits (58 ∷ r2) f.are (sym e ∙ f.parts ∙ ap (λ t. f.digits ++ t) colon) in
    ap (list_any is_colon) split.parts ∙ time_colon_by split.sign f.digits r2

-- what pairs come to is the sum where the text is these pairs
sum_read : (text : List ℕ) (ps : List Pair) (i : Interval) → sql_pairs text ≡ Some ps
    → total_of int_out_of_range ps ≡ Ok i → of_shape SqlStandard (sql_pairs text) ≡ interval_of_sums i
sum_read text ps i read total = ap (of_shape SqlStandard) read ∙ ap judged total

pub alone_read : (text : List ℕ) (u : ℤ) → IsAmount (sql_time_pairs (begins is_minus text)) (only_time u) text
    → list_any is_colon text ≡ true → of_shape SqlStandard (sql_pairs text) ≡ interval_of_sums (only_time u)
unfolding sql_pairs
alone_read text u t colon =
    sum_read text t.all (only_time u)
    (ap pairs_of_sql_tokens (tokens_whole text t.filled t.bare)
    ∙ ap (λ b. if b then Some []
    else (if list_any is_colon text then sql_time_pairs (begins is_minus text) text else year_month_pairs text))
    (not_zero_text is_colon text refl colon)
    ∙ ap (λ b. if b then sql_time_pairs (begins is_minus text) text else year_month_pairs text) colon
    ∙ t.read)
    t.total

front_begins : (q : ℕ → Bool) (xs ys : List ℕ) → is_empty xs ≡ false → begins q (xs ++ ys) ≡ begins q xs
front_begins q [] ys h = cc
front_begins q (x ∷ xs) ys h = refl

choice : (b : Bool) (x y z : List ℕ) → begins is_minus y ≡ begins is_minus z
    → begins is_minus (if b then x else y) ≡ begins is_minus (if b then x else z)
choice true x y z h = refl
choice false x y z h = h

two_sum : (d u : ℤ) → sum_of (only_days d) (only_time u) ≡ record { months = pos 0; days = d; microseconds = u }
two_sum d u = same_interval _ _ (omega (arith, ints)) (omega (arith, ints)) (omega (arith, ints))

pub two_read : (text r1 second : List ℕ) (d u : ℤ) → IsAmountFront day_pairs (only_days d) text r1 → r1 ≡ 32 ∷ second
    → IsAmount (sql_time_pairs (begins is_minus (if begins is_sign second then second else text))) (only_time u) second
    → of_shape SqlStandard (sql_pairs text) ≡ interval_of_sums (record { months = pos 0; days = d; microseconds = u })
unfolding sql_pairs
two_read text r1 second d u f space t =
    let a = f.token in
    let x = f.amount in
    let whole : text ≡ a ++ 32 ∷ second = f.parts ∙ ap (λ r. a ++ r) space in
    let minus : begins is_minus (if begins is_sign second then second else a) ≡ begins is_minus
    (if begins is_sign second then second else text) = choice (begins is_sign second) second a text
    (sym (ap (begins is_minus) f.parts ∙ front_begins is_minus a r1 x.filled)) in
    sum_read text (x.all ++ t.all) _
    (ap pairs_of_sql_tokens
    (ap tokens whole ∙ tokens_append a second ∙ ap (λ ts. ts ++ tokens second) (tokens_whole a x.filled x.bare)
    ∙ ap (λ ts. a ∷ ts) (tokens_whole second t.filled t.bare))
    ∙ ap (λ o. o >>= λ day. sql_time_pairs (begins is_minus (if begins is_sign second then second else a)) second >>= λ time. Some
    (day ++ time)) x.read
    ∙ ap (λ m. sql_time_pairs m second >>= λ time. Some (x.all ++ time)) minus
    ∙ ap (λ o. o >>= λ time. Some (x.all ++ time)) t.read)
    (total_more int_out_of_range x.all t.all ∙ ap (λ r. joined r (total_of int_out_of_range t.all)) x.total
    ∙ ap (plus (only_days d)) t.total ∙ ap Ok (two_sum d u))
