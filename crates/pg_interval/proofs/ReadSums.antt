-- The steps by which a reader adds up what the numbers of a text are worth.
use Rattle.std.proofs.Common.{◌≡◌, ℕ, zero, suc, ◌+◌, ◌*◌, ◌^◌, ◌≤◌, min, Bool, true, false, not, ◌&&◌, List, [], ◌∷◌, ◌++◌, ap, ◌∙◌, sym, refl, arith, lit≤, Option, None, Some, Result, Ok, Err, pos, ◌+ℤ◌, ◌*ℤ◌}
use Rattle.std.specs.Prelude.{if◌then◌else◌, ◌==◌, nat_lt}
use Rattle.std.proofs.lemmas.Int.{ints}
use Rattle.pg_interval.specs.Decimals.{Decimal, TimeUnit, Year, Month, Day, Hour, Minute, Second, with_sign, whole_part, worth, is_zero_decimal}
use Rattle.pg_interval.specs.Pairs.{Pair, checked, fits_above, fits_field, nothing, plus, sum_of, added, total_of}
use Rattle.pg_interval.specs.Reader.{capped, capped_decimal, number_held, size_of, rounded_size, sum_left, so_far_of, joined, tallied, with_if}
use Rattle.pg_interval.specs.declared.pg_interval.Interval.{Interval}
use Rattle.pg_interval.specs.declared.interval_parse.parts.Amount.{Amount}
use Rattle.interval_errors.specs.declared.DecimalError.{DecimalError}
use Rattle.interval_errors.specs.declared.ParseError.{ParseError}
use Rattle.pg_interval.proofs.NormalFacts.{same_interval}

-- ---- fields

above_within : (k : ℕ) (b : Bool) (n : ℕ) → fits_above k (with_sign b n) ≡ true → n ≤ 2 ^ k
above_within k false n h = grind arith
above_within k true zero h = omega arith
above_within k true (suc n) h = grind arith

pub whole_within : (u : TimeUnit) (d : Decimal) → fits_field u (whole_part d) ≡ true → d.whole ≤ 2 ^ 63
whole_within Year d h = let w = above_within 31 d.negative d.whole h in omega arith
whole_within Month d h = let w = above_within 31 d.negative d.whole h in omega arith
whole_within Day d h = let w = above_within 31 d.negative d.whole h in omega arith
whole_within Hour d h = above_within 63 d.negative d.whole h
whole_within Minute d h = above_within 63 d.negative d.whole h
whole_within Second d h = above_within 63 d.negative d.whole h

capped_below : (p n : ℕ) → p ≤ 2 ^ 63 → nat_lt (min n 18446744073709551614) p ≡ nat_lt n p
capped_below p n h = grind arith

plain_below : (p n : ℕ) → p ≤ 2 ^ 63 → nat_lt (min n 18446744073709551615) p ≡ nat_lt n p
plain_below p n h = grind arith

capped_zero : capped zero ≡ zero
capped_zero = refl

capped_suc : (n : ℕ) → capped (suc n) ≡ suc (min n 18446744073709551614)
capped_suc n = omega arith

above_by : (k : ℕ) (b : Bool) (n : ℕ) → 2 ^ k ≤ 2 ^ 63 → fits_above k (with_sign b (capped n)) ≡ fits_above k (with_sign b n)
above_by k false n h = plain_below (2 ^ k) n h
above_by k true zero h = refl
above_by k true (suc n) h = ap (λ m. fits_above k (with_sign true m)) (capped_suc n) ∙ capped_below (2 ^ k) n h

-- capping changes neither what a field holds nor what such a number is worth
pub fits_capped : (u : TimeUnit) (d : Decimal) → fits_field u (whole_part (capped_decimal d)) ≡ fits_field u (whole_part d)
fits_capped Year d = above_by 31 d.negative d.whole (lit≤ tt)
fits_capped Month d = above_by 31 d.negative d.whole (lit≤ tt)
fits_capped Day d = above_by 31 d.negative d.whole (lit≤ tt)
fits_capped Hour d = above_by 63 d.negative d.whole (lit≤ tt)
fits_capped Minute d = above_by 63 d.negative d.whole (lit≤ tt)
fits_capped Second d = above_by 63 d.negative d.whole (lit≤ tt)

capped_same : (d : Decimal) → d.whole ≤ 2 ^ 63 → capped_decimal d ≡ d
capped_same d h = let e : capped d.whole ≡ d.whole = omega arith in ap (λ w. record d { whole = w }) e

pub worth_capped : (u : TimeUnit) (d : Decimal) → fits_field u (whole_part d) ≡ true → worth u (capped_decimal d) ≡ worth u d
worth_capped u d h = ap (worth u) (capped_same d (whole_within u d h))

zero_capped : (n : ℕ) → (capped n == 0) ≡ (n == 0)
zero_capped n = grind arith

pub is_zero_capped : (d : Decimal) → is_zero_decimal (capped_decimal d) ≡ is_zero_decimal d
is_zero_capped d = ap (λ b. b && d.fraction == 0) (zero_capped d.whole)

-- ---- sums

unfoldable pub signed : Bool → Amount → Interval
signed b a = record { months = with_sign b a.months; days = with_sign b a.days; microseconds = with_sign b a.microseconds }

zero_sign : (b : Bool) → pos 0 ≡ with_sign b 0
zero_sign true = refl
zero_sign false = refl

year_sum : (b : Bool) (w r : ℕ) → pos 12 *ℤ with_sign b w +ℤ with_sign b r ≡ with_sign b (12 * w + r)
year_sum true w r = omega (arith, ints)
year_sum false w r = omega (arith, ints)

day_rest : (b : Bool) (r : ℕ) → pos 3600000000 *ℤ with_sign b r ≡ with_sign b (3600000000 * r)
day_rest true r = omega (arith, ints)
day_rest false r = omega (arith, ints)

hour_sum : (b : Bool) (w r : ℕ) → pos 3600000000 *ℤ with_sign b w +ℤ pos 60000000 *ℤ with_sign b r
    ≡ with_sign b (3600000000 * w + 60000000 * r)
hour_sum true w r = omega (arith, ints)
hour_sum false w r = omega (arith, ints)

minute_sum : (b : Bool) (w r : ℕ) → pos 60000000 *ℤ with_sign b w +ℤ pos 1000000 *ℤ with_sign b r ≡ with_sign b (60000000 * w + 1000000 * r)
minute_sum true w r = omega (arith, ints)
minute_sum false w r = omega (arith, ints)

second_sum : (b : Bool) (w r : ℕ) → pos 1000000 *ℤ with_sign b w +ℤ with_sign b r ≡ with_sign b (1000000 * w + r)
second_sum true w r = omega (arith, ints)
second_sum false w r = omega (arith, ints)

pub size_worth : (u : TimeUnit) (d : Decimal) → worth u d ≡ signed d.negative (size_of u d)
unfolding signed
size_worth Year d = same_interval _ _ (year_sum d.negative d.whole (rounded_size 12 d)) (zero_sign d.negative) (zero_sign d.negative)
size_worth Month d = same_interval _ _ refl refl (zero_sign d.negative)
size_worth Day d = same_interval _ _ (zero_sign d.negative) refl (day_rest d.negative (rounded_size 24 d))
size_worth Hour d = same_interval _ _ (zero_sign d.negative) (zero_sign d.negative) (hour_sum d.negative d.whole (rounded_size 60 d))
size_worth Minute d = same_interval _ _ (zero_sign d.negative) (zero_sign d.negative) (minute_sum d.negative d.whole (rounded_size 60 d))
size_worth Second d = same_interval _ _ (zero_sign d.negative) (zero_sign d.negative)
    (second_sum d.negative d.whole (rounded_size 1000000 d))

-- ---- one number more

pub no_more : (i : Interval) → sum_of i nothing ≡ i
no_more i = same_interval _ _ (omega (arith, ints)) (omega (arith, ints)) (omega (arith, ints))

tallied_by : (range : ParseError) (u : TimeUnit) (d : Decimal) (b : Bool) → fits_field u (whole_part d) ≡ b
    → added range (Ok d) u (Ok nothing) ≡ (if b then Ok (worth u d) else Err range)
tallied_by range u d true e = ap (λ b. if b then plus (worth u d) (Ok nothing) else Err range) e ∙ ap Ok (no_more (worth u d))
tallied_by range u d false e = ap (λ b. if b then plus (worth u d) (Ok nothing) else Err range) e

pub tallied_fits : (range : ParseError) (u : TimeUnit) (d : Decimal) (r : Result Interval ParseError) → fits_field u (whole_part d) ≡ true
    → tallied range u (Ok d) r ≡ joined r (Ok (worth u d))
tallied_fits range u d r e = ap (joined r) (tallied_by range u d true e)

pub tallied_beyond : (range : ParseError) (u : TimeUnit) (d : Decimal) (r : Result Interval ParseError)
    → fits_field u (whole_part d) ≡ false → tallied range u (Ok d) r ≡ joined r (Err range)
tallied_beyond range u d r e = ap (joined r) (tallied_by range u d false e)

-- a capped number counts as the number itself
capped_by : (range : ParseError) (u : TimeUnit) (d : Decimal) (r : Result Interval ParseError) (b : Bool) → fits_field u (whole_part d) ≡ b
    → tallied range u (Ok (capped_decimal d)) r ≡ tallied range u (Ok d) r
capped_by range u d r true e = tallied_fits range u (capped_decimal d) r (fits_capped u d ∙ e)
    ∙ ap (λ w. joined r (Ok w)) (worth_capped u d e) ∙ sym (tallied_fits range u d r e)
capped_by range u d r false e = tallied_beyond range u (capped_decimal d) r (fits_capped u d ∙ e) ∙ sym (tallied_beyond range u d r e)

pub tallied_capped : (range : ParseError) (u : TimeUnit) (d : Decimal) (r : Result Interval ParseError)
    → tallied range u (Ok (capped_decimal d)) r ≡ tallied range u (Ok d) r
tallied_capped range u d r = capped_by range u d r (fits_field u (whole_part d)) refl

-- more pairs, from what the pairs before them came to
plus_nothing : (r : Result Interval ParseError) → plus nothing r ≡ r
plus_nothing (Ok j) = ap Ok (same_interval _ _ (omega (arith, ints)) (omega (arith, ints)) (omega (arith, ints)))
plus_nothing (Err e) = refl

plus_joined : (i : Interval) (a b : Result Interval ParseError) → joined (plus i a) b ≡ plus i (joined a b)
plus_joined i (Ok j) (Ok k) = ap Ok (same_interval _ _ (omega (arith, ints)) (omega (arith, ints)) (omega (arith, ints)))
plus_joined i (Ok j) (Err e) = refl
plus_joined i (Err e) b = refl

pub joined_joined : (a b c : Result Interval ParseError) → joined (joined a b) c ≡ joined a (joined b c)
joined_joined (Err e) b c = refl
joined_joined (Ok i) b c = plus_joined i b c

added_by : (range : ParseError) (u : TimeUnit) (d : Decimal) (a b : Result Interval ParseError) (fits : Bool)
    → joined (if fits then plus (worth u d) a else Err range) b ≡ (if fits then plus (worth u d) (joined a b) else Err range)
added_by range u d a b true = plus_joined (worth u d) a b
added_by range u d a b false = refl

added_joined : (range : ParseError) (n : Result Decimal ParseError) (u : TimeUnit) (a b : Result Interval ParseError)
    → joined (added range n u a) b ≡ added range n u (joined a b)
added_joined range (Err e) u a b = refl
added_joined range (Ok d) u a b = added_by range u d a b (fits_field u (whole_part d))

pub total_more : (range : ParseError) (ps qs : List Pair) → total_of range (ps ++ qs) ≡ joined (total_of range ps) (total_of range qs)
total_more range [] qs = sym (plus_nothing (total_of range qs))
total_more range (p ∷ ps) qs = ap (added range p.number p.unit) (total_more range ps qs)
    ∙ sym (added_joined range p.number p.unit (total_of range ps) (total_of range qs))

pub start_joined : (r : Result Interval ParseError) → joined (Ok nothing) r ≡ r
start_joined r = plus_nothing r

pub joined_nothing : (r : Result Interval ParseError) → joined r (Ok nothing) ≡ r
joined_nothing (Ok i) = ap Ok (no_more i)
joined_nothing (Err e) = refl

pub tallied_held : (range : ParseError) (u : TimeUnit) (n : Result Decimal DecimalError) (r : Result Interval ParseError)
    → tallied range u (checked (number_held false n)) r ≡ tallied range u (checked n) r
tallied_held range u (Ok d) r = tallied_capped range u d r
tallied_held range u (Err e) r = refl

pub add_sums : (r : Option ParseError) (p m s : Amount) (negative : Bool)
    → so_far_of r (sum_left (with_if (not negative) p s) (with_if negative m s))
    ≡ joined (so_far_of r (sum_left p m)) (Ok (signed negative s))
unfolding signed
add_sums (Some e) p m s negative = refl
add_sums None p m s true = ap Ok (same_interval _ _ (omega (arith, ints)) (omega (arith, ints)) (omega (arith, ints)))
add_sums None p m s false = ap Ok (same_interval _ _ (omega (arith, ints)) (omega (arith, ints)) (omega (arith, ints)))
