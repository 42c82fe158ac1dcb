-- The steps by which a reader goes over the items of a text.
use Rattle.std.proofs.Common.{◌≡◌, ◌≢◌, ℕ, drop, get_or, ◌<◌, ◌≤◌, Bool, true, false, not, ◌||◌, List, [], ◌∷◌, ◌++◌, length, ap, ◌∙◌, sym, refl, arith, Option, None, Some, Result, Ok, Err}
use mathlib.Core.List.{append-nil}
use Rattle.std.specs.Prelude.{if◌then◌else◌, ◌==◌}
use Rattle.std.specs.List.{list_all, list_any, slice_split, onto_first, prefix_len}
use Rattle.std.proofs.lemmas.List.Folds.{list_any-append}
use Rattle.std.proofs.lemmas.Bool.{eqb-true}
use Rattle.pg_interval.specs.Texts.{◌>>=◌, begins, is_digit, is_point, is_minus}
use Rattle.pg_interval.specs.Decimals.{TimeUnit, decimal_of}
use Rattle.pg_interval.specs.Pairs.{Pair, checked, decimal_pair, nothing, total_of}
use Rattle.pg_interval.specs.IsoText.{Item, is_designator, is_item_number, longer, items_of, pairs_of_items, pairs_of_halves, date_unit, time_unit, iso_pairs}
use Rattle.pg_interval.specs.Reading.{Iso8601, of_shape}
use Rattle.pg_interval.specs.Reader.{joined, tallied}
use Rattle.pg_interval.specs.ItemReader.{is_time_mark, is_unmarked, items_left, halves_left, left, item_left, unit_at}
use Rattle.pg_interval.specs.WordReader.{answered, out_of_range}
use Rattle.pg_interval.specs.declared.pg_interval.Interval.{Interval}
use Rattle.interval_errors.specs.declared.Reason.TheVariants.{Shape}
use Rattle.interval_errors.specs.declared.ParseError.{ParseError}
use Rattle.interval_errors.specs.declared.ParseError.TheVariants.{InvalidInterval}
use Rattle.pg_interval.proofs.DigitTexts.{or_none_left, or_none_right, and_left, and_right, split_none, split_at}
use Rattle.pg_interval.proofs.ReadNumbers.{split_parts, two_parts, all_run, not_all_run}
use Rattle.pg_interval.proofs.ReadTimes.{parts_front}
use Rattle.pg_interval.proofs.ReadSums.{joined_joined, total_more, start_joined, joined_nothing}

-- ---- bytes without a mark

no_letter : (c : ℕ) → is_unmarked c ≡ true → is_designator c ≡ false
no_letter c h = by (is_designator c) h
  where
    by : (b : Bool) → not (b || is_time_mark c) ≡ true → b ≡ false
    by true e = cc
    by false e = refl

no_mark : (c : ℕ) → is_unmarked c ≡ true → is_time_mark c ≡ false
no_mark c h = by (is_designator c) (is_time_mark c) h
  where
    by : (a b : Bool) → not (a || b) ≡ true → b ≡ false
    by true b e = cc
    by false true e = cc
    by false false e = refl

no_letters : (xs : List ℕ) → list_all is_unmarked xs ≡ true → list_any is_designator xs ≡ false
no_letters [] h = refl
no_letters (c ∷ cs) h = rw (no_letter c (and_left (is_unmarked c) (list_all is_unmarked cs) h))
    (no_letters cs (and_right (is_unmarked c) (list_all is_unmarked cs) h))

no_marks : (xs : List ℕ) → list_all is_unmarked xs ≡ true → list_any is_time_mark xs ≡ false
no_marks [] h = refl
no_marks (c ∷ cs) h = rw (no_mark c (and_left (is_unmarked c) (list_all is_unmarked cs) h))
    (no_marks cs (and_right (is_unmarked c) (list_all is_unmarked cs) h))

pub letter_no_mark : (c : ℕ) → is_designator c ≡ true → is_time_mark c ≡ false
letter_no_mark c h = grind arith

stop_letter : (c : ℕ) → is_unmarked c ≡ false → is_time_mark c ≡ false → is_designator c ≡ true
stop_letter c h none = by (is_designator c) (ap (λ b. not (is_designator c || b)) (sym none) ∙ h)
  where
    by : (a : Bool) → not (a || false) ≡ false → a ≡ true
    by true e = refl
    by false e = cc

-- ---- items

abbrev fronted : List ℕ → Option (List Item) → Option (List Item)
fronted p None = None
fronted p (Some []) = None
fronted p (Some (item ∷ rest)) = Some (record item { number = p ++ item.number } ∷ rest)

one_front : (c : ℕ) (o : Option (List Item)) → (o >>= longer c) ≡ fronted (c ∷ []) o
one_front c None = refl
one_front c (Some []) = refl
one_front c (Some (item ∷ rest)) = refl

more_front : (c : ℕ) (p : List ℕ) (o : Option (List Item)) → (fronted p o >>= longer c) ≡ fronted (c ∷ p) o
more_front c p None = refl
more_front c p (Some []) = refl
more_front c p (Some (item ∷ rest)) = refl

items_front : (c : ℕ) (p cs : List ℕ) → list_any is_designator (c ∷ p) ≡ false → items_of ((c ∷ p) ++ cs) ≡ fronted (c ∷ p) (items_of cs)
items_front c [] cs h = rw (or_none_left (is_designator c) false h) (one_front c (items_of cs))
items_front c (d ∷ p) cs h =
    rw (or_none_left (is_designator c) (list_any is_designator (d ∷ p)) h)
    (ap (λ o. o >>= longer c) (items_front d p cs (or_none_right (is_designator c) (list_any is_designator (d ∷ p)) h))
    ∙ more_front c (d ∷ p) (items_of cs))

first_of : (number : List ℕ) (l : ℕ) (o : Option (List Item))
    → fronted number (o >>= λ rest. Some (record { number = []; letter = l } ∷ rest))
    ≡ (o >>= λ rest. Some (record { number = number ++ []; letter = l } ∷ rest))
first_of number l None = refl
first_of number l (Some rest) = refl

item_more : (number : List ℕ) (l : ℕ) (rest : List ℕ) → list_any is_designator number ≡ false → is_designator l ≡ true
    → items_of (number ++ l ∷ rest) ≡ (items_of rest >>= λ r. Some (record { number = number; letter = l } ∷ r))
item_more [] l rest h k = rw k refl
item_more (c ∷ cs) l rest h k =
    items_front c cs (l ∷ rest) h
    ∙ (rw k (first_of (c ∷ cs) l (items_of rest)))
    ∙ ap (λ n. items_of rest >>= λ r. Some (record { number = n; letter = l } ∷ r)) (append-nil (c ∷ cs))

-- bytes without a letter behind them are no item
no_item : (number : List ℕ) → 0 < length number → list_any is_designator number ≡ false → items_of number ≡ None
no_item [] filled h = absurd (omega arith)
no_item (c ∷ cs) filled h = ap items_of (sym (append-nil (c ∷ cs))) ∙ items_front c cs [] h

-- ---- one half

abbrev Sum : Type 0
Sum = Result Interval ParseError

pair_joined : (r : Sum) (p : Pair) (ps : List Pair)
    → joined r (total_of out_of_range (p ∷ ps)) ≡ joined (joined r (total_of out_of_range (p ∷ []))) (total_of out_of_range ps)
pair_joined r p ps = ap (joined r) (total_more out_of_range (p ∷ []) ps)
    ∙ sym (joined_joined r (total_of out_of_range (p ∷ [])) (total_of out_of_range ps))

abbrev pairs_left : Sum → Option (List Pair) → Option Sum
pairs_left r o = o >>= λ ps. Some (joined r (total_of out_of_range ps))

after_pair : (r : Sum) (p : Pair) (o : Option (List Pair))
    → pairs_left r (o >>= λ ps. Some (p ∷ ps)) ≡ pairs_left (joined r (total_of out_of_range (p ∷ []))) o
after_pair r p None = refl
after_pair r p (Some ps) = ap Some (pair_joined r p ps)

unit_after : (unit : ℕ → Option TimeUnit) (r : Sum) (number : List ℕ) (o : Option TimeUnit) (rest : List Item)
    → pairs_left r (o >>= λ u. pairs_of_items unit rest >>= λ ps. Some (decimal_pair u number ∷ ps))
    ≡ (o >>= λ u. pairs_left (tallied out_of_range u (checked (decimal_of number)) r) (pairs_of_items unit rest))
unit_after unit r number None rest = refl
unit_after unit r number (Some u) rest = after_pair r (decimal_pair u number) (pairs_of_items unit rest)

good_after : (unit : ℕ → Option TimeUnit) (r : Sum) (number : List ℕ) (l : ℕ) (b : Bool) (rest : List Item)
    → pairs_left r (if b then (unit l >>= λ u. pairs_of_items unit rest >>= λ ps. Some (decimal_pair u number ∷ ps)) else None)
    ≡ (if b then (unit l >>= λ u. pairs_left (tallied out_of_range u (checked (decimal_of number)) r) (pairs_of_items unit rest)) else None)
good_after unit r number l true rest = unit_after unit r number (unit l) rest
good_after unit r number l false rest = refl

abbrev no_sum : Option Sum
no_sum = None

none_after : (b : Bool) (o : Option TimeUnit) → no_sum ≡ (if b then (o >>= λ u. no_sum) else None)
none_after true None = refl
none_after true (Some u) = refl
none_after false o = refl

items_after : (unit : ℕ → Option TimeUnit) (r : Sum) (number : List ℕ) (l : ℕ) (o : Option (List Item))
    → ((o >>= λ rs. Some (record { number = number; letter = l } ∷ rs)) >>= pairs_of_items unit
    >>= λ ps. Some (joined r (total_of out_of_range ps)))
    ≡ (if is_item_number number then (unit l >>= λ u. o >>= pairs_of_items unit
    >>= λ ps. Some (joined (tallied out_of_range u (checked (decimal_of number)) r) (total_of out_of_range ps))) else None)
items_after unit r number l None = none_after (is_item_number number) (unit l)
items_after unit r number l (Some rs) = good_after unit r number l (is_item_number number) rs

item_step : (unit : ℕ → Option TimeUnit) (r : Sum) (number : List ℕ) (l : ℕ) (rest : List ℕ) → list_any is_designator number ≡ false
    → is_designator l ≡ true → items_left unit r (number ++ l ∷ rest)
    ≡ (if is_item_number number then (unit l >>= λ u. items_left unit (tallied out_of_range u (checked (decimal_of number)) r) rest)
    else None)
item_step unit r number l rest bare letter = ap (λ o. o >>= pairs_of_items unit
    >>= λ ps. Some (joined r (total_of out_of_range ps))) (item_more number l rest bare letter)
    ∙ items_after unit r number l (items_of rest)

-- ---- the whole

more_of_date : (r : Sum) (number : List ℕ) (l : ℕ) (p : List ℕ) (ps : List (List ℕ)) → list_any is_designator number ≡ false
    → is_designator l ≡ true → halves_left r ((number ++ l ∷ p) ∷ ps)
    ≡ (if is_item_number number then (date_unit l >>= λ u. halves_left (tallied out_of_range u (checked (decimal_of number)) r) (p ∷ ps))
    else None)
more_of_date r number l p [] bare letter = item_step date_unit r number l p bare letter
more_of_date r number l p (t ∷ []) bare letter =
    ap (λ o. o >>= λ q. items_left time_unit q t) (item_step date_unit r number l p bare letter) ∙ by (is_item_number number) (date_unit l)
  where
    by : (b : Bool) (o : Option TimeUnit) → ((if b then (o
        >>= λ u. items_left date_unit (tallied out_of_range u (checked (decimal_of number)) r) p) else None)
        >>= λ q. items_left time_unit q t) ≡ (if b then (o
        >>= λ u. items_left date_unit (tallied out_of_range u (checked (decimal_of number)) r) p >>= λ q. items_left time_unit q t)
        else None)
    by true None = refl
    by true (Some u) = refl
    by false o = refl
more_of_date r number l p (t ∷ x ∷ ps) bare letter = none_after (is_item_number number) (date_unit l)

marks_past : (number : List ℕ) (l : ℕ) (rest : List ℕ) → list_all is_unmarked number ≡ true → is_time_mark l ≡ false
    → list_any is_time_mark (number ++ l ∷ rest) ≡ list_any is_time_mark rest
marks_past number l rest all none = list_any-append is_time_mark number (l ∷ rest) ∙ (rw (no_marks number all, none) refl)

item_time : (r : Sum) (number : List ℕ) (l : ℕ) (rest : List ℕ) (b : Bool) → list_all is_unmarked number ≡ true → is_designator l ≡ true
    → list_any is_time_mark rest ≡ b → (if b then None else items_left time_unit r (number ++ l ∷ rest))
    ≡ (if is_item_number number then (time_unit l >>= λ u. if b then None
    else items_left time_unit (tallied out_of_range u (checked (decimal_of number)) r) rest) else None)
item_time r number l rest true all letter e = none_after (is_item_number number) (time_unit l)
item_time r number l rest false all letter e = item_step time_unit r number l rest (no_letters number all) letter

pub item_first : (in_time : Bool) (r : Sum) (number : List ℕ) (l : ℕ) (rest : List ℕ) → list_all is_unmarked number ≡ true
    → is_unmarked l ≡ false → is_time_mark l ≡ false → left in_time r (number ++ l ∷ rest) ≡ item_left in_time r number l rest
unfolding left
item_first true r number l rest all stop none = ap (λ b. if b then None
    else items_left time_unit r (number ++ l ∷ rest)) (marks_past number l rest all none)
    ∙ item_time r number l rest (list_any is_time_mark rest) all (stop_letter l stop none) refl
item_first false r number l rest all stop none =
    let q = split_parts is_time_mark rest in
    let letter = stop_letter l stop none in
    let front : slice_split is_time_mark (l ∷ rest) ≡ (l ∷ q.0) ∷ q.1 = (rw none (ap (onto_first l) q.2)) in
    ap (halves_left r) (parts_front is_time_mark number (l ∷ rest) (l ∷ q.0) q.1 (no_marks number all) front)
    ∙ more_of_date r number l q.0 q.1 (no_letters number all) letter
    ∙ sym (ap (λ ps. if is_item_number number then (date_unit l
    >>= λ u. halves_left (tallied out_of_range u (checked (decimal_of number)) r) ps) else None) q.2)

-- bytes with no letter behind them
pub no_letter_left : (in_time : Bool) (r : Sum) (number : List ℕ) → 0 < length number → list_all is_unmarked number ≡ true
    → left in_time r number ≡ None
unfolding left
no_letter_left true r number filled all = rw (no_marks number all)
    (ap (λ o. o >>= pairs_of_items time_unit >>= λ ps. Some (joined r (total_of out_of_range ps)))
    (no_item number filled (no_letters number all)))
no_letter_left false r number filled all = ap (halves_left r) (split_none is_time_mark number (no_marks number all))
    ∙ ap (λ o. o >>= pairs_of_items date_unit >>= λ ps. Some (joined r (total_of out_of_range ps)))
    (no_item number filled (no_letters number all))

any_true : (b : Bool) → (b || true) ≡ true
any_true true = refl
any_true false = refl

mark_past : (number : List ℕ) (l : ℕ) (rest : List ℕ) → is_time_mark l ≡ true → list_any is_time_mark (number ++ l ∷ rest) ≡ true
mark_past number l rest mark = list_any-append is_time_mark number (l ∷ rest)
    ∙ ap (λ b. list_any is_time_mark number || (b || list_any is_time_mark rest)) mark ∙ any_true (list_any is_time_mark number)

-- a second `T`
pub second_mark : (r : Sum) (number : List ℕ) (l : ℕ) (rest : List ℕ) → is_time_mark l ≡ true → left true r (number ++ l ∷ rest) ≡ None
unfolding left
second_mark r number l rest mark = ap (λ b. if b then None else items_left time_unit r (number ++ l ∷ rest)) (mark_past number l rest mark)

date_none : (r : Sum) (number : List ℕ) (ps : List (List ℕ)) → items_of number ≡ None → halves_left r (number ∷ ps) ≡ None
date_none r number [] e = ap (λ o. o >>= pairs_of_items date_unit >>= λ ps. Some (joined r (total_of out_of_range ps))) e
date_none r number (t ∷ []) e = ap (λ o. (o >>= pairs_of_items date_unit >>= λ ps. Some (joined r (total_of out_of_range ps)))
    >>= λ q. items_left time_unit q t) e
date_none r number (t ∷ x ∷ ps) e = refl

-- a number before the `T`
pub number_before : (r : Sum) (number : List ℕ) (l : ℕ) (rest : List ℕ) → 0 < length number → list_all is_unmarked number ≡ true
    → is_time_mark l ≡ true → left false r (number ++ l ∷ rest) ≡ None
unfolding left
number_before r number l rest filled all mark = ap (halves_left r) (split_at is_time_mark number l rest (no_marks number all) mark)
    ∙ date_none r number (slice_split is_time_mark rest) (no_item number filled (no_letters number all))

mark_by : (r : Sum) (rest : List ℕ) (b : Bool) → list_any is_time_mark rest ≡ b
    → halves_left r ([] ∷ slice_split is_time_mark rest) ≡ (if b then None else items_left time_unit r rest)
mark_by r rest true e = let q = two_parts is_time_mark rest e in ap (λ ps. halves_left r ([] ∷ ps)) q.3
mark_by r rest false e = ap (λ ps. halves_left r ([] ∷ ps)) (split_none is_time_mark rest e)
    ∙ ap (λ q. items_left time_unit q rest) (joined_nothing r)

pub mark_first : (r : Sum) (l : ℕ) (rest : List ℕ) → is_time_mark l ≡ true → left false r (l ∷ rest) ≡ left true r rest
unfolding left
mark_first r l rest mark = ap (halves_left r) (split_at is_time_mark [] l rest refl mark) ∙ mark_by r rest (list_any is_time_mark rest) refl

pub left_end : (in_time : Bool) (r : Sum) → left in_time r [] ≡ Some r
unfolding left
left_end true r = ap Some (joined_nothing r)
left_end false r = ap Some (joined_nothing r)

-- ---- whole texts

two_halves : (a b : Option (List Pair)) → (a >>= λ ps. b >>= λ qs. Some (ps ++ qs)) >>= (λ ps. Some (total_of out_of_range ps))
    ≡ (a >>= λ ps. Some (total_of out_of_range ps)) >>= λ q. b >>= λ qs. Some (joined q (total_of out_of_range qs))
two_halves None b = refl
two_halves (Some ps) None = refl
two_halves (Some ps) (Some qs) = ap Some (total_more out_of_range ps qs)

shaped : (o : Option (List Pair)) → of_shape Iso8601 o ≡ answered (o >>= λ ps. Some (total_of out_of_range ps))
shaped None = refl
shaped (Some ps) = refl

from_start : (o : Option (List Pair)) → (o >>= λ ps. Some (joined (Ok nothing) (total_of out_of_range ps)))
    ≡ (o >>= λ ps. Some (total_of out_of_range ps))
from_start None = refl
from_start (Some ps) = ap Some (start_joined (total_of out_of_range ps))

halves_are : (parts : List (List ℕ)) → (pairs_of_halves parts >>= λ ps. Some (total_of out_of_range ps)) ≡ halves_left (Ok nothing) parts
halves_are [] = refl
halves_are (d ∷ []) = sym (from_start (items_of d >>= pairs_of_items date_unit))
halves_are (d ∷ t ∷ []) =
    two_halves' (items_of d >>= pairs_of_items date_unit) (items_of t)
    ∙ sym (ap (λ o. o >>= λ q. items_left time_unit q t) (from_start (items_of d >>= pairs_of_items date_unit)))
  where
    two_halves' : (a : Option (List Pair)) (b : Option (List Item))
        → ((a >>= λ ps. b >>= pairs_of_items time_unit >>= λ qs. Some (ps ++ qs)) >>= λ ps. Some (total_of out_of_range ps))
        ≡ ((a >>= λ ps. Some (total_of out_of_range ps)) >>= λ q. b >>= pairs_of_items time_unit
        >>= λ qs. Some (joined q (total_of out_of_range qs)))
    two_halves' None b = refl
    two_halves' (Some ps) None = refl
    two_halves' (Some ps) (Some is) = two_halves (Some ps) (pairs_of_items time_unit is)
halves_are (d ∷ t ∷ x ∷ ps) = refl

pub iso_whole : (c d : ℕ) (ds : List ℕ) → c ≡ 80 → of_shape Iso8601 (iso_pairs (c ∷ d ∷ ds)) ≡ answered (left false (Ok nothing) (d ∷ ds))
unfolding left iso_pairs
iso_whole c d ds e = (rw e refl) ∙ shaped (pairs_of_halves (slice_split is_time_mark (d ∷ ds)))
    ∙ ap answered (halves_are (slice_split is_time_mark (d ∷ ds)))

pub iso_broken : (c d : ℕ) (ds : List ℕ) → (c == 80) ≡ false → of_shape Iso8601 (iso_pairs (c ∷ d ∷ ds)) ≡ Err (InvalidInterval Shape)
unfolding iso_pairs
iso_broken c d ds e = rw e refl

pub iso_short : (text : List ℕ) → length text < 2 → of_shape Iso8601 (iso_pairs text) ≡ Err (InvalidInterval Shape)
unfolding iso_pairs
iso_short [] h = refl
iso_short (c ∷ []) h = refl
iso_short (c ∷ d ∷ ds) h = absurd (omega arith)

-- ---- the number of an item

pub run_is_all : (p : ℕ → Bool) (xs : List ℕ) (n : ℕ) → n ≡ prefix_len p xs → n ≤ length xs → (n == length xs) ≡ list_all p xs
run_is_all p xs n e h = by (n == length xs) refl
  where
    by : (b : Bool) → (n == length xs) ≡ b → (n == length xs) ≡ list_all p xs
    by true f = f ∙ sym (all_run p xs (sym e ∙ eqb-true n (length xs) f))
    by false f = let lt : prefix_len p xs < length xs = grind arith in f ∙ sym (not_all_run p xs lt)

number_minus : (text rest : List ℕ) → text ≡ 45 ∷ rest → is_item_number text ≡ list_all (λ d. is_digit d || is_point d) rest
number_minus text rest e = ap is_item_number e

plain_by : (c : ℕ) (cs : List ℕ) → is_minus c ≡ false → is_item_number (c ∷ cs) ≡ list_all (λ d. is_digit d || is_point d) (c ∷ cs)
plain_by c cs e = rw e refl

number_plain : (text : List ℕ) → begins is_minus text ≡ false → is_item_number text ≡ list_all (λ d. is_digit d || is_point d) text
number_plain [] e = refl
number_plain (c ∷ cs) e = plain_by c cs e

pub minus_number : (text rest : List ℕ) (n : ℕ) → text ≡ 45 ∷ rest → n ≡ prefix_len (λ d. is_digit d || is_point d) rest → n ≤ length rest
    → (n == length rest) ≡ is_item_number text
minus_number text rest n e f h = run_is_all (λ d. is_digit d || is_point d) rest n f h ∙ sym (number_minus text rest e)

pub plain_number : (text : List ℕ) (n : ℕ) → begins is_minus text ≡ false → n ≡ prefix_len (λ d. is_digit d || is_point d) text
    → n ≤ length text → (n == length text) ≡ is_item_number text
plain_number text n e f h = run_is_all (λ d. is_digit d || is_point d) text n f h ∙ sym (number_plain text e)

pub item_taken : (in_time : Bool) (r sum : Sum) (number : List ℕ) (l : ℕ) (rest : List ℕ) (u : TimeUnit) (b : Bool)
    → b ≡ is_item_number number → b ≡ true → Some u ≡ unit_at in_time l → sum ≡ tallied out_of_range u (checked (decimal_of number)) r
    → left in_time sum rest ≡ item_left in_time r number l rest
item_taken in_time r sum number l rest u b e t named is =
    ap (λ q. left in_time q rest) is
    ∙ ap (λ o. o >>= λ v. left in_time (tallied out_of_range v (checked (decimal_of number)) r) rest) named
    ∙ sym (ap (λ x. if x then (unit_at in_time l >>= λ v. left in_time (tallied out_of_range v (checked (decimal_of number)) r) rest)
    else None) (sym e ∙ t))

pub stop_of : (behind : List ℕ) (l : ℕ) (rest : List ℕ) → behind ≡ l ∷ rest → begins is_unmarked behind ≡ false → is_unmarked l ≡ false
stop_of behind l rest e h = sym (ap (begins is_unmarked) e) ∙ h

pub other_mark : (l : ℕ) → l ≢ 84 → is_time_mark l ≡ false
other_mark l h = grind arith

pub the_mark : (l : ℕ) → l ≡ 84 → is_time_mark l ≡ true
the_mark l h = rw h refl

pub iso_whole_of : (text rest : List ℕ) → 2 ≤ length text → get_or text 0 0 ≡ 80 → rest ≡ drop 1 text
    → of_shape Iso8601 (iso_pairs text) ≡ answered (left false (Ok nothing) rest)
iso_whole_of [] rest h at e = absurd (omega arith)
iso_whole_of (c ∷ []) rest h at e = absurd (omega arith)
iso_whole_of (c ∷ d ∷ ds) rest h at e = iso_whole c d ds at ∙ sym (ap (λ t. answered (left false (Ok nothing) t)) e)

pub iso_broken_of : (text : List ℕ) → 2 ≤ length text → get_or text 0 0 ≢ 80
    → of_shape Iso8601 (iso_pairs text) ≡ Err (InvalidInterval Shape)
iso_broken_of [] h at = absurd (omega arith)
iso_broken_of (c ∷ []) h at = absurd (omega arith)
iso_broken_of (c ∷ d ∷ ds) h at = let e : (c == 80) ≡ false = grind arith in iso_broken c d ds e
