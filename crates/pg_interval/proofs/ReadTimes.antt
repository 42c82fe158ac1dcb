-- The steps by which a reader reads the hours, minutes and seconds of a time.
use Rattle.std.proofs.Common.{◌≡◌, ℕ, ◌<◌, Bool, true, false, not, ◌&&◌, ◌||◌, List, [], ◌∷◌, ◌++◌, length, take, ap, ◌∙◌, sym, refl, arith, Option, None, Some}
use mathlib.Core.List.{append-nil}
use Rattle.std.specs.Prelude.{if◌then◌else◌, option_map}
use Rattle.std.specs.List.{list_all, list_any, slice_split, onto_first}
use Rattle.std.proofs.lemmas.List.Folds.{list_any-append}
use Rattle.pg_interval.specs.Texts.{◌>>=◌, is_digit, is_minus, is_point, is_colon, is_empty, are_digits, begins, without_sign}
use Rattle.pg_interval.specs.Decimals.{Decimal, number_of}
use Rattle.pg_interval.specs.PostgresText.{seconds_of}
use Rattle.pg_interval.specs.Reader.{capped_decimal, turned_if, fraction_after}
use Rattle.pg_interval.specs.WordReader.{Times, times_of, times_of_parts, held_times}
use Rattle.pg_interval.proofs.DigitTexts.{or_none_left, or_none_right, split_none, split_at, none_of_digits, digit_no_point, digit_no_colon}
use Rattle.pg_interval.proofs.ReadNumbers.{split_parts, two_parts, turned_sign, none_right, not_digit_first}

-- what stands in front of the first part
pub parts_front : (q : ℕ → Bool) (h r : List ℕ) (p : List ℕ) (ps : List (List ℕ)) → list_any q h ≡ false → slice_split q r ≡ p ∷ ps
    → slice_split q (h ++ r) ≡ (h ++ p) ∷ ps
parts_front q [] r p ps h e = e
parts_front q (x ∷ xs) r p ps h e = rw (
  or_none_left (q x) (list_any q xs) h,
  parts_front q xs r p ps (or_none_right (q x) (list_any q xs) h) e,
) refl

-- a first part that begins with a byte that cuts nothing
pub first_with : (q : ℕ → Bool) (c : ℕ) (cs : List ℕ) → q c ≡ false
    → (p : List ℕ) × (ps : List (List ℕ)) × (slice_split q (c ∷ cs) ≡ (c ∷ p) ∷ ps)
first_with q c cs h = let r = split_parts q cs in (r.0, r.1, (rw h (ap (onto_first c) r.2)))

no_filled : (xs : List ℕ) → list_all is_digit xs ≡ false → are_digits xs ≡ false
no_filled xs h = ap (λ b. not (is_empty xs) && b) h ∙ none_right (not (is_empty xs))

-- ---- the seconds

abbrev from_tail : Bool → List ℕ → Option (List ℕ) → Option Decimal
from_tail minus s None = None
from_tail minus s (Some f) = if are_digits s then Some (number_of minus s (take 6 f)) else None

bad_seconds : (minus : Bool) (first : List ℕ) (ps : List (List ℕ)) → list_all is_digit first ≡ false → seconds_of minus (first ∷ ps) ≡ None
bad_seconds minus first [] h = rw (no_filled first h) refl
bad_seconds minus first (f ∷ []) h = rw (no_filled first h) refl
bad_seconds minus first (f ∷ g ∷ ps) h = refl

tail_two : (minus : Bool) (s cs : List ℕ) (all : Bool) → list_all is_digit cs ≡ all
    → seconds_of minus (s ∷ cs ∷ []) ≡ from_tail minus s (if all then Some cs else None)
tail_two minus s cs true e = (rw e (by (are_digits s)))
  where
    by : (b : Bool) → (if b && true then Some (number_of minus s (take 6 cs)) else None)
        ≡ (if b then Some (number_of minus s (take 6 cs)) else None)
    by true = refl
    by false = refl
tail_two minus s cs false e = (rw e (by (are_digits s)))
  where
    by : (b : Bool) → (if b && false then Some (number_of minus s (take 6 cs)) else None) ≡ None
    by true = refl
    by false = refl

some_point : (minus : Bool) (s cs : List ℕ) → list_any is_point cs ≡ true
    → (seconds_of minus (s ∷ slice_split is_point cs) ≡ None) × (list_all is_digit cs ≡ false)
some_point minus s cs h =
    let q = two_parts is_point cs h in
    (ap (λ ps. seconds_of minus (s ∷ ps)) q.3, not_all cs (list_all is_digit cs) refl h)
  where
    not_all : (cs : List ℕ) (b : Bool) → list_all is_digit cs ≡ b → list_any is_point cs ≡ true → list_all is_digit cs ≡ false
    not_all cs false e h = e
    not_all cs true e h = let n = none_of_digits is_point digit_no_point cs e in cc

tail_by : (minus : Bool) (s cs : List ℕ) (some : Bool) → list_any is_point cs ≡ some
    → seconds_of minus (s ∷ slice_split is_point cs) ≡ from_tail minus s (if list_all is_digit cs then Some cs else None)
tail_by minus s cs true e = let p = some_point minus s cs e in p.0 ∙ sym (ap (λ b. from_tail minus s (if b then Some cs else None)) p.1)
tail_by minus s cs false e = ap (λ ps. seconds_of minus (s ∷ ps)) (split_none is_point cs e)
    ∙ tail_two minus s cs (list_all is_digit cs) refl

second_by : (minus : Bool) (s : List ℕ) (c : ℕ) (cs : List ℕ) (b : Bool) → list_all is_digit s ≡ true → is_digit c ≡ false → is_point c ≡ b
    → seconds_of minus (slice_split is_point (s ++ c ∷ cs)) ≡ from_tail minus s (if b && list_all is_digit cs then Some cs else None)
second_by minus s c cs true all stop e = ap (seconds_of minus) (split_at is_point s c cs (none_of_digits is_point digit_no_point s all) e)
    ∙ tail_by minus s cs (list_any is_point cs) refl
second_by minus s c cs false all stop e =
    let n = first_with is_point c cs e in
    ap (seconds_of minus) (parts_front is_point s (c ∷ cs) (c ∷ n.0) n.1 (none_of_digits is_point digit_no_point s all) n.2)
    ∙ bad_seconds minus (s ++ c ∷ n.0) n.1 (not_digit_first c n.0 s stop)

seconds_are : (minus : Bool) (s r : List ℕ) → list_all is_digit s ≡ true → begins is_digit r ≡ false
    → seconds_of minus (slice_split is_point (s ++ r)) ≡ from_tail minus s (fraction_after r)
seconds_are minus s [] all stop = ap (λ t. seconds_of minus (slice_split is_point t)) (append-nil s)
    ∙ ap (seconds_of minus) (split_none is_point s (none_of_digits is_point digit_no_point s all))
seconds_are minus s (c ∷ cs) all stop = second_by minus s c cs (is_point c) all stop refl

-- ---- the parts

bad_hours : (minus : Bool) (first : List ℕ) (ps : List (List ℕ)) → list_all is_digit first ≡ false
    → times_of_parts minus (first ∷ ps) ≡ None
bad_hours minus first [] h = refl
bad_hours minus first (m ∷ []) h = refl
bad_hours minus first (m ∷ s ∷ []) h = rw (no_filled first h) refl
bad_hours minus first (m ∷ s ∷ x ∷ ps) h = refl

bad_minutes : (minus : Bool) (first second : List ℕ) (ps : List (List ℕ)) → list_all is_digit second ≡ false
    → times_of_parts minus (first ∷ second ∷ ps) ≡ None
bad_minutes minus first second [] h = refl
bad_minutes minus first second (s ∷ []) h = rw (no_filled second h, none_right (are_digits first)) refl
bad_minutes minus first second (s ∷ x ∷ ps) h = refl

no_hours : (minus : Bool) (h r : List ℕ) → list_all is_digit h ≡ true → begins is_digit r ≡ false → begins is_colon r ≡ false
    → times_of_parts minus (slice_split is_colon (h ++ r)) ≡ None
no_hours minus h [] all stop none = ap (λ t. times_of_parts minus (slice_split is_colon t)) (append-nil h)
    ∙ ap (times_of_parts minus) (split_none is_colon h (none_of_digits is_colon digit_no_colon h all))
no_hours minus h (c ∷ cs) all stop none =
    let n = first_with is_colon c cs none in
    ap (times_of_parts minus) (parts_front is_colon h (c ∷ cs) (c ∷ n.0) n.1 (none_of_digits is_colon digit_no_colon h all) n.2)
    ∙ bad_hours minus (h ++ c ∷ n.0) n.1 (not_digit_first c n.0 h stop)

no_minutes : (minus : Bool) (h m r : List ℕ) → list_all is_digit m ≡ true → begins is_digit r ≡ false → begins is_colon r ≡ false
    → times_of_parts minus (h ∷ slice_split is_colon (m ++ r)) ≡ None
no_minutes minus h m [] all stop none = ap (λ t. times_of_parts minus (h ∷ slice_split is_colon t)) (append-nil m)
    ∙ ap (λ ps. times_of_parts minus (h ∷ ps)) (split_none is_colon m (none_of_digits is_colon digit_no_colon m all))
no_minutes minus h m (c ∷ cs) all stop none =
    let n = first_with is_colon c cs none in
    ap (λ ps. times_of_parts minus (h ∷ ps)) (parts_front is_colon m (c ∷ cs) (c ∷ n.0) n.1 (none_of_digits is_colon digit_no_colon m all)
    n.2)
    ∙ bad_minutes minus h (m ++ c ∷ n.0) n.1 (not_digit_first c n.0 m stop)

abbrev pub from_parts : Bool → List ℕ → List ℕ → List ℕ → Option (List ℕ) → Option Times
from_parts minus h m s None = None
from_parts minus h m s (Some f) = if are_digits h
    && are_digits m then (if are_digits s then Some (record {
      hours = number_of minus h [];
      minutes = number_of minus m [];
      seconds = number_of minus s (take 6 f);
    }) else None) else None

abbrev no_times : Option Times
no_times = None

abbrev with_seconds : Bool → List ℕ → List ℕ → Option Decimal → Option Times
with_seconds minus h m o = if are_digits h && are_digits m then (o
    >>= λ seconds. Some (record { hours = number_of minus h []; minutes = number_of minus m []; seconds = seconds })) else None

joined_tail : (minus : Bool) (h m s : List ℕ) (o : Option (List ℕ))
    → with_seconds minus h m (from_tail minus s o) ≡ from_parts minus h m s o
joined_tail minus h m s None = by (are_digits h && are_digits m)
  where
    by : (b : Bool) → (if b then None else None) ≡ no_times
    by true = refl
    by false = refl
joined_tail minus h m s (Some f) = by (are_digits s)
  where
    by : (b : Bool) → with_seconds minus h m (if b then Some (number_of minus s (take 6 f)) else None)
        ≡ (if are_digits h && are_digits m then (if b then Some (record {
          hours = number_of minus h [];
          minutes = number_of minus m [];
          seconds = number_of minus s (take 6 f);
        }) else None) else None)
    by true = refl
    by false = refl

no_colon_tail : (c : ℕ) (cs : List ℕ) → list_any is_colon (c ∷ cs) ≡ true → (is_point c && list_all is_digit cs) ≡ false
no_colon_tail c cs h = by (is_point c) (list_all is_digit cs) refl refl
  where
    point_no_colon : (c : ℕ) → is_point c ≡ true → is_colon c ≡ false
    point_no_colon c h = grind arith

    by : (a b : Bool) → is_point c ≡ a → list_all is_digit cs ≡ b → (is_point c && list_all is_digit cs) ≡ false
    by false b e f = ap (λ x. x && list_all is_digit cs) e
    by true false e f = ap (λ x. is_point c && x) f ∙ none_right (is_point c)
    by true true e f = let n = none_of_digits is_colon digit_no_colon cs f in let p = point_no_colon c e in
        let none : list_any is_colon (c ∷ cs) ≡ false = (rw (p, n) refl) in cc

colon_fraction : (r : List ℕ) → list_any is_colon r ≡ true → fraction_after r ≡ None
colon_fraction [] h = cc
colon_fraction (c ∷ cs) h = ap (λ b. if b then Some cs else None) (no_colon_tail c cs h)

in_rest : (s r : List ℕ) → list_all is_digit s ≡ true → list_any is_colon (s ++ r) ≡ true → list_any is_colon r ≡ true
in_rest s r all h = let n = none_of_digits is_colon digit_no_colon s all in
    sym (ap (λ b. b || list_any is_colon r) n) ∙ sym (list_any-append is_colon s r) ∙ h

third_by : (minus : Bool) (h m s r : List ℕ) (some : Bool) → list_all is_digit s ≡ true → begins is_digit r ≡ false
    → list_any is_colon (s ++ r) ≡ some → times_of_parts minus (h ∷ m ∷ slice_split is_colon (s ++ r))
    ≡ from_parts minus h m s (fraction_after r)
third_by minus h m s r true all stop e =
    let q = two_parts is_colon (s ++ r) e in
    ap (λ ps. times_of_parts minus (h ∷ m ∷ ps)) q.3 ∙ sym (ap (from_parts minus h m s) (colon_fraction r (in_rest s r all e)))
third_by minus h m s r false all stop e =
    ap (λ ps. times_of_parts minus (h ∷ m ∷ ps)) (split_none is_colon (s ++ r) e)
    ∙ ap (with_seconds minus h m) (seconds_are minus s r all stop)
    ∙ joined_tail minus h m s (fraction_after r)

-- ---- a whole time

pub times_no_hours : (token h r : List ℕ) → without_sign token ≡ h ++ r → list_all is_digit h ≡ true → begins is_digit r ≡ false
    → begins is_colon r ≡ false → times_of token ≡ None
unfolding times_of
times_no_hours token h r e all stop none = ap (λ t. times_of_parts (begins is_minus token) (slice_split is_colon t)) e
    ∙ no_hours (begins is_minus token) h r all stop none

pub times_no_minutes : (token h r m r2 : List ℕ) → without_sign token ≡ h ++ 58 ∷ r → list_all is_digit h ≡ true → r ≡ m ++ r2
    → list_all is_digit m ≡ true → begins is_digit r2 ≡ false → begins is_colon r2 ≡ false → times_of token ≡ None
unfolding times_of
times_no_minutes token h r m r2 e all f all2 stop none =
    ap (λ t. times_of_parts (begins is_minus token) (slice_split is_colon t)) e
    ∙ ap (times_of_parts (begins is_minus token)) (split_at is_colon h 58 r (none_of_digits is_colon digit_no_colon h all) refl)
    ∙ ap (λ t. times_of_parts (begins is_minus token) (h ∷ slice_split is_colon t)) f
    ∙ no_minutes (begins is_minus token) h m r2 all2 stop none

pub times_are : (token h r m r2 s r3 : List ℕ) → without_sign token ≡ h ++ 58 ∷ r → list_all is_digit h ≡ true → r ≡ m ++ 58 ∷ r2
    → list_all is_digit m ≡ true → r2 ≡ s ++ r3 → list_all is_digit s ≡ true → begins is_digit r3 ≡ false
    → times_of token ≡ from_parts (begins is_minus token) h m s (fraction_after r3)
unfolding times_of
times_are token h r m r2 s r3 e all f all2 g all3 stop =
    ap (λ t. times_of_parts (begins is_minus token) (slice_split is_colon t)) e
    ∙ ap (times_of_parts (begins is_minus token)) (split_at is_colon h 58 r (none_of_digits is_colon digit_no_colon h all) refl)
    ∙ ap (λ t. times_of_parts (begins is_minus token) (h ∷ slice_split is_colon t)) f
    ∙ ap (λ ps. times_of_parts (begins is_minus token) (h ∷ ps))
    (split_at is_colon m 58 r2 (none_of_digits is_colon digit_no_colon m all2) refl)
    ∙ ap (λ t. times_of_parts (begins is_minus token) (h ∷ m ∷ slice_split is_colon t)) g
    ∙ third_by (begins is_minus token) h m s r3 (list_any is_colon (s ++ r3)) all3 stop refl

-- ---- what a reader of a time answers

pub no_time : (turn : Bool) (token : List ℕ) → times_of token ≡ None → None ≡ option_map (held_times turn) (times_of token)
no_time turn token e = sym (ap (option_map (held_times turn)) e)

no_bytes : (xs : List ℕ) → length xs ≡ 0 → are_digits xs ≡ false
no_bytes [] h = refl
no_bytes (x ∷ xs) h = absurd (omega arith)

some_bytes : (xs : List ℕ) → list_all is_digit xs ≡ true → 0 < length xs → are_digits xs ≡ true
some_bytes [] all h = absurd (omega arith)
some_bytes (x ∷ xs) all h = all

pub no_fraction : (turn minus : Bool) (token h m s r : List ℕ) → times_of token ≡ from_parts minus h m s (fraction_after r)
    → fraction_after r ≡ None → None ≡ option_map (held_times turn) (times_of token)
no_fraction turn minus token h m s r e none = no_time turn token (e ∙ ap (from_parts minus h m s) none)

pub empty_hours : (turn minus : Bool) (token h m s r f : List ℕ) → times_of token ≡ from_parts minus h m s (fraction_after r)
    → fraction_after r ≡ Some f → length h ≡ 0 → None ≡ option_map (held_times turn) (times_of token)
empty_hours turn minus token h m s r f e some none = no_time turn token (e ∙ ap (from_parts minus h m s) some ∙ (rw (no_bytes h none) refl))

pub empty_minutes : (turn minus : Bool) (token h m s r f : List ℕ) → times_of token ≡ from_parts minus h m s (fraction_after r)
    → fraction_after r ≡ Some f → length m ≡ 0 → None ≡ option_map (held_times turn) (times_of token)
empty_minutes turn minus token h m s r f e some none =
    no_time turn token (e ∙ ap (from_parts minus h m s) some ∙ (rw (no_bytes m none, none_right (are_digits h)) refl))

pub empty_seconds : (turn minus : Bool) (token h m s r f : List ℕ) → times_of token ≡ from_parts minus h m s (fraction_after r)
    → fraction_after r ≡ Some f → length s ≡ 0 → None ≡ option_map (held_times turn) (times_of token)
empty_seconds turn minus token h m s r f e some none =
    no_time turn token (e ∙ ap (from_parts minus h m s) some ∙ (rw (no_bytes s none) (by (are_digits h && are_digits m))))
  where
    by : (b : Bool) → (if b then None else None) ≡ no_times
    by true = refl
    by false = refl

sign_turned : (turn minus b : Bool) (w f : List ℕ) (d : Decimal) → b ≡ (if turn then not minus else minus)
    → d ≡ capped_decimal (number_of b w f) → d ≡ capped_decimal (turned_if turn (number_of minus w f))
sign_turned turn minus b w f d e is = is ∙ ap (λ x. capped_decimal (number_of x w f)) e ∙ ap capped_decimal (turned_sign turn minus w f)

pub good_time : (turn minus b : Bool) (token h m s r f : List ℕ) (x y z : Decimal)
    → times_of token ≡ from_parts minus h m s (fraction_after r) → fraction_after r ≡ Some f → list_all is_digit h ≡ true
    → list_all is_digit m ≡ true → list_all is_digit s ≡ true → 0 < length h → 0 < length m → 0 < length s
    → b ≡ (if turn then not minus else minus) → x ≡ capped_decimal (number_of b h []) → y ≡ capped_decimal (number_of b m [])
    → z ≡ capped_decimal (number_of b s (take 6 f))
    → Some (let t : Times = record { hours = x; minutes = y; seconds = z } in t) ≡ option_map (held_times turn) (times_of token)
good_time turn minus b token h m s r f x y z e some allh allm alls fh fm fs sign xe ye ze =
    let whole : from_parts minus h m s (Some f) ≡ Some (record {
      hours = number_of minus h [];
      minutes = number_of minus m [];
      seconds = number_of minus s (take 6 f);
    }) = (rw (some_bytes h allh fh, some_bytes m allm fm, some_bytes s alls fs) refl) in
    let t : times_of token ≡ Some (record {
      hours = number_of minus h [];
      minutes = number_of minus m [];
      seconds = number_of minus s (take 6 f);
    }) = e ∙ ap (from_parts minus h m s) some ∙ whole in
    (rw (
      sign_turned turn minus b h [] x sign xe,
      sign_turned turn minus b m [] y sign ye,
      sign_turned turn minus b s (take 6 f) z sign ze,
    ) refl) ∙ sym (ap (option_map (held_times turn)) t)
