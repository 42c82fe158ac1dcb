-- The steps by which a reader goes over the tokens of a text.
use Rattle.std.proofs.Common.{◌≡◌, ℕ, suc, ◌+◌, ◌-◌, ◌<◌, ◌≤◌, Bool, true, false, not, ◌&&◌, ◌||◌, List, [], ◌∷◌, ◌++◌, length, take, drop, get_or, map, ap, ◌∙◌, sym, refl, subst, arith, Option, None, Some, Result, Ok, Err}
use mathlib.Core.List.{append-nil}
use Rattle.std.specs.Prelude.{cond, option_map, if◌then◌else◌, ◌==◌, filter, codes, bytes_eq}
use Rattle.std.specs.List.{list_all, list_any, slice_split, take_while, prefix_len}
use Rattle.std.proofs.Math.Seq.{take-suc}
use Rattle.std.proofs.lemmas.List.Folds.{list_all-append, length-prefix_len}
use Rattle.std.proofs.lemmas.List.{take-append-drop}
use Rattle.std.proofs.lemmas.Slice.Eq.{bytes_eq-Decides}
use Rattle.pg_interval.specs.Texts.{◌>>=◌, is_whitespace, is_letter, is_minus, is_point, is_colon, is_empty, are_digits, begins, without_sign, tokens}
use Rattle.pg_interval.specs.Decimals.{Decimal, TimeUnit, Year, Month, Day, Hour, Minute, Second, number_of, decimal_of, is_zero_decimal}
use Rattle.pg_interval.specs.Pairs.{Pair, pair, decimal_pair, checked}
use Rattle.pg_interval.specs.PostgresText.{Token, Number, Word, Joined, Time, Other, token_of, time_of, time_pairs, or_other, token_split, token_of_parts, pairs_of_tokens, is_number_byte, unless_zero, those_not_zero, seconds_of, trimmed_start, trimmed_end, unit_of_word, unit_of_verbose_word}
use Rattle.pg_interval.specs.Reader.{capped_decimal, turned_if, number_held}
use Rattle.pg_interval.specs.WordReader.{State, Times, has, left, pair_left, time_left, taken, taken_one, taken_unless_zero, taken_times, times_of, times_of_parts, held_times, turned_by, unit_in, out_of_range, with_unit, worded_left}
use Rattle.pg_interval.specs.declared.pg_interval.Interval.{Interval}
use Rattle.interval_errors.specs.declared.DecimalError.{DecimalError}
use Rattle.interval_errors.specs.declared.ParseError.{ParseError}
use Rattle.interval_errors.specs.declared.ParseError.TheVariants.{ParseFloatErr}
use Rattle.pg_interval.proofs.DigitTexts.{split_at, tokens_whole}
use Rattle.pg_interval.proofs.PartTexts.{number_token}
use Rattle.pg_interval.proofs.ReadSums.{tallied_capped, is_zero_capped}

-- ---- whitespace

no_space : (w : List ℕ) → list_all (λ c. not (is_whitespace c)) w ≡ true → list_any is_whitespace w ≡ false
no_space [] h = refl
no_space (c ∷ cs) h = by (is_whitespace c) h (no_space cs)
  where
    by : (b : Bool) → (not b && list_all (λ c. not (is_whitespace c)) cs) ≡ true
        → (list_all (λ c. not (is_whitespace c)) cs ≡ true → list_any is_whitespace cs ≡ false) → (b || list_any is_whitespace cs) ≡ false
    by true e k = cc
    by false e k = k e

space_first : (c : ℕ) (cs : List ℕ) → is_whitespace c ≡ true → tokens (c ∷ cs) ≡ tokens cs
space_first c cs h = rw h refl

not_solid : (c : ℕ) → not (is_whitespace c) ≡ false → is_whitespace c ≡ true
not_solid c h = by (is_whitespace c) h
  where
    by : (b : Bool) → not b ≡ false → b ≡ true
    by true e = refl
    by false e = cc

pub token_first : (w r : List ℕ) → 0 < length w → list_all (λ c. not (is_whitespace c)) w ≡ true
    → begins (λ c. not (is_whitespace c)) r ≡ false → tokens (w ++ r) ≡ w ∷ tokens r
token_first [] r filled all stop = absurd (omega arith)
token_first (x ∷ w) [] filled all stop = ap tokens (append-nil (x ∷ w)) ∙ tokens_whole (x ∷ w) refl (no_space (x ∷ w) all)
token_first (x ∷ w) (c ∷ cs) filled all stop =
    ap (filter (λ token. not (is_empty token))) (split_at is_whitespace (x ∷ w) c cs (no_space (x ∷ w) all) (not_solid c stop))
    ∙ ap (λ ts. (x ∷ w) ∷ ts) (sym (space_first c cs (not_solid c stop)))

suc_one : (n : ℕ) → 1 + n ≡ suc n
suc_one n = omega arith

past_by : (c : ℕ) (cs : List ℕ) (b : Bool) → is_whitespace c ≡ b → tokens (drop (prefix_len is_whitespace cs) cs) ≡ tokens cs
    → tokens (drop (cond b (1 + prefix_len is_whitespace cs) 0) (c ∷ cs)) ≡ tokens (c ∷ cs)
past_by c cs true e h = (rw suc_one h) ∙ sym (space_first c cs e)
past_by c cs false e h = refl

past_space : (xs : List ℕ) → tokens (drop (prefix_len is_whitespace xs) xs) ≡ tokens xs
past_space [] = refl
past_space (c ∷ cs) = past_by c cs (is_whitespace c) refl (past_space cs)

pub tokens_trimmed : (xs : List ℕ) → tokens (trimmed_start xs) ≡ tokens xs
tokens_trimmed xs = ap (λ n. tokens (drop n xs)) (length-prefix_len is_whitespace xs) ∙ past_space xs

-- ---- the end of a text

space_last : (xs : List ℕ) (y : ℕ) → is_whitespace y ≡ true → trimmed_end (xs ++ y ∷ []) ≡ trimmed_end xs
space_last [] y h = rw h refl
space_last (c ∷ cs) y h = by (list_all is_whitespace (c ∷ cs)) refl (space_last cs y h)
  where
    more : list_all is_whitespace ((c ∷ cs) ++ y ∷ []) ≡ list_all is_whitespace (c ∷ cs)
    more = list_all-append is_whitespace (c ∷ cs) (y ∷ []) ∙ (rw h (true_right (list_all is_whitespace (c ∷ cs))))
      where
        true_right : (b : Bool) → (b && true) ≡ b
        true_right true = refl
        true_right false = refl

    by : (b : Bool) → list_all is_whitespace (c ∷ cs) ≡ b → trimmed_end (cs ++ y ∷ []) ≡ trimmed_end cs
        → trimmed_end ((c ∷ cs) ++ y ∷ []) ≡ trimmed_end (c ∷ cs)
    by b e k = (rw (more, k) refl)

solid_all : (xs : List ℕ) (y : ℕ) → is_whitespace y ≡ false → list_all is_whitespace (xs ++ y ∷ []) ≡ false
solid_all xs y h = list_all-append is_whitespace xs (y ∷ []) ∙ (rw h (by (list_all is_whitespace xs)))
  where
    by : (b : Bool) → (b && false) ≡ false
    by true = refl
    by false = refl

solid_last : (xs : List ℕ) (y : ℕ) → is_whitespace y ≡ false → trimmed_end (xs ++ y ∷ []) ≡ xs ++ y ∷ []
solid_last [] y h = rw h refl
solid_last (c ∷ cs) y h = ap (λ b. if b then [] else c ∷ trimmed_end (cs ++ y ∷ [])) (solid_all (c ∷ cs) y h)
    ∙ ap (λ t. c ∷ t) (solid_last cs y h)

taken_last : (xs : List ℕ) (n : ℕ) → 0 < n → n ≤ length xs → take n xs ≡ take (n - 1) xs ++ get_or xs (n - 1) 0 ∷ []
taken_last xs n h k = let e : n ≡ suc (n - 1) = omega arith in ap (λ m. take m xs) e ∙ take-suc xs (n - 1) 0 (omega arith)

pub trim_step : (xs : List ℕ) (n : ℕ) → 0 < n → n ≤ length xs → is_whitespace (get_or xs (n - 1) 0) ≡ true
    → trimmed_end (take (n - 1) xs) ≡ trimmed_end (take n xs)
trim_step xs n h k e = sym (ap trimmed_end (taken_last xs n h k) ∙ space_last (take (n - 1) xs) (get_or xs (n - 1) 0) e)

pub trim_stop : (xs : List ℕ) (n : ℕ) → 0 < n → n ≤ length xs → is_whitespace (get_or xs (n - 1) 0) ≡ false
    → take n xs ≡ trimmed_end (take n xs)
trim_stop xs n h k e = taken_last xs n h k ∙ sym (ap trimmed_end (taken_last xs n h k)
    ∙ solid_last (take (n - 1) xs) (get_or xs (n - 1) 0) e)

-- ---- words

bytes_same : (xs ys : List ℕ) → bytes_eq xs ys ≡ true → xs ≡ ys
bytes_same xs ys e = (bytes_eq-Decides xs ys).0 e

abbrev IsWordText : List ℕ → Type 0
IsWordText w = (token_of w ≡ Word w) × (list_all is_letter w ≡ true)

named : (w name : List ℕ) → IsWordText name → bytes_eq w name ≡ true → IsWordText w
named w name good e = subst IsWordText (sym (bytes_same w name e)) good

two_names : (w a b : List ℕ) → IsWordText a → IsWordText b → (bytes_eq w a || bytes_eq w b) ≡ true → IsWordText w
two_names w a b ga gb e = by (bytes_eq w a) refl e
  where
    by : (t : Bool) → bytes_eq w a ≡ t → (t || bytes_eq w b) ≡ true → IsWordText w
    by true f k = named w a ga f
    by false f k = named w b gb k

three_names : (w a b d : List ℕ) → IsWordText a → IsWordText b → IsWordText d → (bytes_eq w a || bytes_eq w b || bytes_eq w d) ≡ true
    → IsWordText w
three_names w a b d ga gb gd e = by (bytes_eq w a || bytes_eq w b) refl e
  where
    by : (t : Bool) → (bytes_eq w a || bytes_eq w b) ≡ t → (t || bytes_eq w d) ≡ true → IsWordText w
    by true f k = two_names w a b ga gb f
    by false f k = named w d gd k

pick : {P : Type 0} (b : Bool) (x : TimeUnit) (rest : Option TimeUnit) (u : TimeUnit) → (if b then Some x else rest) ≡ Some u
    → (b ≡ true → P) → (rest ≡ Some u → P) → P
pick {P} true x rest u e here there = here refl
pick {P} false x rest u e here there = there e

unit_text : (w : List ℕ) (u : TimeUnit) → unit_of_word w ≡ Some u → IsWordText w
unit_text w u e =
    pick _ Year _ u e (two_names w (codes "year") (codes "years") (refl, refl) (refl, refl)) (λ e.
    pick _ Month _ u e (three_names w (codes "mon") (codes "mons") (codes "months") (refl, refl) (refl, refl) (refl, refl)) (λ e.
    pick _ Day _ u e (two_names w (codes "day") (codes "days") (refl, refl) (refl, refl)) (λ e.
    pick _ Hour _ u e (two_names w (codes "hour") (codes "hours") (refl, refl) (refl, refl)) (λ e.
    pick _ Minute _ u e (two_names w (codes "minute") (codes "minutes") (refl, refl) (refl, refl)) (λ e.
    pick _ Second None u e (two_names w (codes "second") (codes "seconds") (refl, refl) (refl, refl)) (λ e. cc))))))

verbose_text : (w : List ℕ) (u : TimeUnit) → unit_of_verbose_word w ≡ Some u → IsWordText w
verbose_text w u e =
    pick _ Minute _ u e (two_names w (codes "min") (codes "mins") (refl, refl) (refl, refl)) (λ e.
    pick _ Second _ u e (two_names w (codes "sec") (codes "secs") (refl, refl) (refl, refl)) (λ e. unit_text w u e))

word_text : (verbose : Bool) (w : List ℕ) (u : TimeUnit) → unit_in verbose w ≡ Some u → IsWordText w
word_text true w u e = verbose_text w u e
word_text false w u e = unit_text w u e

-- ---- tokens

pub front_parts : (p : ℕ → Bool) (xs ys : List ℕ) → list_all p xs ≡ true → begins p ys ≡ false → prefix_len p (xs ++ ys) ≡ length xs
front_parts p [] [] all stop = refl
front_parts p [] (y ∷ ys) all stop = rw stop refl
front_parts p (x ∷ xs) ys all stop = by (p x) refl all (front_parts p xs ys)
  where
    by : (b : Bool) → p x ≡ b → (b && list_all p xs) ≡ true
        → (list_all p xs ≡ true → begins p ys ≡ false → prefix_len p (xs ++ ys) ≡ length xs)
        → prefix_len p ((x ∷ xs) ++ ys) ≡ length (x ∷ xs)
    by true e f k = (rw e refl) ∙ ap (λ n. 1 + n) (k f stop) ∙ suc_one (length xs)
    by false e f k = cc

pub front_taken : (xs ys : List ℕ) → take (length xs) (xs ++ ys) ≡ xs
front_taken [] ys = refl
front_taken (x ∷ xs) ys = ap (λ t. x ∷ t) (front_taken xs ys)

back_left : (xs ys : List ℕ) → drop (length xs) (xs ++ ys) ≡ ys
back_left [] ys = refl
back_left (x ∷ xs) ys = back_left xs ys

split_is : (n w : List ℕ) → list_any is_colon (n ++ w) ≡ false → list_all is_number_byte n ≡ true → begins is_number_byte w ≡ false
    → token_of (n ++ w) ≡ token_split n w
split_is n w none all stop =
    let front : take_while is_number_byte (n ++ w) ≡ n =
    ap (λ k. take k (n ++ w)) (front_parts is_number_byte n w all stop) ∙ front_taken n w in
    ap (λ b. if b then time_of (n ++ w) else token_split (take_while is_number_byte (n ++ w))
    (drop (length (take_while is_number_byte (n ++ w))) (n ++ w))) none
    ∙ ap (λ f. token_split f (drop (length f) (n ++ w))) front
    ∙ ap (token_split n) (back_left n w)

-- ---- the answer from a token on

abbrev no_answer : Option (Result Interval ParseError)
no_answer = None

after_pair : (turn : Bool) (s : State) (p : Pair) (o : Option (List Pair))
    → ((o >>= λ ps. Some (p ∷ ps)) >>= λ ps. taken turn s ps >>= λ t. Some t.sum)
    ≡ (taken_one s p.unit (turned_by turn p.number) >>= λ t. o >>= λ ps. taken turn t ps >>= λ t. Some t.sum)
after_pair turn s p None = none (taken_one s p.unit (turned_by turn p.number))
  where
    none : (o : Option State) → no_answer ≡ (o >>= λ t. no_answer)
    none None = refl
    none (Some t) = refl
after_pair turn s p (Some ps) = by (taken_one s p.unit (turned_by turn p.number))
  where
    by : (o : Option State) → ((o >>= λ t. taken turn t ps) >>= λ t. Some t.sum) ≡ (o >>= λ t. taken turn t ps >>= λ t. Some t.sum)
    by None = refl
    by (Some t) = refl

unit_after : (verbose turn : Bool) (s : State) (number rest : List ℕ) (o : Option TimeUnit)
    → ((o >>= λ u. pairs_of_tokens (unit_in verbose) (map token_of (tokens rest)) >>= λ ps. Some (decimal_pair u number ∷ ps))
    >>= λ ps. taken turn s ps >>= λ t. Some t.sum)
    ≡ (o >>= λ u. taken_one s u (turned_by turn (checked (decimal_of number))) >>= λ t. left verbose turn t rest)
unfolding left
unit_after verbose turn s number rest None = refl
unit_after verbose turn s number rest (Some u) =
    after_pair turn s (decimal_pair u number) (pairs_of_tokens (unit_in verbose) (map token_of (tokens rest)))

abbrev left_of : Bool → Bool → State → List Token → Option (Result Interval ParseError)
left_of verbose turn s ts = pairs_of_tokens (unit_in verbose) ts >>= λ ps. taken turn s ps >>= λ t. Some t.sum

left_first : (verbose turn : Bool) (s : State) (w r : List ℕ) → 0 < length w → list_all (λ c. not (is_whitespace c)) w ≡ true
    → begins (λ c. not (is_whitespace c)) r ≡ false
    → left verbose turn s (w ++ r) ≡ left_of verbose turn s (token_of w ∷ map token_of (tokens r))
unfolding left
left_first verbose turn s w r filled all stop = ap (λ ts. left_of verbose turn s (map token_of ts)) (token_first w r filled all stop)

unit_twice : (o : Option TimeUnit) (f : TimeUnit → Option State) (g : State → Option (Result Interval ParseError))
    → (o >>= λ u. f u >>= g) ≡ ((o >>= f) >>= g)
unit_twice None f g = refl
unit_twice (Some u) f g = refl

-- a number with a word joined behind it
joined_by : (verbose turn : Bool) (s : State) (d : ℕ) (ds : List ℕ) (c : ℕ) (cs rest : List ℕ) (o : Option TimeUnit) (b : Bool)
    → unit_in verbose (c ∷ cs) ≡ o → list_all is_letter (c ∷ cs) ≡ b
    → left_of verbose turn s ((if b then Joined (d ∷ ds) (c ∷ cs) else Other) ∷ map token_of (tokens rest))
    ≡ (o >>= λ u. taken_one s u (turned_by turn (checked (decimal_of (d ∷ ds)))) >>= λ t. left verbose turn t rest)
joined_by verbose turn s d ds c cs rest o true e f =
    ap (λ o. (o >>= λ u. pairs_of_tokens (unit_in verbose) (map token_of (tokens rest)) >>= λ ps. Some (decimal_pair u (d ∷ ds) ∷ ps))
    >>= λ ps. taken turn s ps >>= λ t. Some t.sum) e ∙ unit_after verbose turn s (d ∷ ds) rest o
joined_by verbose turn s d ds c cs rest None false e f = refl
joined_by verbose turn s d ds c cs rest (Some u) false e f = let g = (word_text verbose (c ∷ cs) u e).1 in cc

pub joined_left : (verbose turn : Bool) (s : State) (n w r : List ℕ) → 0 < length n → 0 < length w → list_any is_colon (n ++ w) ≡ false
    → list_all is_number_byte n ≡ true → begins is_number_byte w ≡ false → list_all (λ c. not (is_whitespace c)) (n ++ w) ≡ true
    → begins (λ c. not (is_whitespace c)) r ≡ false → left verbose turn s ((n ++ w) ++ r) ≡ pair_left verbose turn s n w r
joined_left verbose turn s [] w r fn fw none all stop solid end = absurd (omega arith)
joined_left verbose turn s (d ∷ ds) [] r fn fw none all stop solid end = absurd (omega arith)
joined_left verbose turn s (d ∷ ds) (c ∷ cs) r fn fw none all stop solid end =
    left_first verbose turn s ((d ∷ ds) ++ (c ∷ cs)) r (omega arith) solid end
    ∙ ap (λ t. left_of verbose turn s (t ∷ map token_of (tokens r))) (split_is (d ∷ ds) (c ∷ cs) none all stop)
    ∙ joined_by verbose turn s d ds c cs r (unit_in verbose (c ∷ cs)) (list_all is_letter (c ∷ cs)) refl refl
    ∙ unit_twice (unit_in verbose (c ∷ cs)) (λ u. taken_one s u (turned_by turn (checked (decimal_of (d ∷ ds)))))
    (λ t. left verbose turn t r)

-- a token that begins with a byte of no number
pub word_left : (verbose turn : Bool) (s : State) (w r : List ℕ) → 0 < length w → list_any is_colon w ≡ false
    → begins is_number_byte w ≡ false → list_all (λ c. not (is_whitespace c)) w ≡ true → begins (λ c. not (is_whitespace c)) r ≡ false
    → left verbose turn s (w ++ r) ≡ None
word_left verbose turn s [] r filled none stop solid end = absurd (omega arith)
word_left verbose turn s (c ∷ cs) r filled none stop solid end =
    left_first verbose turn s (c ∷ cs) r (omega arith) solid end
    ∙ ap (λ t. left_of verbose turn s (t ∷ map token_of (tokens r))) (split_is [] (c ∷ cs) none refl stop)
    ∙ by (list_all is_letter (c ∷ cs))
  where
    by : (b : Bool) → left_of verbose turn s ((if b then Word (c ∷ cs) else Other) ∷ map token_of (tokens r)) ≡ None
    by true = refl
    by false = refl

-- a number that stands alone, and the token behind it
alone_word : (t w : List ℕ) → token_of t ≡ Word w → w ≡ t
alone_word t w e = by (list_any is_colon t) e
  where
    no_time : (o : Option (List Pair)) → or_other o ≡ Word w → w ≡ t
    no_time None e = cc
    no_time (Some ps) e = cc

    of_parts : (n r : List ℕ) → n ++ r ≡ t → token_of_parts n r ≡ Word w → w ≡ t
    of_parts n [] whole e = cc
    of_parts [] (c ∷ cs) whole e = (let same : c ∷ cs ≡ w = cc in sym same) ∙ whole
    of_parts (d ∷ ds) (c ∷ cs) whole e = cc

    parts_whole : (n : ℕ) (xs : List ℕ) → take n xs ++ drop n xs ≡ xs
    parts_whole n xs = take-append-drop n xs

    of_split : (n r : List ℕ) (b : Bool) → n ++ r ≡ t → (if b then token_of_parts n r else Other) ≡ Word w → w ≡ t
    of_split n r true whole e = of_parts n r whole e
    of_split n r false whole e = cc

    by : (b : Bool) → (if b then time_of t else token_split (take_while is_number_byte t) (drop (length (take_while is_number_byte t)) t))
        ≡ Word w → w ≡ t
    by true e = no_time (time_pairs (begins is_minus t) (slice_split is_colon (without_sign t))) e
    by false e = of_split (take_while is_number_byte t) (drop (length (take_while is_number_byte t)) t)
        (list_all is_letter (drop (length (take_while is_number_byte t)) t))
        (ap (λ k. take_while is_number_byte t ++ drop k t) (length-prefix_len is_number_byte t)
        ∙ parts_whole (prefix_len is_number_byte t) t) e

no_unit_after : (verbose turn : Bool) (s : State) (n t : List ℕ) (ts : List Token) (token : Token) → token_of t ≡ token
    → unit_in verbose t ≡ None → left_of verbose turn s (Number n ∷ token ∷ ts) ≡ None
no_unit_after verbose turn s n t ts (Number m) e none = refl
no_unit_after verbose turn s n t ts (Word w) e none =
    ap (λ o. (o >>= λ u. pairs_of_tokens (unit_in verbose) ts >>= λ ps. Some (decimal_pair u n ∷ ps)) >>= λ ps. taken turn s ps
    >>= λ t. Some t.sum) (ap (unit_in verbose) (alone_word t w e) ∙ none)
no_unit_after verbose turn s n t ts (Joined m w) e none = refl
no_unit_after verbose turn s n t ts (Time ps) e none = refl
no_unit_after verbose turn s n t ts Other e none = refl

spaced_by : (verbose turn : Bool) (s : State) (n w r : List ℕ) (o : Option TimeUnit) → unit_in verbose w ≡ o
    → left_of verbose turn s (Number n ∷ token_of w ∷ map token_of (tokens r))
    ≡ (o >>= λ u. taken_one s u (turned_by turn (checked (decimal_of n))) >>= λ t. left verbose turn t r)
spaced_by verbose turn s n w r None e = no_unit_after verbose turn s n w (map token_of (tokens r)) (token_of w) refl e
spaced_by verbose turn s n w r (Some u) e =
    ap (λ t. left_of verbose turn s (Number n ∷ t ∷ map token_of (tokens r))) (word_text verbose w u e).0
    ∙ ap (λ o. (o >>= λ u. pairs_of_tokens (unit_in verbose) (map token_of (tokens r)) >>= λ ps. Some (decimal_pair u n ∷ ps))
    >>= λ ps. taken turn s ps >>= λ t. Some t.sum) e
    ∙ unit_after verbose turn s n r (Some u)

no_word : (verbose : Bool) → unit_in verbose [] ≡ None
no_word true = refl
no_word false = refl

next_word : (verbose turn : Bool) (s : State) (n rest w r2 : List ℕ) → trimmed_start rest ≡ w ++ r2
    → list_all (λ c. not (is_whitespace c)) w ≡ true → begins (λ c. not (is_whitespace c)) r2 ≡ false
    → begins is_whitespace (trimmed_start rest) ≡ false
    → left_of verbose turn s (Number n ∷ map token_of (tokens rest)) ≡ pair_left verbose turn s n w r2
next_word verbose turn s n rest [] r2 e all end solid =
    ap (λ ts. left_of verbose turn s (Number n ∷ map token_of ts)) (sym (tokens_trimmed rest) ∙ ap tokens e
    ∙ ap tokens (none_left r2 end (ap (begins is_whitespace) (sym e) ∙ solid)))
    ∙ sym (ap (λ o. (o >>= λ u. taken_one s u (turned_by turn (checked (decimal_of n)))) >>= λ t. left verbose turn t r2) (no_word verbose))
  where
    none_left : (r : List ℕ) → begins (λ c. not (is_whitespace c)) r ≡ false → begins is_whitespace r ≡ false → r ≡ []
    none_left [] a b = refl
    none_left (c ∷ cs) a b = by (is_whitespace c) a b
      where
        by : (t : Bool) → not t ≡ false → t ≡ false → c ∷ cs ≡ []
        by true a b = cc
        by false a b = cc
next_word verbose turn s n rest (c ∷ w) r2 e all end solid =
    ap (λ ts. left_of verbose turn s (Number n ∷ map token_of ts)) (sym (tokens_trimmed rest) ∙ ap tokens e
    ∙ token_first (c ∷ w) r2 (omega arith) all end)
    ∙ spaced_by verbose turn s n (c ∷ w) r2 (unit_in verbose (c ∷ w)) refl
    ∙ unit_twice (unit_in verbose (c ∷ w)) (λ u. taken_one s u (turned_by turn (checked (decimal_of n)))) (λ t. left verbose turn t r2)

pub spaced_left : (verbose turn : Bool) (s : State) (n rest w r2 : List ℕ) → 0 < length n → list_any is_colon n ≡ false
    → list_all is_number_byte n ≡ true → list_all (λ c. not (is_whitespace c)) n ≡ true → begins (λ c. not (is_whitespace c)) rest ≡ false
    → trimmed_start rest ≡ w ++ r2 → list_all (λ c. not (is_whitespace c)) w ≡ true → begins (λ c. not (is_whitespace c)) r2 ≡ false
    → begins is_whitespace (trimmed_start rest) ≡ false → left verbose turn s (n ++ rest) ≡ pair_left verbose turn s n w r2
spaced_left verbose turn s n rest w r2 filled none number solid end e all end2 start =
    left_first verbose turn s n rest filled solid end
    ∙ ap (λ t. left_of verbose turn s (t ∷ map token_of (tokens rest))) (number_token n none number)
    ∙ next_word verbose turn s n rest w r2 e all end2 start

-- ---- times

taken_append : (turn : Bool) (s : State) (ps qs : List Pair) → taken turn s (ps ++ qs) ≡ (taken turn s ps >>= λ t. taken turn t qs)
taken_append turn s [] qs = refl
taken_append turn s (p ∷ ps) qs = by (taken_one s p.unit (turned_by turn p.number)) (λ t. taken_append turn t ps qs)
  where
    by : (o : Option State) → ((t : State) → taken turn t (ps ++ qs) ≡ (taken turn t ps >>= λ u. taken turn u qs))
        → (o >>= λ t. taken turn t (ps ++ qs)) ≡ ((o >>= λ t. taken turn t ps) >>= λ u. taken turn u qs)
    by None h = refl
    by (Some t) h = h t

turned_ok : (turn : Bool) (d : Decimal) → turned_by turn (Ok d) ≡ Ok (turned_if turn d)
turned_ok true d = refl
turned_ok false d = refl

zero_turned : (turn : Bool) (d : Decimal) → is_zero_decimal (turned_if turn d) ≡ is_zero_decimal d
zero_turned true d = refl
zero_turned false d = refl

one_capped : (s : State) (u : TimeUnit) (d : Decimal) → taken_one s u (Ok d) ≡ taken_one s u (Ok (capped_decimal d))
one_capped s u d = ap (λ r. if has s.seen u then None
    else Some (record { seen = with_unit s.seen u; sum = r })) (sym (tallied_capped out_of_range u d s.sum))

taken_single : (s : State) (u : TimeUnit) (n : Result Decimal ParseError) → (taken_one s u n >>= λ t. Some t) ≡ taken_one s u n
taken_single s u n = by (taken_one s u n)
  where
    by : (o : Option State) → (o >>= λ t. Some t) ≡ o
    by None = refl
    by (Some t) = refl

unless_by : (turn : Bool) (s : State) (u : TimeUnit) (d : Decimal) (b : Bool) → is_zero_decimal d ≡ b
    → taken turn s (if b then [] else pair u d ∷ []) ≡ (if b then Some s else taken_one s u (Ok (capped_decimal (turned_if turn d))))
unless_by turn s u d true e = refl
unless_by turn s u d false e = taken_single s u (turned_by turn (Ok d)) ∙ ap (taken_one s u) (turned_ok turn d)
    ∙ one_capped s u (turned_if turn d)

unless_taken : (turn : Bool) (s : State) (u : TimeUnit) (d : Decimal)
    → taken turn s (unless_zero u d) ≡ taken_unless_zero s u (capped_decimal (turned_if turn d))
unless_taken turn s u d =
    unless_by turn s u d (is_zero_decimal d) refl
    ∙ sym (ap (λ b. if b then Some s else taken_one s u (Ok (capped_decimal (turned_if turn d)))) (is_zero_capped (turned_if turn d)
    ∙ zero_turned turn d))

bound : (o : Option State) (f g : State → Option State) → ((s : State) → f s ≡ g s) → (o >>= f) ≡ (o >>= g)
bound None f g h = refl
bound (Some s) f g h = h s

twice : (o : Option State) (f g : State → Option State) → ((o >>= f) >>= g) ≡ (o >>= λ s. f s >>= g)
twice None f g = refl
twice (Some s) f g = refl

taken_those : (turn : Bool) (s : State) (t : Times)
    → taken turn s (those_not_zero t.hours t.minutes t.seconds) ≡ taken_times s (held_times turn t)
taken_those turn s t =
    taken_append turn s (unless_zero Hour t.hours ++ unless_zero Minute t.minutes) (unless_zero Second t.seconds)
    ∙ ap (λ o. o >>= λ b. taken turn b (unless_zero Second t.seconds))
    (taken_append turn s (unless_zero Hour t.hours) (unless_zero Minute t.minutes))
    ∙ twice (taken turn s (unless_zero Hour t.hours)) (λ a. taken turn a (unless_zero Minute t.minutes))
    (λ b. taken turn b (unless_zero Second t.seconds))
    ∙ ap (λ o. o >>= λ a. taken turn a (unless_zero Minute t.minutes)
    >>= λ b. taken turn b (unless_zero Second t.seconds)) (unless_taken turn s Hour t.hours)
    ∙ bound (taken_unless_zero s Hour (held_times turn t).hours) _ _
    (λ a. ap (λ o. o >>= λ b. taken turn b (unless_zero Second t.seconds)) (unless_taken turn a Minute t.minutes)
    ∙ bound (taken_unless_zero a Minute (held_times turn t).minutes) _ _ (λ b. unless_taken turn b Second t.seconds))

abbrev pairs_of_times : Times → List Pair
pairs_of_times t = those_not_zero t.hours t.minutes t.seconds

times_pairs : (minus : Bool) (parts : List (List ℕ))
    → time_pairs minus parts ≡ (times_of_parts minus parts >>= λ t. Some (pairs_of_times t))
times_pairs minus [] = refl
times_pairs minus (h ∷ []) = refl
times_pairs minus (h ∷ m ∷ []) = refl
times_pairs minus (h ∷ m ∷ s ∷ []) = by (are_digits h && are_digits m) (seconds_of minus (slice_split is_point s))
  where
    by : (b : Bool) (o : Option Decimal) → (if b then (o
        >>= λ seconds. Some (those_not_zero (number_of minus h []) (number_of minus m []) seconds)) else None)
        ≡ ((if b then (o >>= λ seconds. Some (let t : Times = record {
          hours = number_of minus h [];
          minutes = number_of minus m [];
          seconds = seconds;
        } in t)) else None) >>= λ t. Some (pairs_of_times t))
    by true None = refl
    by true (Some d) = refl
    by false o = refl
times_pairs minus (h ∷ m ∷ s ∷ x ∷ ps) = refl

time_is : (text : List ℕ) → time_of text ≡ or_other (times_of text >>= λ t. Some (pairs_of_times t))
unfolding times_of
time_is text = ap or_other (times_pairs (begins is_minus text) (slice_split is_colon (without_sign text)))

after_time : (verbose turn : Bool) (s : State) (rest : List ℕ) (o : Option Times)
    → left_of verbose turn s (or_other (o >>= λ t. Some (pairs_of_times t)) ∷ map token_of (tokens rest))
    ≡ (option_map (held_times turn) o >>= λ t. taken_times s t >>= λ u. left verbose turn u rest)
unfolding left
after_time verbose turn s rest None = refl
after_time verbose turn s rest (Some t) = by (pairs_of_tokens (unit_in verbose) (map token_of (tokens rest)))
  where
    none : (o : Option State) → no_answer ≡ (o >>= λ t. no_answer)
    none None = refl
    none (Some t) = refl

    more : (o : Option State) (qs : List Pair) → ((o >>= λ u. taken turn u qs) >>= λ u. Some u.sum)
        ≡ (o >>= λ u. taken turn u qs >>= λ u. Some u.sum)
    more None qs = refl
    more (Some u) qs = refl

    by : (o : Option (List Pair)) → ((o >>= λ qs. Some (pairs_of_times t ++ qs)) >>= λ ps. taken turn s ps >>= λ u. Some u.sum)
        ≡ (taken_times s (held_times turn t) >>= λ u. o >>= λ ps. taken turn u ps >>= λ u. Some u.sum)
    by None = none (taken_times s (held_times turn t))
    by (Some qs) = ap (λ o. o >>= λ u. Some u.sum) (taken_append turn s (pairs_of_times t) qs)
        ∙ ap (λ o. (o >>= λ u. taken turn u qs) >>= λ u. Some u.sum) (taken_those turn s t) ∙ more (taken_times s (held_times turn t)) qs

pub times_left : (verbose turn : Bool) (s : State) (w r : List ℕ) → 0 < length w → list_any is_colon w ≡ true
    → list_all (λ c. not (is_whitespace c)) w ≡ true → begins (λ c. not (is_whitespace c)) r ≡ false
    → left verbose turn s (w ++ r) ≡ time_left verbose turn s w r
times_left verbose turn s w r filled some solid end =
    left_first verbose turn s w r filled solid end
    ∙ ap (λ b. left_of verbose turn s ((if b then time_of w
    else token_split (take_while is_number_byte w) (drop (length (take_while is_number_byte w)) w)) ∷ map token_of (tokens r)))
    some
    ∙ ap (λ t. left_of verbose turn s (t ∷ map token_of (tokens r))) (time_is w)
    ∙ after_time verbose turn s r (times_of w)

-- ---- the end

pub left_trimmed : (verbose turn : Bool) (s : State) (text : List ℕ) → left verbose turn s (trimmed_start text) ≡ left verbose turn s text
unfolding left
left_trimmed verbose turn s text = ap (λ ts. left_of verbose turn s (map token_of ts)) (tokens_trimmed text)

pub left_nothing : (verbose turn : Bool) (s : State) → left verbose turn s [] ≡ Some s.sum
unfolding left
left_nothing true turn s = refl
left_nothing false turn s = refl

-- ---- what a reader takes

held_err : (turn : Bool) (e : ParseError) → Err e ≡ turned_by turn (Err e)
held_err true e = refl
held_err false e = refl

pub held_taken : (s : State) (u : TimeUnit) (turn : Bool) (n : Result Decimal DecimalError)
    → taken_one s u (checked (number_held turn n)) ≡ taken_one s u (turned_by turn (checked n))
held_taken s u turn (Ok d) = sym (one_capped s u (turned_if turn d)) ∙ ap (taken_one s u) (sym (turned_ok turn d))
held_taken s u turn (Err e) = ap (taken_one s u) (held_err turn (ParseFloatErr e))

-- a number that is read as it is held
pub word_held : (verbose turn : Bool) (s : State) (n : Result Decimal DecimalError) (number word rest : List ℕ)
    → n ≡ number_held turn (decimal_of number) → worded_left verbose turn s n word rest ≡ pair_left verbose turn s number word rest
word_held verbose turn s n number word rest e = by (unit_in verbose word)
  where
    by : (o : Option TimeUnit) → ((o >>= λ u. taken_one s u (checked n)) >>= λ t. left verbose turn t rest)
        ≡ ((o >>= λ u. taken_one s u (turned_by turn (checked (decimal_of number)))) >>= λ t. left verbose turn t rest)
    by None = refl
    by (Some u) = ap (λ o. o >>= λ t. left verbose turn t rest) (ap (λ m. taken_one s u (checked m)) e
        ∙ held_taken s u turn (decimal_of number))

-- the first token of a text that doesn't begin with whitespace
pub first_filled : (text token rest : List ℕ) → text ≡ token ++ rest → 0 < length text → begins is_whitespace text ≡ false
    → begins (λ c. not (is_whitespace c)) rest ≡ false → 0 < length token
first_filled text (c ∷ cs) rest e filled solid end = omega arith
first_filled [] [] rest e filled solid end = absurd (omega arith)
first_filled (x ∷ xs) [] [] e filled solid end = cc
first_filled (x ∷ xs) [] (y ∷ ys) e filled solid end =
    let same : x ≡ y = cc in
    let a : is_whitespace y ≡ false = ap is_whitespace (sym same) ∙ solid in
    let b : is_whitespace y ≡ true = not_solid y end in
    cc

pub nothing_of : (xs : List ℕ) → length xs ≡ 0 → xs ≡ []
nothing_of [] h = refl
nothing_of (x ∷ xs) h = absurd (omega arith)

pub number_alone : (n w : List ℕ) → length w ≡ 0 → n ++ w ≡ n
number_alone n [] h = append-nil n
number_alone n (c ∷ cs) h = absurd (omega arith)

pub word_alone : (n w : List ℕ) → length n ≡ 0 → n ++ w ≡ w
word_alone [] w h = refl
word_alone (c ∷ cs) w h = absurd (omega arith)

pub after_taken : (r : Bool) (o : Option State) (s : State) (f : State → Option (Result Interval ParseError)) → r ≡ true
    → (if r then Some s else None) ≡ o → f s ≡ (o >>= f)
after_taken r o s f t e = ap (λ o. o >>= f) (ap (λ b. if b then Some s else None) (sym t) ∙ e)

pub len_zero : (xs : List ℕ) (b : Bool) → b ≡ (length xs == 0) → b ≡ true → length xs ≡ 0
len_zero [] b e t = refl
len_zero (x ∷ xs) b e t = let f : (length (x ∷ xs) == 0) ≡ false = grind arith in cc

pub len_some : (xs : List ℕ) (b : Bool) → b ≡ (length xs == 0) → b ≡ false → 0 < length xs
len_some [] b e t = cc
len_some (x ∷ xs) b e t = omega arith

pub cons_of : (xs : List ℕ) → 0 < length xs → xs ≡ get_or xs 0 0 ∷ drop 1 xs
cons_of [] h = absurd (omega arith)
cons_of (x ∷ xs) h = refl
