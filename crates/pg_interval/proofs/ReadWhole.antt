-- What the readers of words answer at the end of a text.
use Rattle.std.proofs.Common.{◌≡◌, ℕ, ◌-◌, ◌<◌, ◌≤◌, Bool, true, false, not, ◌&&◌, ◌||◌, List, [], ◌∷◌, length, take, map, ap, ◌∙◌, sym, refl, arith, Option, None, Some, Result, Ok, Err}
use Rattle.std.specs.Prelude.{if◌then◌else◌, ◌==◌, nat_lt, codes, bytes_eq}
use Rattle.std.specs.Bool.{nat_eq}
use Rattle.std.specs.List.{list_any, ends_with}
use Rattle.pg_interval.specs.Texts.{◌>>=◌, begins, tokens}
use Rattle.pg_interval.specs.Decimals.{TimeUnit, Year, Month, Day, Hour, Minute, Second}
use Rattle.pg_interval.specs.Pairs.{Pair, turned, total_of, nothing, judged}
use Rattle.pg_interval.specs.PostgresText.{same_unit, each_unit_once, pairs_of_tokens, pairs_by_words, postgres_pairs, verbose_pairs, verbose_pairs_within, pairs_after_at, pairs_from_at, trimmed, trimmed_start, trimmed_end, token_of, unit_of_word, unit_of_verbose_word}
use Rattle.pg_interval.specs.Reading.{Style, Postgres, PostgresVerbose, reading, of_shape, pairs_of}
use Rattle.pg_interval.specs.Reader.{joined, tallied}
use Rattle.pg_interval.specs.WordReader.{State, answered, has, left, none_seen, out_of_range, start, taken, turned_by, with_unit, within_left}
use Rattle.pg_interval.specs.declared.pg_interval.Interval.{Interval}
use Rattle.pg_interval.specs.declared.interval_parse.parts.Seen.{Seen}
use Rattle.interval_errors.specs.declared.Reason.TheVariants.{TooLong, Shape}
use Rattle.interval_errors.specs.declared.ParseError.{ParseError}
use Rattle.interval_errors.specs.declared.ParseError.TheVariants.{InvalidInterval}
use Rattle.pg_interval.proofs.DigitTexts.{not_longer}
use Rattle.pg_interval.proofs.ReadSums.{total_more, joined_joined, start_joined, no_more as no_more_sum}

-- ---- no unit twice

once_after : Seen → List Pair → Bool
once_after s [] = true
once_after s (p ∷ ps) = not (has s p.unit) && once_after (with_unit s p.unit) ps

seen_after : Seen → List Pair → Seen
seen_after s [] = s
seen_after s (p ∷ ps) = seen_after (with_unit s p.unit) ps

fresh : Seen → List Pair → Bool
fresh s [] = true
fresh s (p ∷ ps) = not (has s p.unit) && fresh s ps

has_with : (s : Seen) (u v : TimeUnit) → has (with_unit s u) v ≡ (same_unit u v || has s v)
has_with s Year Year = refl
has_with s Year Month = refl
has_with s Year Day = refl
has_with s Year Hour = refl
has_with s Year Minute = refl
has_with s Year Second = refl
has_with s Month Year = refl
has_with s Month Month = refl
has_with s Month Day = refl
has_with s Month Hour = refl
has_with s Month Minute = refl
has_with s Month Second = refl
has_with s Day Year = refl
has_with s Day Month = refl
has_with s Day Day = refl
has_with s Day Hour = refl
has_with s Day Minute = refl
has_with s Day Second = refl
has_with s Hour Year = refl
has_with s Hour Month = refl
has_with s Hour Day = refl
has_with s Hour Hour = refl
has_with s Hour Minute = refl
has_with s Hour Second = refl
has_with s Minute Year = refl
has_with s Minute Month = refl
has_with s Minute Day = refl
has_with s Minute Hour = refl
has_with s Minute Minute = refl
has_with s Minute Second = refl
has_with s Second Year = refl
has_with s Second Month = refl
has_with s Second Day = refl
has_with s Second Hour = refl
has_with s Second Minute = refl
has_with s Second Second = refl

fresh_by : (a b f l : Bool) → (not (a || b) && (f && not l)) ≡ (not b && f) && not (a || l)
fresh_by true b f l = both (not b && f)
  where
    both : (x : Bool) → false ≡ (x && false)
    both true = refl
    both false = refl
fresh_by false true f l = refl
fresh_by false false f l = refl

fresh_with : (s : Seen) (u : TimeUnit) (ps : List Pair)
    → fresh (with_unit s u) ps ≡ (fresh s ps && not (list_any (λ q. same_unit u q.unit) ps))
unfolding fresh
fresh_with s u [] = refl
fresh_with s u (p ∷ ps) = (rw (has_with s u p.unit, fresh_with s u ps) refl)
    ∙ fresh_by (same_unit u p.unit) (has s p.unit) (fresh s ps) (list_any (λ q. same_unit u q.unit) ps)

once_by : (a f l o : Bool) → (a && ((f && not l) && o)) ≡ ((a && f) && (not l && o))
once_by true true l o = refl
once_by true false l o = refl
once_by false f l o = refl

once_fresh : (s : Seen) (ps : List Pair) → once_after s ps ≡ (fresh s ps && each_unit_once ps)
unfolding once_after fresh
once_fresh s [] = refl
once_fresh s (p ∷ ps) = (rw (once_fresh (with_unit s p.unit) ps, fresh_with s p.unit ps) refl)
    ∙ once_by (not (has s p.unit)) (fresh s ps) (list_any (λ q. same_unit p.unit q.unit) ps) (each_unit_once ps)

none_has : (u : TimeUnit) → has none_seen u ≡ false
none_has Year = refl
none_has Month = refl
none_has Day = refl
none_has Hour = refl
none_has Minute = refl
none_has Second = refl

all_fresh : (ps : List Pair) → fresh none_seen ps ≡ true
unfolding fresh
all_fresh [] = refl
all_fresh (p ∷ ps) = rw (none_has p.unit) (all_fresh ps)

once_start : (ps : List Pair) → once_after none_seen ps ≡ each_unit_once ps
once_start ps = once_fresh none_seen ps ∙ ap (λ b. b && each_unit_once ps) (all_fresh ps)

-- ---- the sums

turned_pair : Bool → Pair → Pair
turned_pair turn p = record p { number = turned_by turn p.number }

State-after : Bool → State → List Pair → State
State-after turn s ps = record { seen = seen_after s.seen ps; sum = joined s.sum (total_of out_of_range (map (turned_pair turn) ps)) }

no_more : (r : Result Interval ParseError) → joined r (Ok nothing) ≡ r
no_more (Ok i) = ap Ok (no_more_sum i)
no_more (Err e) = refl

taken_by : (turn : Bool) (s : State) (p : Pair) (ps : List Pair) (b : Bool) → has s.seen p.unit ≡ b
    → ((t : State) → taken turn t ps ≡ (if once_after t.seen ps then Some (State-after turn t ps) else None))
    → ((if b then None else Some (let t : State = record {
      seen = with_unit s.seen p.unit;
      sum = tallied out_of_range p.unit (turned_by turn p.number) s.sum;
    } in t)) >>= λ t. taken turn t ps)
    ≡ (if not b && once_after (with_unit s.seen p.unit) ps then Some (State-after turn s (p ∷ ps)) else None)
unfolding State-after turned_pair seen_after
taken_by turn s p ps true e h = refl
taken_by turn s p ps false e h =
    let n = turned_by turn p.number in
    h (record { seen = with_unit s.seen p.unit; sum = tallied out_of_range p.unit n s.sum })
    ∙ ap (λ r. if once_after (with_unit s.seen p.unit)
    ps then Some (let t : State = record { seen = seen_after (with_unit s.seen p.unit) ps; sum = r } in t) else None)
    (joined_joined s.sum (total_of out_of_range (turned_pair turn p ∷ [])) (total_of out_of_range (map (turned_pair turn) ps))
    ∙ ap (joined s.sum) (sym (total_more out_of_range (turned_pair turn p ∷ []) (map (turned_pair turn) ps))))

taken_is : (turn : Bool) (s : State) (ps : List Pair)
    → taken turn s ps ≡ (if once_after s.seen ps then Some (State-after turn s ps) else None)
unfolding State-after once_after seen_after
taken_is turn s [] = ap Some (ap (λ r. let t : State = record { seen = s.seen; sum = r } in t) (sym (no_more s.sum)))
taken_is turn s (p ∷ ps) = taken_by turn s p ps (has s.seen p.unit) refl (λ t. taken_is turn t ps)

total_by : (turn : Bool) (ps : List Pair) (b : Bool) → each_unit_once ps ≡ b
    → (taken turn start ps >>= λ t. Some t.sum) ≡ (if b then Some (total_of out_of_range (map (turned_pair turn) ps)) else None)
unfolding State-after
total_by turn ps true e = ap (λ o. o >>= λ t. Some t.sum) (taken_is turn start ps
    ∙ ap (λ b. if b then Some (State-after turn start ps) else None) (once_start ps ∙ e))
    ∙ ap Some (start_joined (total_of out_of_range (map (turned_pair turn) ps)))
total_by turn ps false e = ap (λ o. o >>= λ t. Some t.sum) (taken_is turn start ps
    ∙ ap (λ b. if b then Some (State-after turn start ps) else None) (once_start ps ∙ e))

unturned : (ps : List Pair) → map (turned_pair false) ps ≡ ps
unfolding turned_pair
unturned [] = refl
unturned (p ∷ ps) = ap (λ qs. p ∷ qs) (unturned ps)

all_turned : (ps : List Pair) → map (turned_pair true) ps ≡ map turned ps
unfolding turned_pair
all_turned ps = refl

-- the styles whose numbers fail as decimals
record IsDecimal (style : Style) : Type 0 where
  range : (ps : List Pair) → of_shape style (Some ps) ≡ judged (total_of out_of_range ps)

of_postgres : IsDecimal Postgres
of_postgres = record { range = λ ps. refl }

of_verbose : IsDecimal PostgresVerbose
of_verbose = record { range = λ ps. refl }

plain_by : (style : Style) → IsDecimal style → (ps : List Pair) (b : Bool) → each_unit_once ps ≡ b
    → of_shape style (if b then Some ps else None) ≡ answered (taken false start ps >>= λ t. Some t.sum)
plain_by style d ps true e = d.range ps ∙ ap (λ qs. judged (total_of out_of_range qs)) (sym (unturned ps))
    ∙ sym (ap answered (total_by false ps true e))
plain_by style d ps false e = sym (ap answered (total_by false ps false e))

plain_answer : (style : Style) → IsDecimal style → (o : Option (List Pair))
    → of_shape style (o >>= λ ps. if each_unit_once ps then Some ps else None)
    ≡ answered (o >>= λ ps. taken false start ps >>= λ t. Some t.sum)
plain_answer style d None = refl
plain_answer style d (Some ps) = plain_by style d ps (each_unit_once ps) refl

turned_answer_by : (ps : List Pair) (b : Bool) → each_unit_once ps ≡ b
    → of_shape PostgresVerbose ((if b then Some ps else None) >>= λ qs. Some (map turned qs))
    ≡ answered (taken true start ps >>= λ t. Some t.sum)
turned_answer_by ps true e = ap (λ qs. judged (total_of out_of_range qs)) (sym (all_turned ps))
    ∙ sym (ap answered (total_by true ps true e))
turned_answer_by ps false e = sym (ap answered (total_by true ps false e))

turned_answer : (o : Option (List Pair)) → of_shape PostgresVerbose ((o >>= λ ps. if each_unit_once ps then Some ps else None)
    >>= λ qs. Some (map turned qs)) ≡ answered (o >>= λ ps. taken true start ps >>= λ t. Some t.sum)
turned_answer None = refl
turned_answer (Some ps) = turned_answer_by ps (each_unit_once ps) refl

-- ---- whole texts

pub long_text : (style : Style) (text : List ℕ) → 4096 < length text → Err (InvalidInterval TooLong) ≡ reading style text
unfolding reading
long_text style text h = let past : nat_lt 4096 (length text) ≡ true = grind arith in
    sym (ap (λ b. if b then Err (InvalidInterval TooLong) else of_shape style (pairs_of style text)) past)

pub short_text : (style : Style) (text : List ℕ) → length text ≤ 4096 → reading style text ≡ of_shape style (pairs_of style text)
unfolding reading
short_text style text h = ap (λ b. if b then Err (InvalidInterval TooLong)
    else of_shape style (pairs_of style text)) (not_longer 4096 (length text) h)

pub postgres_whole : (text : List ℕ) → length text ≤ 4096 → reading Postgres text ≡ answered (left false false start text)
unfolding left postgres_pairs
postgres_whole text h = short_text Postgres text h
    ∙ plain_answer Postgres of_postgres (pairs_of_tokens unit_of_word (map token_of (tokens text)))

within_by : (text : List ℕ) (b : Bool) → of_shape PostgresVerbose (if b then Some [] else pairs_by_words unit_of_verbose_word text)
    ≡ answered (if b then Some (Ok nothing) else left true false start text)
unfolding left
within_by text true = refl
within_by text false = plain_answer PostgresVerbose of_verbose (pairs_of_tokens unit_of_verbose_word (map token_of (tokens text)))

ago_by : (text : List ℕ) (b : Bool) → of_shape PostgresVerbose ((if b then Some [] else pairs_by_words unit_of_verbose_word text)
    >>= λ ps. Some (map turned ps)) ≡ answered (if b then Some (Ok nothing) else left true true start text)
unfolding left
ago_by text true = refl
ago_by text false = turned_answer (pairs_of_tokens unit_of_verbose_word (map token_of (tokens text)))

pub no_at : (text : List ℕ) → begins (λ c. c == 64) (trimmed text) ≡ false
    → of_shape PostgresVerbose (verbose_pairs text) ≡ Err (InvalidInterval Shape)
unfolding verbose_pairs
no_at text h = by (trimmed text) h
  where
    by : (t : List ℕ) → begins (λ c. c == 64) t ≡ false → of_shape PostgresVerbose (pairs_from_at t) ≡ Err (InvalidInterval Shape)
    by [] h = refl
    by (c ∷ cs) h = ap (λ b. of_shape PostgresVerbose (if b then pairs_after_at (trimmed_start cs) else None)) h

at_first : (text rest : List ℕ) → trimmed text ≡ 64 ∷ rest → verbose_pairs text ≡ pairs_after_at (trimmed_start rest)
unfolding verbose_pairs
at_first text rest e = ap pairs_from_at e

pub plain_verbose : (text rest : List ℕ) → trimmed text ≡ 64 ∷ rest → ends_with nat_eq (trimmed_start rest) (codes "ago") ≡ false
    → of_shape PostgresVerbose (verbose_pairs text) ≡ answered (within_left false (trimmed_start rest))
unfolding within_left
plain_verbose text rest e none =
    ap (of_shape PostgresVerbose) (at_first text rest e)
    ∙ ap (λ b. of_shape PostgresVerbose (if b then (verbose_pairs_within
    (trimmed_end (take (length (trimmed_start rest) - 3) (trimmed_start rest))) >>= λ ps. Some (map turned ps))
    else verbose_pairs_within (trimmed_start rest))) none
    ∙ within_by (trimmed_start rest) (bytes_eq (trimmed_start rest) (codes "0"))

pub ago_verbose : (text rest : List ℕ) → trimmed text ≡ 64 ∷ rest → ends_with nat_eq (trimmed_start rest) (codes "ago") ≡ true
    → of_shape PostgresVerbose (verbose_pairs text)
    ≡ answered (within_left true (trimmed_end (take (length (trimmed_start rest) - 3) (trimmed_start rest))))
unfolding within_left
ago_verbose text rest e some =
    let front = trimmed_end (take (length (trimmed_start rest) - 3) (trimmed_start rest)) in
    ap (of_shape PostgresVerbose) (at_first text rest e)
    ∙ ap (λ b. of_shape PostgresVerbose (if b then (verbose_pairs_within front >>= λ ps. Some (map turned ps))
    else verbose_pairs_within (trimmed_start rest))) some
    ∙ ago_by front (bytes_eq front (codes "0"))

pub zero_within : (turn : Bool) (text : List ℕ) → bytes_eq text (codes "0") ≡ true → within_left turn text ≡ Some (Ok nothing)
unfolding within_left
zero_within turn text e = ap (λ b. if b then Some (Ok nothing) else left true turn start text) e

pub words_within : (turn : Bool) (text : List ℕ) → bytes_eq text (codes "0") ≡ false → within_left turn text ≡ left true turn start text
unfolding within_left
words_within turn text e = ap (λ b. if b then Some (Ok nothing) else left true turn start text) e
