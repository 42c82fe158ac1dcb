-- The tokens of a text, one after another.
use Rattle.std.proofs.Common.{◌≡◌, ◌≢◌, ℕ, ◌+◌, ◌<◌, ◌||◌, Bool, true, false, not, List, [], ◌∷◌, ◌++◌, length, filter, map, get_or, nat_lt, ◌≤◌, take, drop, refl, sym, ap, subst, ◌∙◌, arith, append_assoc, append-nil}
use Rattle.std.specs.List.{AllByRecursion, slice_split, onto_first, position_or_len, before_first, after_first}
use Rattle.std.proofs.Math.ListN.{drop_of_length-le}
use Rattle.std.proofs.lemmas.List.{drop_more, take-append-drop}
use Rattle.std.proofs.lemmas.List.Sums.{fails_before_first}
use Rattle.std.proofs.lemmas.List.Splits.{slice_split-cons_yes, slice_split-cons_no, slice_split_none, slice_split_first}
use Rattle.std.proofs.lemmas.Bool.Decides.{nat_tests}
use Rattle.pg_results.specs.Describing.{is_empty_list}
use Rattle.pg_results.specs.Texts.{is_whitespace}
use Rattle.query_texts.specs.QueryTexts.{words}
use Rattle.shift_orders.specs.Tokens.{is_quote, quoted, tokens, tokens_in}
use Rattle.shift_orders.specs.Stops.{BeginsWord, HasNoWord, IsTrimmedInFront, ends_word, tokens_within, within}
use Rattle.shift_orders.specs.declared.tokens.Token.{Token}
use Rattle.shift_orders.specs.declared.tokens.Token.TheVariants.{Word, Quoted}

-- ---- bytes

-- whitespace is ASCII, and no quote
pub whitespace_below_128 : (b : ℕ) → is_whitespace b ≡ true → b < 128
whitespace_below_128 b e = grind (arith, nat_tests)

whitespace_no_quote : (b : ℕ) → is_whitespace b ≡ true → is_quote b ≡ false
whitespace_no_quote b e = grind (arith, nat_tests)

pub end_below_128 : (b : ℕ) → ends_word b ≡ true → b < 128
end_below_128 b e = grind (arith, nat_tests)

inside_no_space : (b : ℕ) → ends_word b ≡ false → is_whitespace b ≡ false
inside_no_space b e = by_test (is_whitespace b) refl
  where
    by_test : (t : Bool) → is_whitespace b ≡ t → t ≡ false
    by_test true h = sym (ap (λ w. w || is_quote b) h) ∙ e
    by_test false h = refl

inside_no_quote : (b : ℕ) → ends_word b ≡ false → is_quote b ≡ false
inside_no_quote b e = sym (ap (λ w. w || is_quote b) (inside_no_space b e)) ∙ e

-- ---- the first piece

-- there is a first piece
record Parted (p : ℕ → Bool) (xs : List ℕ) : Type 0 where
  first : List ℕ
  behind : List (List ℕ)
  parts : slice_split p xs ≡ first ∷ behind

parted_onto : (p : ℕ → Bool) (x : ℕ) (xs : List ℕ) (parts : List (List ℕ)) → slice_split p (x ∷ xs) ≡ onto_first x parts
    → Parted p (x ∷ xs)
parted_onto p x xs [] e = record { first = x ∷ []; behind = []; parts = e }
parted_onto p x xs (q ∷ qs) e = record { first = x ∷ q; behind = qs; parts = e }

parted : (p : ℕ → Bool) (xs : List ℕ) → Parted p xs
parted p [] = record { first = []; behind = []; parts = refl }
parted p (x ∷ xs) = by_test (p x) refl
  where
    by_test : (t : Bool) → p x ≡ t → Parted p (x ∷ xs)
    by_test true h = record { first = []; behind = slice_split p xs; parts = slice_split-cons_yes p x xs h }
    by_test false h = parted_onto p x xs (slice_split p xs) (slice_split-cons_no p x xs h)

-- bytes at which nothing is cut are put onto the first piece
split_front : (p : ℕ → Bool) (w rest q : List ℕ) (qs : List (List ℕ)) → AllByRecursion (λ b. p b ≡ false) w
    → slice_split p rest ≡ q ∷ qs → slice_split p (w ++ rest) ≡ (w ++ q) ∷ qs
split_front p [] rest q qs h e = e
split_front p (x ∷ xs) rest q qs h e =
    slice_split-cons_no p x (xs ++ rest) h.0 ∙ ap (onto_first x) (split_front p xs rest q qs h.1 e)

-- ---- whitespace in front

space_word : (b : ℕ) (out : List ℕ) → is_whitespace b ≡ true → words (b ∷ out) ≡ words out
space_word b out e = ap (filter (λ word. not (is_empty_list word))) (slice_split-cons_yes is_whitespace b out e)

space_onto : (b : ℕ) (parts : List (List ℕ)) → is_whitespace b ≡ true → tokens_in (onto_first b parts) ≡ tokens_in parts
space_onto b [] e = ap (map Word) (space_word b [] e)
space_onto b (out ∷ []) e = ap (map Word) (space_word b out e)
space_onto b (out ∷ inside ∷ behind) e =
    ap (λ ws. map Word ws ++ quoted inside behind (tokens_in behind)) (space_word b out e)

pub space_step : (bs : List ℕ) (i : ℕ) → i < length bs → is_whitespace (get_or bs i 0) ≡ true → tokens (drop (i + 1) bs) ≡ tokens (drop i bs)
space_step bs i h e =
    let b = get_or bs i 0 in let rest = drop (i + 1) bs in
    sym (ap tokens (drop_more bs i 0 h)
    ∙ ap tokens_in (slice_split-cons_no is_quote b rest (whitespace_no_quote b e))
    ∙ space_onto b (slice_split is_quote rest) e)

-- ---- a word in front

-- no byte ends a word
abbrev pub AreWordBytes : List ℕ → Type 0
AreWordBytes bytes = AllByRecursion (λ byte. ends_word byte ≡ false) bytes

-- what follows a word: nothing, or a byte that ends it
abbrev pub EndsWord : List ℕ → Type 0
EndsWord [] = Unit {0}
EndsWord (byte ∷ bytes) = ends_word byte ≡ true

no_spaces : (w : List ℕ) → AreWordBytes w → AllByRecursion (λ b. is_whitespace b ≡ false) w
no_spaces [] h = tt
no_spaces (x ∷ xs) h = (inside_no_space x h.0, no_spaces xs h.1)

no_quotes : (w : List ℕ) → AreWordBytes w → AllByRecursion (λ b. is_quote b ≡ false) w
no_quotes [] h = tt
no_quotes (x ∷ xs) h = (inside_no_quote x h.0, no_quotes xs h.1)

-- what stands outside of quotes behind a word: the words in it begin behind whitespace, if there are any
record Apart (rest : List ℕ) : Type 0 where
  outside : List ℕ
  behind : List (List ℕ)
  blank : List (List ℕ)
  pieces : slice_split is_quote rest ≡ outside ∷ behind
  spaced : slice_split is_whitespace outside ≡ [] ∷ blank

apart_space : (b : ℕ) (bs : List ℕ) → is_whitespace b ≡ true → Parted is_quote bs → Apart (b ∷ bs)
apart_space b bs e p = record {
  outside = b ∷ p.first;
  behind = p.behind;
  blank = slice_split is_whitespace p.first;
  pieces = slice_split-cons_no is_quote b bs (whitespace_no_quote b e) ∙ ap (onto_first b) p.parts;
  spaced = slice_split-cons_yes is_whitespace b p.first e;
}

apart : (rest : List ℕ) → EndsWord rest → Apart rest
apart [] h = record { outside = []; behind = []; blank = []; pieces = refl; spaced = refl }
apart (b ∷ bs) h = by_test (is_whitespace b) refl
  where
    by_test : (t : Bool) → is_whitespace b ≡ t → Apart (b ∷ bs)
    by_test true e = apart_space b bs e (parted is_quote bs)
    by_test false e =
        let is : is_quote b ≡ true = sym (ap (λ w. w || is_quote b) e) ∙ h in
        record {
          outside = [];
          behind = slice_split is_quote bs;
          blank = [];
          pieces = slice_split-cons_yes is_quote b bs is;
          spaced = refl;
        }

word_words : (x : ℕ) (xs out : List ℕ) (blank : List (List ℕ)) → AreWordBytes (x ∷ xs) → slice_split is_whitespace out ≡ [] ∷ blank
    → words ((x ∷ xs) ++ out) ≡ (x ∷ xs) ∷ words out
word_words x xs out blank h e =
    let nonblank = filter (λ word. not (is_empty_list word)) in
    ap nonblank (split_front is_whitespace (x ∷ xs) out [] blank (no_spaces (x ∷ xs) h) e)
    ∙ ap (λ w. w ∷ nonblank blank) (append-nil (x ∷ xs))
    ∙ ap (λ parts. (x ∷ xs) ∷ nonblank parts) (sym e)

word_in_front : (w out : List ℕ) (behind : List (List ℕ)) → words (w ++ out) ≡ w ∷ words out
    → tokens_in ((w ++ out) ∷ behind) ≡ Word w ∷ tokens_in (out ∷ behind)
word_in_front w out [] e = ap (map Word) e
word_in_front w out (inside ∷ behind) e = ap (λ ws. map Word ws ++ quoted inside behind (tokens_in behind)) e

word_apart : (x : ℕ) (xs rest : List ℕ) → AreWordBytes (x ∷ xs) → Apart rest → tokens ((x ∷ xs) ++ rest) ≡ Word (x ∷ xs) ∷ tokens rest
word_apart x xs rest h a =
    ap tokens_in (split_front is_quote (x ∷ xs) rest a.outside a.behind (no_quotes (x ∷ xs) h) a.pieces)
    ∙ word_in_front (x ∷ xs) a.outside a.behind (word_words x xs a.outside a.blank h a.spaced)
    ∙ ap (λ pieces. Word (x ∷ xs) ∷ tokens_in pieces) (sym a.pieces)

pub word_tokens : (w rest : List ℕ) → BeginsWord (w ++ rest) → AreWordBytes w → EndsWord rest → tokens (w ++ rest) ≡ Word w ∷ tokens rest
word_tokens [] [] begun h ends = absurd begun
word_tokens [] (b ∷ bs) begun h ends = cc
word_tokens (x ∷ xs) rest begun h ends = word_apart x xs rest h (apart rest ends)

ends_here : (text : List ℕ) (n : ℕ) → n < length text → ends_word (get_or text n 0) ≡ true → EndsWord (drop n text)
ends_here text n less e = subst EndsWord (sym (drop_more text n 0 less)) e

ends_at : (text : List ℕ) (n : ℕ) → n ≤ length text → (n < length text → ends_word (get_or text n 0) ≡ true) → EndsWord (drop n text)
ends_at text n within_it h = by_order (nat_lt n (length text)) refl
  where
    by_order : (t : Bool) → nat_lt n (length text) ≡ t → EndsWord (drop n text)
    by_order true e =
        let less : n < length text = grind (arith, nat_tests) in
        ends_here text n less (h less)
    by_order false e =
        let past : length text ≤ n = grind (arith, nat_tests) in
        subst EndsWord (sym (drop_of_length-le text past)) tt

-- the word up to a place at which it ends
pub word_up_to : (text : List ℕ) (n : ℕ) → BeginsWord text → n ≤ length text → AreWordBytes (take n text)
    → (n < length text → ends_word (get_or text n 0) ≡ true) → tokens text ≡ Word (take n text) ∷ tokens (drop n text)
word_up_to text n begun inside h e =
    sym (ap tokens (take-append-drop n text))
    ∙ word_tokens (take n text) (drop n text) (subst BeginsWord (sym (take-append-drop n text)) begun) h (ends_at text n inside e)

-- a text begins with a word, where neither whitespace nor a quote stands in front
pub begins_word : (text : List ℕ) → IsTrimmedInFront text → length text ≢ 0 → ((rest : List ℕ) → text ≢ 39 ∷ rest) → BeginsWord text
begins_word [] trimmed some apart_from = absurd (some refl)
begins_word (b ∷ bs) trimmed some apart_from = by_test (is_quote b) refl
  where
    by_test : (t : Bool) → is_quote b ≡ t → ends_word b ≡ false
    by_test true e =
        let is : b ≡ 39 = grind (arith, nat_tests) in
        absurd (apart_from bs (ap (λ x. x ∷ bs) is))
    by_test false e = ap (λ w. w || is_quote b) trimmed ∙ e

-- ---- a quoted text in front

-- a text in front of the first token's, where that is a quoted text
abbrev pub onto_quoted : List ℕ → List Token → List Token
onto_quoted front (Quoted text ∷ later) = Quoted (front ++ text) ∷ later
onto_quoted front later = later

opened_parts : (rest : List ℕ) → Parted is_quote rest → tokens (39 ∷ rest) ≡ tokens_within rest
opened_parts rest p =
    ap tokens_in (slice_split-cons_yes is_quote 39 rest refl ∙ ap (λ parts. [] ∷ parts) p.parts) ∙ sym (ap within p.parts)

-- behind a quote
pub opened : (rest : List ℕ) → tokens (39 ∷ rest) ≡ tokens_within rest
opened rest = opened_parts rest (parted is_quote rest)

-- the first token within quotes is a quoted text
record IsQuotedFirst (all : List Token) : Type 0 where
  content : List ℕ
  later : List Token
  is : all ≡ Quoted content ∷ later

quoted_first : (text : List ℕ) (behind : List (List ℕ)) (later : List Token) → IsQuotedFirst (quoted text behind later)
quoted_first text [] later = record { content = text; later = later; is = refl }
quoted_first text ([] ∷ []) later = record { content = text; later = later; is = refl }
quoted_first text ([] ∷ inside ∷ behind) [] = record { content = text; later = []; is = refl }
quoted_first text ([] ∷ inside ∷ behind) (Word w ∷ later) = record { content = text; later = Word w ∷ later; is = refl }
quoted_first text ([] ∷ inside ∷ behind) (Quoted next ∷ later) = record { content = text ++ 39 ∷ next; later = later; is = refl }
quoted_first text ((x ∷ xs) ∷ behind) later = record { content = text; later = later; is = refl }

-- so no word stands in front of a text that begins with a quote
pub no_word : (rest : List ℕ) → HasNoWord (tokens (39 ∷ rest))
no_word rest = subst HasNoWord (sym (opened rest)) (by_parts (parted is_quote rest))
  where
    by_first : (q : List ℕ) (qs : List (List ℕ)) → IsQuotedFirst (quoted q qs (tokens_in qs)) → HasNoWord (within (q ∷ qs))
    by_first q qs f = rw f.is tt

    by_parts : Parted is_quote rest → HasNoWord (tokens_within rest)
    by_parts p = rw p.parts (by_first p.first p.behind (quoted_first p.first p.behind (tokens_in p.behind)))

pub onto_nothing : (text : List ℕ) → onto_quoted [] (tokens_within text) ≡ tokens_within text
onto_nothing text = by_parts (parted is_quote text)
  where
    by_first : (q : List ℕ) (qs : List (List ℕ)) → IsQuotedFirst (quoted q qs (tokens_in qs)) → onto_quoted [] (within (q ∷ qs)) ≡ within (q ∷ qs)
    by_first q qs f = rw f.is refl

    by_parts : Parted is_quote text → onto_quoted [] (tokens_within text) ≡ tokens_within text
    by_parts p = rw p.parts (by_first p.first p.behind (quoted_first p.first p.behind (tokens_in p.behind)))

-- a quoted text that the next one follows at once
joined : (front inside next : List ℕ) (behind : List (List ℕ)) → IsQuotedFirst (quoted next behind (tokens_in behind))
    → onto_quoted front (quoted inside ([] ∷ next ∷ behind) (quoted next behind (tokens_in behind)))
    ≡ onto_quoted ((front ++ inside) ++ 39 ∷ []) (quoted next behind (tokens_in behind))
joined front inside next behind f =
    rw f.is (ap (λ text. Quoted text ∷ f.later) (simp append_assoc))

doubled_parts : (front inside rest : List ℕ) (parts : List (List ℕ)) → parts ≡ inside ∷ slice_split is_quote (39 ∷ rest)
    → Parted is_quote rest → onto_quoted front (within parts) ≡ onto_quoted ((front ++ inside) ++ 39 ∷ []) (tokens_within rest)
doubled_parts front inside rest parts e p =
    let pieces = slice_split-cons_yes is_quote 39 rest refl ∙ ap (λ q. [] ∷ q) p.parts in
    ap (λ q. onto_quoted front (within q)) (e ∙ ap (λ q. inside ∷ q) pieces)
    ∙ joined front inside p.first p.behind (quoted_first p.first p.behind (tokens_in p.behind))
    ∙ ap (λ q. onto_quoted ((front ++ inside) ++ 39 ∷ []) (within q)) (sym p.parts)

-- two quotes stand behind a text without quotes
pub doubled : (front text rest : List ℕ) → position_or_len is_quote text < length text → after_first is_quote text ≡ 39 ∷ rest
    → onto_quoted front (tokens_within text) ≡ onto_quoted ((front ++ before_first is_quote text) ++ 39 ∷ []) (tokens_within rest)
doubled front text rest less e =
    doubled_parts front (before_first is_quote text) rest (slice_split is_quote text)
    (slice_split_first is_quote text 0 less ∙ ap (λ t. before_first is_quote text ∷ slice_split is_quote t) e) (parted is_quote rest)

-- a quoted text is ended, where no quote follows at once
ended_parts : (front inside : List ℕ) (behind : List ℕ) → ((rest : List ℕ) → behind ≢ 39 ∷ rest) → Parted is_quote behind
    → onto_quoted front (within (inside ∷ slice_split is_quote behind)) ≡ Quoted (front ++ inside) ∷ tokens behind
ended_parts front inside [] apart_from p = refl
ended_parts front inside (b ∷ bs) apart_from p = by_test (is_quote b) refl
  where
    by_onto : (parts all : List (List ℕ)) → all ≡ onto_first b parts
        → onto_quoted front (within (inside ∷ all)) ≡ Quoted (front ++ inside) ∷ tokens_in all
    by_onto [] all e = rw e refl
    by_onto (q ∷ qs) all e = rw e refl

    by_test : (t : Bool) → is_quote b ≡ t
        → onto_quoted front (within (inside ∷ slice_split is_quote (b ∷ bs))) ≡ Quoted (front ++ inside) ∷ tokens (b ∷ bs)
    by_test true e =
        let is : b ≡ 39 = grind (arith, nat_tests) in
        absurd (apart_from bs (ap (λ x. x ∷ bs) is))
    by_test false e = by_onto (slice_split is_quote bs) (slice_split is_quote (b ∷ bs)) (slice_split-cons_no is_quote b bs e)

pub ended : (front text : List ℕ) → position_or_len is_quote text < length text
    → ((rest : List ℕ) → after_first is_quote text ≢ 39 ∷ rest)
    → onto_quoted front (tokens_within text) ≡ Quoted (front ++ before_first is_quote text) ∷ tokens (after_first is_quote text)
ended front text less apart_from =
    ap (λ parts. onto_quoted front (within parts)) (slice_split_first is_quote text 0 less)
    ∙ ended_parts front (before_first is_quote text) (after_first is_quote text) apart_from (parted is_quote (after_first is_quote text))

-- no quote ends the text
pub unended : (front text : List ℕ) → position_or_len is_quote text ≡ length text
    → onto_quoted front (tokens_within text) ≡ Quoted (front ++ text) ∷ []
unended front text e =
    ap (λ parts. onto_quoted front (within parts)) (slice_split_none is_quote text
    (λ k d h. fails_before_first is_quote text k d (subst (λ n. k < n) (sym e) h)))
