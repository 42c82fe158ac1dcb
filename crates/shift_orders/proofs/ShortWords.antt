-- The words of a short query are short.
use Rattle.std.proofs.Common.{◌≢◌, ℕ, suc, ◌≤◌, Bool, true, false, cond, not, if◌then◌else◌, List, [], ◌∷◌, ◌++◌, length, reverse, filter, map, sym, subst, arith}
use Rattle.std.specs.List.{AllByRecursion, slice_split, onto_first}
use Rattle.std.proofs.lemmas.List.{reverse-append, length-reverse}
use Rattle.pg_messages.specs.Replies.{HasNoZero}
use Rattle.pg_results.specs.Describing.{is_empty_list}
use Rattle.pg_results.specs.Texts.{IsShortText, is_padding, is_whitespace}
use Rattle.pg_replies.proofs.Encodable.{HasNoZero-append}
use Rattle.query_texts.specs.QueryTexts.{trimmed, without_front_padding, words}
use Rattle.shift_orders.specs.Tokens.{is_quote, quoted, tokens, tokens_in}
use Rattle.shift_orders.specs.declared.tokens.Token.{Token}
use Rattle.shift_orders.specs.declared.tokens.Token.TheVariants.{Word, Quoted}

-- a text of at most so many bytes, none of which is zero
pub record Fits (n : ℕ) (text : List ℕ) : Type 0 where
  pub few : length text ≤ n
  pub clean : HasNoZero text

abbrev pub AllFit : ℕ → List (List ℕ) → Type 0
AllFit n texts = AllByRecursion (Fits n) texts

-- ---- the text without padding

front_fits : (n : ℕ) (t : List ℕ) → Fits n t → Fits n (without_front_padding t)
front_fits n [] h = h
front_fits n (x ∷ t) h = by_case (is_padding x) (front_fits n t (record { few = omega (arith, h.few); clean = h.clean.1 }))
  where
    by_case : (b : Bool) → Fits n (without_front_padding t) → Fits n (if b then without_front_padding t else (x ∷ t))
    by_case true rest = rest
    by_case false rest = h

reverse_no_zero : (t : List ℕ) → HasNoZero t → HasNoZero (reverse t)
reverse_no_zero [] h = tt
reverse_no_zero (x ∷ t) h =
    subst HasNoZero (sym (reverse-append (x ∷ []) t)) (HasNoZero-append (reverse t) (x ∷ []) (reverse_no_zero t h.1) (h.0, tt))

reverse_fits : (n : ℕ) (t : List ℕ) → Fits n t → Fits n (reverse t)
reverse_fits n t h = record { few = omega (arith, length-reverse t, h.few); clean = reverse_no_zero t h.clean }

trimmed_fits : (n : ℕ) (query : List ℕ) → Fits n query → Fits n (trimmed query)
trimmed_fits n query h =
    let front = without_front_padding query in
    reverse_fits n (without_front_padding (reverse front)) (front_fits n (reverse front) (reverse_fits n front (front_fits n query h)))

-- ---- pieces

wider : (m n : ℕ) (texts : List (List ℕ)) → m ≤ n → AllFit m texts → AllFit n texts
wider m n [] le h = tt
wider m n (t ∷ texts) le h = (record { few = omega (arith, h.0.few, le); clean = h.0.clean }, wider m n texts le h.1)

onto_fit : (n x : ℕ) (texts : List (List ℕ)) → x ≢ 0 → AllFit n texts → AllFit (suc n) (onto_first x texts)
onto_fit n x [] p h = (record { few = omega arith; clean = (p, tt) }, tt)
onto_fit n x (t ∷ texts) p h =
    (record { few = omega (arith, h.0.few); clean = (p, h.0.clean) }, wider n (suc n) texts (omega arith) h.1)

pieces_fit : (p : ℕ → Bool) (t : List ℕ) → HasNoZero t → AllFit (length t) (slice_split p t)
pieces_fit p [] h = (record { few = omega arith; clean = tt }, tt)
pieces_fit p (x ∷ t) h = by_case (p x) (pieces_fit p t h.1)
  where
    by_case : (b : Bool) → AllFit (length t) (slice_split p t)
        → AllFit (suc (length t)) (cond b ([] ∷ slice_split p t) (onto_first x (slice_split p t)))
    by_case true rest = (record { few = omega arith; clean = tt }, wider (length t) (suc (length t)) (slice_split p t) (omega arith) rest)
    by_case false rest = onto_fit (length t) x (slice_split p t) h.0 rest

split_fits : (n : ℕ) (p : ℕ → Bool) (t : List ℕ) → Fits n t → AllFit n (slice_split p t)
split_fits n p t h = wider (length t) n (slice_split p t) h.few (pieces_fit p t h.clean)

filter_fits : (n : ℕ) (test : List ℕ → Bool) (texts : List (List ℕ)) → AllFit n texts → AllFit n (filter test texts)
filter_fits n test [] h = tt
filter_fits n test (t ∷ texts) h = by_case (test t) (filter_fits n test texts h.1)
  where
    by_case : (b : Bool) → AllFit n (filter test texts) → AllFit n (cond b (t ∷ filter test texts) (filter test texts))
    by_case true rest = (h.0, rest)
    by_case false rest = rest

words_fit : (n : ℕ) (t : List ℕ) → Fits n t → AllFit n (words t)
words_fit n t h = filter_fits n (λ word. not (is_empty_list word)) (slice_split is_whitespace t) (split_fits n is_whitespace t h)

-- ---- tokens

-- a token, if it is a word, has at most so many bytes, none of which is zero
abbrev pub WordFits : ℕ → Token → Type 0
WordFits n (Word word) = Fits n word
WordFits n (Quoted text) = Unit {0}

abbrev pub WordsFit : ℕ → List Token → Type 0
WordsFit n ts = AllByRecursion (WordFits n) ts

append_fits : (n : ℕ) (ws : List (List ℕ)) (later : List Token) → AllFit n ws → WordsFit n later → WordsFit n (map Word ws ++ later)
append_fits n [] later h rest = rest
append_fits n (w ∷ ws) later h rest = (h.0, append_fits n ws later h.1 rest)

map_fits : (n : ℕ) (ws : List (List ℕ)) → AllFit n ws → WordsFit n (map Word ws)
map_fits n [] h = tt
map_fits n (w ∷ ws) h = (h.0, map_fits n ws h.1)

quoted_fits : (n : ℕ) (text : List ℕ) (behind : List (List ℕ)) (later : List Token) → WordsFit n later → WordsFit n (quoted text behind later)
quoted_fits n text [] later h = (tt, h)
quoted_fits n text ([] ∷ []) later h = (tt, h)
quoted_fits n text ([] ∷ inside ∷ behind) [] h = (tt, h)
quoted_fits n text ([] ∷ inside ∷ behind) (Word w ∷ later) h = (tt, h)
quoted_fits n text ([] ∷ inside ∷ behind) (Quoted next ∷ later) h = (tt, h.1)
quoted_fits n text ((x ∷ xs) ∷ behind) later h = (tt, h)

tokens_in_fit : (n : ℕ) (pieces : List (List ℕ)) → AllFit n pieces → WordsFit n (tokens_in pieces)
tokens_in_fit n [] h = tt
tokens_in_fit n (outside ∷ []) h = map_fits n (words outside) (words_fit n outside h.0)
tokens_in_fit n (outside ∷ inside ∷ behind) h =
    append_fits n (words outside) (quoted inside behind (tokens_in behind)) (words_fit n outside h.0)
    (quoted_fits n inside behind (tokens_in behind) (tokens_in_fit n behind h.1.1))

-- the words of a short query, without its padding
pub words_short : (query : List ℕ) → IsShortText query → WordsFit 1048576 (tokens (trimmed query))
words_short query h =
    let fits : Fits 1048576 (trimmed query) = trimmed_fits 1048576 query (record { few = h.len; clean = h.no_zero }) in
    tokens_in_fit 1048576 (slice_split is_quote (trimmed query)) (split_fits 1048576 is_quote (trimmed query) fits)
