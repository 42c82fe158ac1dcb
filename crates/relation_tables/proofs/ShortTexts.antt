-- Texts that come from a short text are short: a trimmed query, its words, and the style of a session.
use Rattle.std.proofs.Common.{◌≡◌, ℕ, suc, ◌≤◌, ◌&&◌, Bool, true, false, cond, not, if◌then◌else◌, List, [], ◌∷◌, Option, Some, None, length, reverse, filter, codes, refl, sym, subst, arith}
use Rattle.std.specs.Cmp.Lexicographic.{slice_cmp}
use Rattle.std.specs.List.{AllByRecursion, slice_split, onto_first}
use Rattle.std.specs.Ordering.{nat_cmp, eq_by_cmp}
use Rattle.std.specs.FinMap as fin
use Rattle.std.specs.Option.{unwrap_or}
use Rattle.std.proofs.lemmas.List.{reverse-append, length-reverse}
use Rattle.pg_messages.specs.Replies.{HasNoZero}
use Rattle.pg_results.specs.declared.client.ClientInfo.{ClientInfo}
use Rattle.pg_results.specs.Clients.{HasShortMetadata}
use Rattle.pg_results.specs.Describing.{is_empty_list}
use Rattle.pg_results.specs.Texts.{IsShortText, is_padding, is_whitespace}
use Rattle.pg_replies.proofs.Encodable.{HasNoZero-append, by_test}
use Rattle.relation_tables.specs.Queries.{trimmed, without_front_padding, words, copied_name, is_word}
use Rattle.relation_tables.specs.RelationHandler.{style_text}

-- ---- trimmed

front_short : (t : List ℕ) → IsShortText t → IsShortText (without_front_padding t)
front_short [] h = h
front_short (x ∷ t) h = by_case (is_padding x) (front_short t (record { len = omega (arith, h.len); no_zero = h.no_zero.1 }))
  where
    by_case : (b : Bool) → IsShortText (without_front_padding t) → IsShortText (if b then without_front_padding t else (x ∷ t))
    by_case true rest = rest
    by_case false rest = h

reverse_no_zero : (t : List ℕ) → HasNoZero t → HasNoZero (reverse t)
reverse_no_zero [] h = tt
reverse_no_zero (x ∷ t) h =
    subst HasNoZero (sym (reverse-append (x ∷ []) t)) (HasNoZero-append (reverse t) (x ∷ []) (reverse_no_zero t h.1) (h.0, tt))

reverse_short : (t : List ℕ) → IsShortText t → IsShortText (reverse t)
reverse_short t h = record { len = omega (arith, length-reverse t, h.len); no_zero = reverse_no_zero t h.no_zero }

pub trimmed_short : (query : List ℕ) → IsShortText query → IsShortText (trimmed query)
trimmed_short query h =
    let front = without_front_padding query in
    reverse_short (without_front_padding (reverse front)) (front_short (reverse front) (reverse_short front (front_short query h)))

-- ---- words

-- words of at most so many bytes, of which none is zero
abbrev AreWithin : ℕ → List (List ℕ) → Type 0
AreWithin n ws = AllByRecursion (λ w. (length w ≤ n) × HasNoZero w) ws

more_room : (n : ℕ) (ws : List (List ℕ)) → AreWithin n ws → AreWithin (suc n) ws
more_room n [] h = tt
more_room n (w ∷ ws) h = ((omega (arith, h.0.0), h.0.1), more_room n ws h.1)

onto_within : (n x : ℕ) (ws : List (List ℕ)) → HasNoZero (x ∷ []) → AreWithin n ws → AreWithin (suc n) (onto_first x ws)
onto_within n x [] p h = ((omega arith, p), tt)
onto_within n x (w ∷ ws) p h = ((omega (arith, h.0.0), (p.0, h.0.1)), more_room n ws h.1)

split_within : (t : List ℕ) → HasNoZero t → AreWithin (length t) (slice_split is_whitespace t)
split_within [] h = ((omega arith, tt), tt)
split_within (x ∷ t) h = by_case (is_whitespace x) (split_within t h.1)
  where
    by_case : (b : Bool) → AreWithin (length t) (slice_split is_whitespace t)
        → AreWithin (suc (length t)) (cond b ([] ∷ slice_split is_whitespace t) (onto_first x (slice_split is_whitespace t)))
    by_case true rest = ((omega arith, tt), more_room (length t) (slice_split is_whitespace t) rest)
    by_case false rest = onto_within (length t) x (slice_split is_whitespace t) (h.0, tt) rest

filter_within : (n : ℕ) (test : List ℕ → Bool) (ws : List (List ℕ)) → AreWithin n ws → AreWithin n (filter test ws)
filter_within n test [] h = tt
filter_within n test (w ∷ ws) h = by_case (test w) (filter_within n test ws h.1)
  where
    by_case : (b : Bool) → AreWithin n (filter test ws) → AreWithin n (cond b (w ∷ filter test ws) (filter test ws))
    by_case true rest = (h.0, rest)
    by_case false rest = rest

name_short : (n : ℕ) (ws : List (List ℕ)) (name : List ℕ) → n ≤ 1048576 → AreWithin n ws → copied_name ws ≡ Some name → IsShortText name
name_short n [] name few h e = cc
name_short n (a ∷ []) name few h e = cc
name_short n (a ∷ b ∷ []) name few h e = cc
name_short n (a ∷ b ∷ c ∷ []) name few h e = cc
name_short n (a ∷ b ∷ c ∷ d ∷ []) name few h e =
    by_case (is_word a (codes "COPY") && is_word c (codes "TO") && is_word d (codes "STDOUT")) e
  where
    by_case : (t : Bool) → ◌≡◌ {A = Option (List ℕ)} (if t then Some b else None) (Some name) → IsShortText name
    by_case true k = let same : b ≡ name = cc in subst IsShortText same (record { len = omega (arith, h.1.0.0, few); no_zero = h.1.0.1 })
    by_case false k = cc
name_short n (a ∷ b ∷ c ∷ d ∷ f ∷ ws) name few h e = cc

pub copied_short : (text name : List ℕ) → IsShortText text → copied_name (words text) ≡ Some name → IsShortText name
copied_short text name h e =
    name_short (length text) (words text) name h.len
    (filter_within (length text) (λ word. not (is_empty_list word)) (slice_split is_whitespace text) (split_within text h.no_zero)) e

-- ---- the style of a session

found_short : (name : List ℕ) (es : List (List ℕ × List ℕ)) → AllByRecursion (λ e. IsShortText e.0 × IsShortText e.1) es
    → IsShortText (unwrap_or (fin.find (slice_cmp nat_cmp) name es) (codes "postgres"))
found_short name [] h = record { len = omega arith; no_zero = by_test (codes "postgres") refl }
found_short name (e ∷ es) h = by_case (eq_by_cmp (slice_cmp nat_cmp) name e.0) (found_short name es h.1)
  where
    by_case : (b : Bool) → IsShortText (unwrap_or (fin.find (slice_cmp nat_cmp) name es) (codes "postgres"))
        → IsShortText (unwrap_or (cond b (Some e.1) (fin.find (slice_cmp nat_cmp) name es)) (codes "postgres"))
    by_case true rest = h.0.1
    by_case false rest = rest

pub style_short : (client : ClientInfo) → HasShortMetadata client → IsShortText (style_text client)
style_short client h =
    rw (fin.get-entries client.metadata (codes "intervalstyle")) (found_short (codes "intervalstyle") (fin.entries client.metadata) h)
