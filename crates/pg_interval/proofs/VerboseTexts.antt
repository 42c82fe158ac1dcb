-- The ends of a text of the style postgres_verbose, and how they are trimmed and taken off.
use Rattle.std.proofs.Common.{◌≡◌, ◌≢◌, ℕ, ◌-◌, Bool, true, false, ◌&&◌, List, [], ◌∷◌, ◌++◌, length, take, drop, map, ap, ◌∙◌, sym, refl, arith, Option, Some}
use mathlib.Core.List.{append_assoc, append-nil}
use Rattle.std.specs.Prelude.{if◌then◌else◌, codes, bytes_eq}
use Rattle.std.specs.Bool.{nat_eq}
use Rattle.std.specs.List.{list_all, ends_with, flat_map}
use Rattle.std.proofs.lemmas.List.{same_from_push, take-append-drop}
use Rattle.std.proofs.lemmas.List.Folds.{list_all-append}
use Rattle.std.proofs.lemmas.Slice.Eq.{bytes_eq-Decides}
use Rattle.std.proofs.Math.ListN.{length-append}
use Rattle.std.proofs.Math.Bool.{and-false}
use Rattle.std.proofs.Math.Seq.{drop-append_seam, take-append_seam}
use Rattle.pg_interval.specs.Texts.{◌>>=◌, is_whitespace, tokens}
use Rattle.pg_interval.specs.Pairs.{Pair, turned}
use Rattle.pg_interval.specs.PostgresText.{trimmed_start, trimmed_end, verbose_pairs_within, pairs_after_at, pairs_from_at, verbose_pairs, pairs_by_words, unit_of_verbose_word}
use Rattle.pg_interval.proofs.DigitTexts.{tokens_append}

-- the last byte is neither a space nor `o` nor `0`
pub record EndsWell (text : List ℕ) : Type 0 where
  pub front : List ℕ
  pub last : ℕ
  pub whole : text ≡ front ++ last ∷ []
  pub solid : is_whitespace last ≡ false
  pub not_o : last ≢ 111
  pub not_zero : last ≢ 48

pub ends_after : (xs ys : List ℕ) → EndsWell ys → EndsWell (xs ++ ys)
ends_after xs ys e = record {
  front = xs ++ e.front;
  last = e.last;
  whole = ap (λ t. xs ++ t) e.whole ∙ sym (append_assoc xs e.front (e.last ∷ []));
  solid = e.solid;
  not_o = e.not_o;
  not_zero = e.not_zero;
}

not_all : (xs : List ℕ) (c : ℕ) → is_whitespace c ≡ false → list_all is_whitespace (xs ++ c ∷ []) ≡ false
not_all xs c h = list_all-append is_whitespace xs (c ∷ []) ∙ (rw h (and-false (list_all is_whitespace xs)))

trimmed_push : (xs : List ℕ) (c : ℕ) → is_whitespace c ≡ false → trimmed_end (xs ++ c ∷ []) ≡ xs ++ c ∷ []
trimmed_push [] c h = rw h refl
trimmed_push (x ∷ xs) c h = ap (λ b. if b then [] else x ∷ trimmed_end (xs ++ c ∷ [])) (not_all (x ∷ xs) c h)
    ∙ ap (λ t. x ∷ t) (trimmed_push xs c h)

-- a space at the end is trimmed
trimmed_space : (xs : List ℕ) (c : ℕ) → is_whitespace c ≡ false → trimmed_end ((xs ++ c ∷ []) ++ 32 ∷ []) ≡ xs ++ c ∷ []
trimmed_space [] c h = rw h refl
trimmed_space (x ∷ xs) c h =
    let some : list_all is_whitespace (((x ∷ xs) ++ c ∷ []) ++ 32 ∷ []) ≡ false =
    list_all-append is_whitespace ((x ∷ xs) ++ c ∷ []) (32 ∷ [])
    ∙ ap (λ b. b && list_all is_whitespace (32 ∷ [])) (not_all (x ∷ xs) c h) in
    ap (λ b. if b then [] else x ∷ trimmed_end ((xs ++ c ∷ []) ++ 32 ∷ [])) some
    ∙ ap (λ t. x ∷ t) (trimmed_space xs c h)

pub trimmed_well : (text : List ℕ) → EndsWell text → trimmed_end text ≡ text
trimmed_well text e = ap trimmed_end e.whole ∙ trimmed_push e.front e.last e.solid ∙ sym e.whole

pub trimmed_well_space : (text : List ℕ) → EndsWell text → trimmed_end (text ++ 32 ∷ []) ≡ text
trimmed_well_space text e = ap (λ t. trimmed_end (t ++ 32 ∷ [])) e.whole ∙ trimmed_space e.front e.last e.solid ∙ sym e.whole

pub start_solid : (c : ℕ) (cs : List ℕ) → is_whitespace c ≡ false → trimmed_start (c ∷ cs) ≡ c ∷ cs
start_solid c cs h = rw h refl

pub start_spaced : (c : ℕ) (cs : List ℕ) → is_whitespace c ≡ false → trimmed_start (32 ∷ c ∷ cs) ≡ c ∷ cs
start_spaced c cs h = rw h refl

test_false : (b : Bool) → (b ≡ true → ⊥) → b ≡ false
test_false true h = absurd (h refl)
test_false false h = refl

-- ---- the word at the end

three_left : (ys : List ℕ) → length (ys ++ codes "ago") - 3 ≡ length ys
three_left ys = omega (arith, length-append ys (codes "ago"))

pub ends_ago : (ys : List ℕ) → ends_with nat_eq (ys ++ codes "ago") (codes "ago") ≡ true
ends_ago ys = ap (λ k. bytes_eq (codes "ago") (drop k (ys ++ codes "ago"))) (three_left ys)
    ∙ ap (bytes_eq (codes "ago")) (drop-append_seam ys (codes "ago"))

pub without_ago : (ys : List ℕ) → take (length (ys ++ codes "ago") - 3) (ys ++ codes "ago") ≡ ys
without_ago ys = ap (λ k. take k (ys ++ codes "ago")) (three_left ys) ∙ take-append_seam ys (codes "ago")

pub ends_otherwise : (text : List ℕ) → EndsWell text → ends_with nat_eq text (codes "ago") ≡ false
ends_otherwise text e = test_false (ends_with nat_eq text (codes "ago")) (λ t.
    let k = length text - 3 in
    let last : codes "ago" ≡ drop k text = (bytes_eq-Decides (codes "ago") (drop k text)).0 t in
    let same : e.front ++ e.last ∷ [] ≡ (take k text ++ codes "ag") ++ 111 ∷ [] =
    sym e.whole ∙ sym (take-append-drop k text) ∙ ap (λ t. take k text ++ t) (sym last)
    ∙ sym (append_assoc (take k text) (codes "ag") (111 ∷ [])) in
    e.not_o (same_from_push e.front (take k text ++ codes "ag") e.last 111 same).1)

pub not_zero_text : (text : List ℕ) → EndsWell text → bytes_eq text (codes "0") ≡ false
not_zero_text text e = test_false (bytes_eq text (codes "0"))
    (λ t. e.not_zero (same_from_push e.front [] e.last 48 (sym e.whole ∙ (bytes_eq-Decides text (codes "0")).0 t)).1)

-- ---- the text between `@` and `ago`

pub within_read : (text : List ℕ) → EndsWell text → verbose_pairs_within text ≡ pairs_by_words unit_of_verbose_word text
within_read text e = ap (λ b. if b then Some [] else pairs_by_words unit_of_verbose_word text) (not_zero_text text e)

pub plain_read : (text : List ℕ) → EndsWell text → pairs_after_at text ≡ pairs_by_words unit_of_verbose_word text
plain_read text e = ap (λ b. if b then (verbose_pairs_within (trimmed_end (take (length text - 3) text)) >>= λ ps. Some (map turned ps))
    else verbose_pairs_within text) (ends_otherwise text e) ∙ within_read text e

pub ago_read : (text : List ℕ) → EndsWell text → pairs_after_at (text ++ codes " ago")
    ≡ (pairs_by_words unit_of_verbose_word text >>= λ ps. Some (map turned ps))
ago_read text e =
    ap pairs_after_at (sym (append_assoc text (32 ∷ []) (codes "ago")))
    ∙ ap (λ b. if b then (verbose_pairs_within (trimmed_end
    (take (length ((text ++ 32 ∷ []) ++ codes "ago") - 3) ((text ++ 32 ∷ []) ++ codes "ago"))) >>= λ ps. Some (map turned ps))
    else verbose_pairs_within ((text ++ 32 ∷ []) ++ codes "ago")) (ends_ago (text ++ 32 ∷ []))
    ∙ ap (λ t. verbose_pairs_within (trimmed_end t) >>= λ ps. Some (map turned ps)) (without_ago (text ++ 32 ∷ []))
    ∙ ap (λ t. verbose_pairs_within t >>= λ ps. Some (map turned ps)) (trimmed_well_space text e)
    ∙ ap (λ o. o >>= λ ps. Some (map turned ps)) (within_read text e)

-- the text behind `@`, with the word at its end or without it
unfoldable pub after_at : Bool → List ℕ → Option (List Pair)
after_at true text = pairs_by_words unit_of_verbose_word text >>= λ ps. Some (map turned ps)
after_at false text = pairs_by_words unit_of_verbose_word text

ago_text : Bool → List ℕ
ago_text ago = if ago then codes " ago" else []

ends_ago_well : (ago : Bool) (text : List ℕ) → EndsWell text
    → (front : List ℕ) × (last : ℕ) × (text ++ (if ago then codes " ago" else []) ≡ front ++ last ∷ []) × (is_whitespace last ≡ false)
ends_ago_well true text e = (text ++ codes " ag", 111, sym (append_assoc text (codes " ag") (111 ∷ [])), refl)
ends_ago_well false text e = (e.front, e.last, append-nil text ∙ e.whole, e.solid)

whole_trimmed : (ago : Bool) (text : List ℕ) → EndsWell text
    → trimmed_end (64 ∷ 32 ∷ (text ++ (if ago then codes " ago" else []))) ≡ 64 ∷ 32 ∷ (text ++ (if ago then codes " ago" else []))
whole_trimmed ago text e = let w = ends_ago_well ago text e in
    ap (λ t. trimmed_end (64 ∷ 32 ∷ t)) w.2 ∙ trimmed_push (64 ∷ 32 ∷ w.0) w.1 w.3 ∙ ap (λ t. 64 ∷ 32 ∷ t) (sym w.2)

-- `@`, a space, a text that begins with no space and ends well, and maybe `ago`
pub verbose_read : (ago : Bool) (c : ℕ) (cs : List ℕ) → is_whitespace c ≡ false → EndsWell (c ∷ cs)
    → verbose_pairs (64 ∷ 32 ∷ ((c ∷ cs) ++ (if ago then codes " ago" else []))) ≡ after_at ago (c ∷ cs)
unfolding verbose_pairs after_at
verbose_read true c cs h e =
    ap pairs_from_at (whole_trimmed true (c ∷ cs) e)
    ∙ ap pairs_after_at (start_spaced c (cs ++ codes " ago") h)
    ∙ ago_read (c ∷ cs) e
verbose_read false c cs h e =
    ap pairs_from_at (whole_trimmed false (c ∷ cs) e)
    ∙ ap pairs_after_at (start_spaced c (cs ++ []) h ∙ append-nil (c ∷ cs))
    ∙ plain_read (c ∷ cs) e

-- ---- parts, each behind a space

pub spaced_tokens : {A : Type 0} (f : A → List ℕ) (xs : List ℕ) (ps : List A)
    → tokens (xs ++ flat_map (λ p. 32 ∷ f p) ps) ≡ tokens xs ++ flat_map (λ p. tokens (f p)) ps
spaced_tokens f xs [] = ap tokens (append-nil xs) ∙ sym (append-nil (tokens xs))
spaced_tokens f xs (p ∷ ps) =
    tokens_append xs (f p ++ flat_map (λ q. 32 ∷ f q) ps)
    ∙ ap (λ ts. tokens xs ++ ts) (spaced_tokens f (f p) ps)
