-- The words of a text keep what a text keeps where it is cut at an ASCII byte, and they are no longer than the text together.
use Rattle.std.proofs.Common.{◌≡◌, ℕ, ◌+◌, ◌<◌, ◌≤◌, Bool, true, false, cond, not, if◌then◌else◌, List, [], ◌∷◌, ◌++◌, length, filter, reverse, refl, sym, ap, subst, ◌∙◌, arith, append_assoc, append-nil}
use Rattle.std.specs.List.{AllByRecursion, slice_split, onto_first}
use Rattle.std.specs.Str.{str_to_ascii_lowercase}
use Rattle.std.proofs.lemmas.List.{reverse-append, reverse-reverse, length-reverse, length-map}
use Rattle.std.proofs.lemmas.Bool.Decides.{nat_tests}
use Rattle.std.proofs.lemmas.Slice.Eq.{bytes_eq-Decides}
use Rattle.std.specs.Char.{to_ascii_lowercase}
use Rattle.pg_results.specs.Describing.{is_empty_list}
use Rattle.pg_results.specs.Texts.{is_whitespace, is_padding}
use Rattle.query_texts.specs.QueryTexts.{without_front_padding, trimmed, words, is_word}

-- ---- what parts words is ASCII

whitespace_below_128 : (b : ℕ) → is_whitespace b ≡ true → b < 128
whitespace_below_128 b e = grind (arith, nat_tests)

padding_below_128 : (b : ℕ) → is_padding b ≡ true → b < 128
padding_below_128 b e = grind (arith, nat_tests)

-- ---- what each word keeps

-- bytes in front of the first part
abbrev prepend : List ℕ → List (List ℕ) → List (List ℕ)
prepend w [] = w ∷ []
prepend w (q ∷ qs) = (w ++ q) ∷ qs

prepend_one : (pre : List ℕ) (x : ℕ) (parts : List (List ℕ)) → prepend pre (onto_first x parts) ≡ prepend (pre ++ x ∷ []) parts
prepend_one pre x [] = refl
prepend_one pre x (q ∷ qs) = ap (λ l. l ∷ qs) (sym (append_assoc pre (x ∷ []) q))

module _ (P : List ℕ → Type 0) (cut : (a c : List ℕ) (b : ℕ) → b < 128 → P (a ++ b ∷ c) → P a × P c) where
  unprefixed : (parts : List (List ℕ)) → AllByRecursion P (prepend [] parts) → AllByRecursion P parts
  unprefixed [] h = tt
  unprefixed (q ∷ qs) h = h

  by_byte : (pre : List ℕ) (x : ℕ) (xs : List ℕ) (space : Bool) → is_whitespace x ≡ space → P (pre ++ x ∷ xs)
      → ((p : List ℕ) → P (p ++ xs) → AllByRecursion P (prepend p (slice_split is_whitespace xs)))
      → AllByRecursion P (prepend pre (cond space ([] ∷ slice_split is_whitespace xs) (onto_first x (slice_split is_whitespace xs))))
  by_byte pre x xs true e good ih =
      let halves = cut pre xs x (whitespace_below_128 x e) good in
      (subst P (sym (append-nil pre)) halves.0, unprefixed (slice_split is_whitespace xs) (ih [] halves.1))
  by_byte pre x xs false e good ih =
      subst (λ l. AllByRecursion P l) (sym (prepend_one pre x (slice_split is_whitespace xs)))
      (ih (pre ++ x ∷ []) (subst P (sym (append_assoc pre (x ∷ []) xs)) good))

  parts_keep : (xs pre : List ℕ) → P (pre ++ xs) → AllByRecursion P (prepend pre (slice_split is_whitespace xs))
  parts_keep [] pre good = (good, tt)
  parts_keep (x ∷ xs) pre good = by_byte pre x xs (is_whitespace x) refl good (λ p g. parts_keep xs p g)

  filter_keeps : (p : List ℕ → Bool) (parts : List (List ℕ)) → AllByRecursion P parts → AllByRecursion P (filter p parts)
  filter_keeps p [] h = tt
  filter_keeps p (w ∷ ws) h =
      elim (p w) as (λ b. AllByRecursion P (cond b (w ∷ filter p ws) (filter p ws))) [
        | true ↦ (h.0, filter_keeps p ws h.1)
        | false ↦ filter_keeps p ws h.1
      ]

  by_front : (b : ℕ) (bs : List ℕ) (padding : Bool) → is_padding b ≡ padding → P (b ∷ bs) → (P bs → P (without_front_padding bs))
      → P (if padding then without_front_padding bs else (b ∷ bs))
  by_front b bs true e good ih = ih (cut [] bs b (padding_below_128 b e) good).1
  by_front b bs false e good ih = good

  front_keeps : (bytes : List ℕ) → P bytes → P (without_front_padding bytes)
  front_keeps [] good = good
  front_keeps (b ∷ bs) good = by_front b bs (is_padding b) refl good (λ g. front_keeps bs g)

  by_end : (b : ℕ) (bs : List ℕ) (padding : Bool) → is_padding b ≡ padding → P (reverse (b ∷ bs))
      → (P (reverse bs) → P (reverse (without_front_padding bs)))
      → P (reverse (if padding then without_front_padding bs else (b ∷ bs)))
  by_end b bs true e good ih = ih (cut (reverse bs) [] b (padding_below_128 b e) (subst P (reverse-append (b ∷ []) bs) good)).0
  by_end b bs false e good ih = good

  end_keeps : (rev : List ℕ) → P (reverse rev) → P (reverse (without_front_padding rev))
  end_keeps [] good = good
  end_keeps (b ∷ bs) good = by_end b bs (is_padding b) refl good (λ g. end_keeps bs g)

  trimmed_keeps : (text : List ℕ) → P text → P (trimmed text)
  trimmed_keeps text good =
      let front = without_front_padding text in
      end_keeps (reverse front) (subst P (sym (reverse-reverse front)) (front_keeps text good))

  pub words_keep : (text : List ℕ) → P text → AllByRecursion P (words (trimmed text))
  words_keep text good =
      let inner = trimmed text in
      filter_keeps (λ word. not (is_empty_list word)) (slice_split is_whitespace inner)
      (unprefixed (slice_split is_whitespace inner) (parts_keep inner [] (trimmed_keeps text good)))

-- ---- how long the words are together

abbrev pub total : List (List ℕ) → ℕ
total [] = 0
total (w ∷ ws) = length w + total ws

onto_total : (x : ℕ) (parts : List (List ℕ)) → total (onto_first x parts) ≤ 1 + total parts
onto_total x [] = omega arith
onto_total x (q ∷ qs) = omega arith

parts_total : (xs : List ℕ) → total (slice_split is_whitespace xs) ≤ length xs
parts_total [] = omega arith
parts_total (x ∷ xs) =
    let rest = slice_split is_whitespace xs in
    let ih = parts_total xs in
    elim (is_whitespace x) as (λ b. total (cond b ([] ∷ rest) (onto_first x rest)) ≤ length (x ∷ xs)) [
      | true ↦ omega (arith, ih)
      | false ↦ omega (arith, ih, onto_total x rest)
    ]

filter_total : (p : List ℕ → Bool) (parts : List (List ℕ)) → total (filter p parts) ≤ total parts
filter_total p [] = omega arith
filter_total p (w ∷ ws) =
    let ih = filter_total p ws in
    elim (p w) as (λ b. total (cond b (w ∷ filter p ws) (filter p ws)) ≤ length w + total ws) [
      | true ↦ omega (arith, ih)
      | false ↦ omega (arith, ih)
    ]

front_len : (bytes : List ℕ) → length (without_front_padding bytes) ≤ length bytes
front_len [] = omega arith
front_len (b ∷ bs) =
    let ih = front_len bs in
    elim (is_padding b) as (λ p. length (if p then without_front_padding bs else (b ∷ bs)) ≤ length (b ∷ bs)) [
      | true ↦ omega (arith, ih)
      | false ↦ omega arith
    ]

trimmed_len : (text : List ℕ) → length (trimmed text) ≤ length text
trimmed_len text =
    let front = without_front_padding text in
    omega (
      arith,
      front_len text,
      front_len (reverse front),
      length-reverse front,
      length-reverse (without_front_padding (reverse front)),
    )

pub words_total : (text : List ℕ) → total (words (trimmed text)) ≤ length text
words_total text =
    let inner = trimmed text in
    omega (
      arith,
      filter_total (λ word. not (is_empty_list word)) (slice_split is_whitespace inner),
      parts_total inner,
      trimmed_len text,
    )

-- ---- key words

pub word_len : (text word : List ℕ) → is_word text word ≡ true → length text ≡ length word
word_len text word e =
    sym (length-map text to_ascii_lowercase)
    ∙ (ap length ((bytes_eq-Decides (str_to_ascii_lowercase text) (str_to_ascii_lowercase word)).0 e) ∙ length-map word to_ascii_lowercase)
