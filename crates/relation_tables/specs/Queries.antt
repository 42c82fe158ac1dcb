-- The words of a COPY. What is ignored around a query, and the words of a text, are re-exported from query_texts.
use Rattle.std.specs.Prelude.{ℕ, List, [], ◌∷◌, ◌&&◌, Option, Some, None, if◌then◌else◌, codes}
pub use Rattle.query_texts.specs.QueryTexts.{without_front_padding, without_end_padding, trimmed, words, is_word}

-- the name in `COPY name TO STDOUT`, whose other words are in any ASCII case
abbrev pub copied_name : List (List ℕ) → Option (List ℕ)
copied_name (copy ∷ name ∷ to ∷ out ∷ []) =
    if is_word copy (codes "COPY") && is_word to (codes "TO") && is_word out (codes "STDOUT") then Some name else None
copied_name _ = None
