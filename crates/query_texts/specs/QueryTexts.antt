-- Texts of queries: what is ignored around them, and their words.
use Rattle.std.specs.Prelude.{ℕ, Bool, List, [], ◌∷◌, if◌then◌else◌, reverse, not, filter}
use Rattle.std.specs.List.{slice_split}
use Rattle.std.specs.Str.{str_eq_ignore_ascii_case}
use Rattle.pg_results.specs.Describing.{is_empty_list}
use Rattle.pg_results.specs.Texts.{is_whitespace, is_padding}

-- the text after the whitespace and semicolons at its front
abbrev pub without_front_padding : List ℕ → List ℕ
without_front_padding [] = []
without_front_padding (byte ∷ bytes) = if is_padding byte then without_front_padding bytes else (byte ∷ bytes)

abbrev pub without_end_padding : List ℕ → List ℕ
without_end_padding bytes = reverse (without_front_padding (reverse bytes))

-- the query without whitespace and semicolons at both ends
abbrev pub trimmed : List ℕ → List ℕ
trimmed query = without_end_padding (without_front_padding query)

-- the words between whitespace
abbrev pub words : List ℕ → List (List ℕ)
words text = filter (λ word. not (is_empty_list word)) (slice_split is_whitespace text)

abbrev pub is_word : List ℕ → List ℕ → Bool
is_word text word = str_eq_ignore_ascii_case text word
