-- The lines of a relation file, their fields, and the blocks that empty lines part.
use Rattle.std.specs.Prelude.{ℕ, Bool, true, false, ◌==◌, not, List, [], ◌∷◌, map, filter}
use Rattle.std.specs.List.{slice_split}
use Rattle.std.specs.Str.Lines.{strip_carriage_return}

-- the lines of a text: what stands before, between and behind the bytes `\n`, each without the `\r` that it may end with
abbrev pub lines_of : List ℕ → List (List ℕ)
lines_of text = map strip_carriage_return (slice_split (λ byte. byte == 10) text)

-- the fields of a line, which tabs split
abbrev pub fields_of : List ℕ → List (List ℕ)
fields_of line = slice_split (λ byte. byte == 9) line

abbrev pub is_empty : {X : Type 0} → List X → Bool
is_empty [] = true
is_empty (x ∷ xs) = false

-- the blocks of lines: the longest runs of lines that aren't empty
abbrev pub blocks : List (List ℕ) → List (List (List ℕ))
blocks lines = filter (λ block. not (is_empty block)) (slice_split is_empty lines)
