-- The words of a command line, and the words that ask a program to tell of itself.
use Rattle.std.specs.Prelude.{ℕ, List, [], ◌∷◌, Option, Some, None, codes, if◌then◌else◌}
use Rattle.std.specs.Str.{bytes_eq}

-- The text that the words ask for: the help where they are the one word `--help`, the version where they are the one word `--version`; None
-- for any other words.
abbrev pub told_text : List (List ℕ) → List ℕ → List ℕ → Option (List ℕ)
told_text (word ∷ []) help version =
    if bytes_eq word (codes "--help") then Some help
    else if bytes_eq word (codes "--version") then Some version
    else None
told_text _ help version = None
