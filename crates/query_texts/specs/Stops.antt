-- Where words begin and end.
use Rattle.std.specs.Prelude.{ℕ, Bool, List, [], ◌∷◌, ◌≡◌}
use Rattle.pg_results.specs.Texts.{is_whitespace}

-- The text is at its end, or its first byte is whitespace exactly where `space` is true.
abbrev pub StopsAt : Bool → List ℕ → Type 0
StopsAt space [] = Unit {0}
StopsAt space (byte ∷ bytes) = is_whitespace byte ≡ space
