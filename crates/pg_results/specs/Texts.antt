-- Texts of queries and names. Whitespace is the bytes 09 to 0D and 20.
use Rattle.std.specs.Prelude.{ℕ, Bool, List, [], ◌∷◌, ◌++◌, ◌==◌, ◌&&◌, ◌||◌, ◌≤◌, ◌≢◌, nat_le, length}
use Rattle.std.specs.List.{list_all, AllByRecursion}

abbrev pub is_whitespace : ℕ → Bool
is_whitespace byte = (nat_le 9 byte && nat_le byte 13) || (byte == 32)

-- whitespace and semicolons, which are ignored around a query
abbrev pub is_padding : ℕ → Bool
is_padding byte = is_whitespace byte || (byte == 59)

-- a query of whitespace and semicolons alone
abbrev pub is_blank : List ℕ → Bool
is_blank query = list_all is_padding query

-- the text in double quotes
abbrev pub quoted : List ℕ → List ℕ
quoted name = 34 ∷ name ++ 34 ∷ []

-- a text that a message of a client may carry: it has at most 1,048,576 bytes, and none of them is zero
pub record IsShortText (text : List ℕ) : Type 0 where
  pub len : length text ≤ 1048576
  pub no_zero : AllByRecursion (λ byte. byte ≢ 0) text
