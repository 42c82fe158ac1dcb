-- Where words and quoted texts begin and end.
use Rattle.std.specs.Prelude.{ℕ, Bool, List, [], ◌∷◌, ◌≡◌, ◌||◌, false}
use Rattle.std.specs.List.{slice_split}
use Rattle.pg_results.specs.Texts.{is_whitespace}
use Rattle.shift_orders.specs.Tokens.{is_quote, quoted, tokens_in}
use Rattle.shift_orders.specs.declared.tokens.Token.{Token}
use Rattle.shift_orders.specs.declared.tokens.Token.TheVariants.{Word, Quoted}

-- a byte that isn't whitespace stands in front, or nothing
abbrev pub IsTrimmedInFront : List ℕ → Type 0
IsTrimmedInFront [] = Unit {0}
IsTrimmedInFront (byte ∷ bytes) = is_whitespace byte ≡ false

-- whitespace or a quote, which ends a word
abbrev pub ends_word : ℕ → Bool
ends_word byte = is_whitespace byte || is_quote byte

-- a word stands in front
abbrev pub BeginsWord : List ℕ → Type 0
BeginsWord [] = ⊥
BeginsWord (byte ∷ bytes) = ends_word byte ≡ false

-- the tokens of pieces of which the first stands inside of quotes
abbrev pub within : List (List ℕ) → List Token
within [] = []
within (inside ∷ behind) = quoted inside behind (tokens_in behind)

-- the tokens of a text that begins inside of quotes
abbrev pub tokens_within : List ℕ → List Token
tokens_within text = within (slice_split is_quote text)

-- no word stands in front
abbrev pub HasNoWord : List Token → Type 0
HasNoWord [] = Unit {0}
HasNoWord (Word word ∷ behind) = ⊥
HasNoWord (Quoted text ∷ behind) = Unit {0}
