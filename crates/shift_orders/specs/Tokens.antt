-- The tokens of a text: words, which whitespace and quotes end, and quoted texts.
use Rattle.std.specs.Prelude.{ℕ, Bool, List, [], ◌∷◌, ◌++◌, ◌==◌, ◌%◌, map}
use Rattle.std.specs.List.{count_by, slice_split}
use Rattle.query_texts.specs.QueryTexts.{words}
use Rattle.shift_orders.specs.declared.tokens.Token.{Token}
use Rattle.shift_orders.specs.declared.tokens.Token.TheVariants.{Word, Quoted}

abbrev pub is_quote : ℕ → Bool
is_quote byte = byte == 39

-- each quoted text is ended: the quotes are even in number
abbrev pub is_ended : List ℕ → Bool
is_ended text = count_by is_quote text % 2 == 0

-- A quoted text before the pieces behind it, which have these tokens. Where the next one follows it at once, both are one text, with a
-- quote between them: so `''` stands for one quote.
abbrev pub quoted : List ℕ → List (List ℕ) → List Token → List Token
quoted text ([] ∷ inside ∷ behind) (Quoted next ∷ later) = Quoted (text ++ 39 ∷ next) ∷ later
quoted text behind later = Quoted text ∷ later

-- the tokens of pieces that stand outside of quotes and inside in turn, outside first
abbrev pub tokens_in : List (List ℕ) → List Token
tokens_in [] = []
tokens_in (outside ∷ []) = map Word (words outside)
tokens_in (outside ∷ inside ∷ behind) = map Word (words outside) ++ quoted inside behind (tokens_in behind)

-- the tokens of a text, which its quotes cut into pieces
abbrev pub tokens : List ℕ → List Token
tokens text = tokens_in (slice_split is_quote text)
