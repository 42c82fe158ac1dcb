-- Terms about texts, which the four interval grammars share. A text is the list of its bytes.
use Rattle.std.specs.Prelude.{ℕ, Bool, true, false, not, ◌&&◌, ◌||◌, ◌==◌, nat_le, if◌then◌else◌, List, [], ◌∷◌, filter, Option, option_and_then}
use Rattle.std.specs.List.{slice_split, list_all}

-- `do` over options: nothing as soon as one part is nothing
infixl 10 ◌>>=◌
abbrev pub ◌>>=◌ : {A B : Type 0} → Option A → (A → Option B) → Option B
o >>= f = option_and_then f o

-- the space, and the bytes 9 to 13
abbrev pub is_whitespace : ℕ → Bool
is_whitespace c = c == 32 || (nat_le 9 c && nat_le c 13)

abbrev pub is_digit : ℕ → Bool
is_digit c = nat_le 48 c && nat_le c 57

abbrev pub is_letter : ℕ → Bool
is_letter c = (nat_le 65 c && nat_le c 90) || (nat_le 97 c && nat_le c 122)

-- `+` or `-`
abbrev pub is_sign : ℕ → Bool
is_sign c = c == 43 || c == 45

abbrev pub is_point : ℕ → Bool
is_point c = c == 46

abbrev pub is_colon : ℕ → Bool
is_colon c = c == 58

abbrev pub is_minus : ℕ → Bool
is_minus c = c == 45

abbrev pub is_empty : List ℕ → Bool
is_empty [] = true
is_empty (c ∷ cs) = false

-- one or more digits
abbrev pub are_digits : List ℕ → Bool
are_digits text = not (is_empty text) && list_all is_digit text

-- whether the text begins with such a byte
abbrev pub begins : (ℕ → Bool) → List ℕ → Bool
begins p [] = false
begins p (c ∷ cs) = p c

-- the text without the sign that it may begin with
abbrev pub without_sign : List ℕ → List ℕ
without_sign [] = []
without_sign (c ∷ cs) = if is_sign c then cs else c ∷ cs

-- the longest runs without whitespace
abbrev pub tokens : List ℕ → List (List ℕ)
tokens text = filter (λ token. not (is_empty token)) (slice_split is_whitespace text)
