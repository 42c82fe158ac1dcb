-- The texts of the styles `postgres` and `postgres_verbose`: PostgreSQL's documentation, "Interval Input".
use Rattle.std.specs.Prelude.{ℕ, ◌-◌, Bool, true, false, not, ◌&&◌, ◌||◌, ◌==◌, if◌then◌else◌, List, [], ◌∷◌, ◌++◌, length, take, drop, map, codes, bytes_eq, Option, None, Some}
use Rattle.std.specs.List.{slice_split, list_all, list_any, take_while, ends_with}
use Rattle.std.specs.Bool.{nat_eq}
use Rattle.pg_interval.specs.Texts.{◌>>=◌, is_whitespace, is_digit, is_letter, is_sign, is_point, is_colon, is_minus, are_digits, begins, without_sign, tokens}
use Rattle.pg_interval.specs.Decimals.{Decimal, TimeUnit, Year, Month, Day, Hour, Minute, Second, number_of, is_zero_decimal}
use Rattle.pg_interval.specs.Pairs.{Pair, pair, decimal_pair, turned}

-- the unit that a word names, in lower case
abbrev pub unit_of_word : List ℕ → Option TimeUnit
unit_of_word w =
    if bytes_eq w (codes "year") || bytes_eq w (codes "years") then Some Year
    else (if bytes_eq w (codes "mon") || bytes_eq w (codes "mons") || bytes_eq w (codes "months") then Some Month
    else (if bytes_eq w (codes "day") || bytes_eq w (codes "days") then Some Day
    else (if bytes_eq w (codes "hour") || bytes_eq w (codes "hours") then Some Hour
    else (if bytes_eq w (codes "minute") || bytes_eq w (codes "minutes") then Some Minute
    else (if bytes_eq w (codes "second") || bytes_eq w (codes "seconds") then Some Second
    else None)))))

-- the verbose style has four words more
abbrev pub unit_of_verbose_word : List ℕ → Option TimeUnit
unit_of_verbose_word w =
    if bytes_eq w (codes "min") || bytes_eq w (codes "mins") then Some Minute
    else (if bytes_eq w (codes "sec") || bytes_eq w (codes "secs") then Some Second
    else unit_of_word w)

-- what a token is: a number, a word, a number and a word without a space between them, a time with the numbers in it,
-- or none of these
pub data Token : Type 0 where
  Number : List ℕ → Token
  Word : List ℕ → Token
  Joined : List ℕ → List ℕ → Token
  Time : List Pair → Token
  Other : Token

-- of the digits of a second after the point, those from the seventh on are dropped
abbrev pub seconds_of : Bool → List (List ℕ) → Option Decimal
seconds_of minus (s ∷ []) = if are_digits s then Some (number_of minus s []) else None
seconds_of minus (s ∷ f ∷ []) = if are_digits s && list_all is_digit f then Some (number_of minus s (take 6 f)) else None
seconds_of minus _ = None

abbrev pub unless_zero : TimeUnit → Decimal → List Pair
unless_zero u d = if is_zero_decimal d then [] else pair u d ∷ []

abbrev pub those_not_zero : Decimal → Decimal → Decimal → List Pair
those_not_zero hours minutes seconds = unless_zero Hour hours ++ unless_zero Minute minutes ++ unless_zero Second seconds

-- the numbers of a time that aren't zero, with its sign
abbrev pub time_pairs : Bool → List (List ℕ) → Option (List Pair)
time_pairs minus (h ∷ m ∷ s ∷ []) = if are_digits h
    && are_digits m then (seconds_of minus (slice_split is_point s)
    >>= λ seconds. Some (those_not_zero (number_of minus h []) (number_of minus m []) seconds)) else None
time_pairs minus _ = None

abbrev pub or_other : Option (List Pair) → Token
or_other (Some ps) = Time ps
or_other None = Other

-- an optional sign, and hours, minutes and seconds with `:` between them
abbrev pub time_of : List ℕ → Token
time_of text = or_other (time_pairs (begins is_minus text) (slice_split is_colon (without_sign text)))

-- the bytes of a number
abbrev pub is_number_byte : ℕ → Bool
is_number_byte c = is_digit c || is_sign c || is_point c

abbrev pub token_of_parts : List ℕ → List ℕ → Token
token_of_parts number [] = Number number
token_of_parts [] (c ∷ cs) = Word (c ∷ cs)
token_of_parts (d ∷ ds) (c ∷ cs) = Joined (d ∷ ds) (c ∷ cs)

-- number bytes first, and then letters
abbrev pub token_split : List ℕ → List ℕ → Token
token_split number rest = if list_all is_letter rest then token_of_parts number rest else Other

abbrev pub token_of : List ℕ → Token
token_of text = if list_any is_colon text then time_of text
    else token_split (take_while is_number_byte text) (drop (length (take_while is_number_byte text)) text)

-- A number that stands alone is followed at once by a word, and a word that stands alone follows one.
abbrev pub pairs_of_tokens : (List ℕ → Option TimeUnit) → List Token → Option (List Pair)
pairs_of_tokens unit [] = Some []
pairs_of_tokens unit (Number n ∷ Word w ∷ rest) = unit w >>= λ u. pairs_of_tokens unit rest >>= λ ps. Some (decimal_pair u n ∷ ps)
pairs_of_tokens unit (Joined n w ∷ rest) = unit w >>= λ u. pairs_of_tokens unit rest >>= λ ps. Some (decimal_pair u n ∷ ps)
pairs_of_tokens unit (Time ps ∷ rest) = pairs_of_tokens unit rest >>= λ qs. Some (ps ++ qs)
pairs_of_tokens unit _ = None

abbrev pub same_unit : TimeUnit → TimeUnit → Bool
same_unit Year Year = true
same_unit Month Month = true
same_unit Day Day = true
same_unit Hour Hour = true
same_unit Minute Minute = true
same_unit Second Second = true
same_unit _ _ = false

-- no unit has two pairs
abbrev pub each_unit_once : List Pair → Bool
each_unit_once [] = true
each_unit_once (p ∷ ps) = not (list_any (λ q. same_unit p.unit q.unit) ps) && each_unit_once ps

abbrev pub pairs_by_words : (List ℕ → Option TimeUnit) → List ℕ → Option (List Pair)
pairs_by_words unit text = pairs_of_tokens unit (map token_of (tokens text)) >>= λ ps. if each_unit_once ps then Some ps else None

-- the pairs of a text of the style `postgres`, unless its shape is broken
unfoldable pub postgres_pairs : List ℕ → Option (List Pair)
postgres_pairs text = pairs_by_words unit_of_word text

abbrev pub trimmed_start : List ℕ → List ℕ
trimmed_start text = drop (length (take_while is_whitespace text)) text

-- the text without the whitespace at its end
abbrev pub trimmed_end : List ℕ → List ℕ
trimmed_end [] = []
trimmed_end (c ∷ cs) = if list_all is_whitespace (c ∷ cs) then [] else c ∷ trimmed_end cs

abbrev pub trimmed : List ℕ → List ℕ
trimmed text = trimmed_end (trimmed_start text)

-- what is left between `@` and `ago`: `0` is zero
abbrev pub verbose_pairs_within : List ℕ → Option (List Pair)
verbose_pairs_within text = if bytes_eq text (codes "0") then Some [] else pairs_by_words unit_of_verbose_word text

-- What follows `@`. Where it ends with `ago`, each number has the other sign.
abbrev pub pairs_after_at : List ℕ → Option (List Pair)
pairs_after_at text = if ends_with nat_eq text (codes "ago") then (verbose_pairs_within (trimmed_end (take (length text - 3) text))
    >>= λ ps. Some (map turned ps)) else verbose_pairs_within text

abbrev pub pairs_from_at : List ℕ → Option (List Pair)
pairs_from_at [] = None
pairs_from_at (c ∷ cs) = if c == 64 then pairs_after_at (trimmed_start cs) else None

-- the pairs of a text of the style `postgres_verbose`, unless its shape is broken
unfoldable pub verbose_pairs : List ℕ → Option (List Pair)
verbose_pairs text = pairs_from_at (trimmed text)
