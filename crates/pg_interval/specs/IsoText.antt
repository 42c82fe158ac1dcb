-- The texts of the style `iso_8601`: ISO 8601, durations in the format with designators, as PostgreSQL reads them.
use Rattle.std.specs.Prelude.{ℕ, Bool, true, ◌&&◌, ◌||◌, ◌==◌, if◌then◌else◌, List, [], ◌∷◌, ◌++◌, Option, None, Some}
use Rattle.std.specs.List.{slice_split, list_all}
use Rattle.pg_interval.specs.Texts.{◌>>=◌, is_digit, is_point, is_minus}
use Rattle.pg_interval.specs.Decimals.{TimeUnit, Year, Month, Day, Hour, Minute, Second}
use Rattle.pg_interval.specs.Pairs.{Pair, decimal_pair}

-- a number as it is written, and the letter after it
pub record Item : Type 0 where
  pub number : List ℕ
  pub letter : ℕ

-- `Y`, `M`, `D`, `H` and `S`
abbrev pub is_designator : ℕ → Bool
is_designator c = c == 89 || c == 77 || c == 68 || c == 72 || c == 83

-- the same items, with one more byte at the front of the first number
abbrev pub longer : ℕ → List Item → Option (List Item)
longer c [] = None
longer c (item ∷ rest) = Some (record item { number = c ∷ item.number } ∷ rest)

-- the part is one item after another: each ends at its letter
abbrev pub items_of : List ℕ → Option (List Item)
items_of [] = Some []
items_of (c ∷ cs) = if is_designator c then (items_of cs >>= λ rest. Some (record { number = []; letter = c } ∷ rest))
    else (items_of cs >>= longer c)

-- an optional minus, then digits and points
abbrev pub is_item_number : List ℕ → Bool
is_item_number [] = true
is_item_number (c ∷ cs) = (is_minus c || is_digit c || is_point c) && list_all (λ d. is_digit d || is_point d) cs

-- the units before the `T`
abbrev pub date_unit : ℕ → Option TimeUnit
date_unit c = if c == 89 then Some Year else (if c == 77 then Some Month
    else (if c == 68 then Some Day else (if c == 72 then Some Hour else None)))

-- the units after the `T`: `M` is minutes there, and `S` stands only there
abbrev pub time_unit : ℕ → Option TimeUnit
time_unit c = if c == 89 then Some Year else (if c == 77 then Some Minute
    else (if c == 68 then Some Day else (if c == 72 then Some Hour else (if c == 83 then Some Second else None))))

abbrev pub pairs_of_items : (ℕ → Option TimeUnit) → List Item → Option (List Pair)
pairs_of_items unit [] = Some []
pairs_of_items unit (item ∷ rest) = if is_item_number item.number then (unit item.letter >>= λ u. pairs_of_items unit rest
    >>= λ ps. Some (decimal_pair u item.number ∷ ps)) else None

-- what stands before the `T` and what stands after it
abbrev pub pairs_of_halves : List (List ℕ) → Option (List Pair)
pairs_of_halves (date ∷ []) = items_of date >>= pairs_of_items date_unit
pairs_of_halves (date ∷ time ∷ []) = items_of date >>= pairs_of_items date_unit >>= λ ps. items_of time >>= pairs_of_items time_unit
    >>= λ qs. Some (ps ++ qs)
pairs_of_halves _ = None

-- The pairs of a text of the style `iso_8601`, unless its shape is broken: `P`, and at least one byte more.
unfoldable pub iso_pairs : List ℕ → Option (List Pair)
iso_pairs [] = None
iso_pairs (c ∷ []) = None
iso_pairs (c ∷ d ∷ ds) = if c == 80 then pairs_of_halves (slice_split (λ b. b == 84) (d ∷ ds)) else None
