-- The texts of the style `sql_standard`: the interval literals of the SQL standard, as PostgreSQL reads them.
use Rattle.std.specs.Prelude.{ℕ, Bool, not, ◌&&◌, nat_le, if◌then◌else◌, List, [], ◌∷◌, ◌++◌, length, codes, bytes_eq, Option, None, Some, Result, Ok, Err}
use Rattle.std.specs.List.{slice_split, list_all, list_any, before_first, after_first}
use Rattle.pg_interval.specs.Texts.{◌>>=◌, is_digit, is_sign, is_point, is_colon, is_minus, begins, without_sign, tokens}
use Rattle.pg_interval.specs.Decimals.{Decimal, TimeUnit, Year, Month, Day, Hour, Minute, Second, number_of}
use Rattle.pg_interval.specs.Pairs.{Pair}
use Rattle.interval_errors.specs.declared.IntError.TheVariants.{Empty, InvalidDigit}
use Rattle.interval_errors.specs.declared.ParseError.{ParseError}
use Rattle.interval_errors.specs.declared.ParseError.TheVariants.{ParseIntErr}

-- the whole number that a field is to be: digits
abbrev pub field_number : Bool → List ℕ → Result Decimal ParseError
field_number minus [] = Err (ParseIntErr Empty)
field_number minus (c ∷ cs) = if list_all is_digit (c ∷ cs) then Ok (number_of minus (c ∷ cs) []) else Err (ParseIntErr InvalidDigit)

abbrev pub field_pair : Bool → TimeUnit → List ℕ → Pair
field_pair minus u field = record { number = field_number minus field; unit = u }

-- the part of a second after the point: digits, or none, which is zero
abbrev pub fraction_pair : Bool → List ℕ → Pair
fraction_pair minus fraction = record {
  number = if list_all is_digit fraction then Ok (number_of minus [] fraction)
      else Err (ParseIntErr InvalidDigit);
  unit = Second;
}

-- no field begins with a sign
abbrev pub is_field : List ℕ → Bool
is_field text = not (begins is_sign text)

abbrev pub fields : Bool → List ℕ → Option (List Pair)
fields minus rest = if list_any is_minus rest && is_field (before_first is_minus rest)
    && is_field (after_first is_minus rest) then Some (field_pair minus Year (before_first is_minus rest)
    ∷ field_pair minus Month (after_first is_minus rest) ∷ []) else None

-- two fields, split at the first `-` after the sign
abbrev pub year_month_pairs : List ℕ → Option (List Pair)
year_month_pairs text = fields (begins is_minus text) (without_sign text)

abbrev pub day_pairs : List ℕ → Option (List Pair)
day_pairs text = if is_field (without_sign text) then Some (field_pair (begins is_minus text) Day (without_sign text) ∷ []) else None

-- the seconds, and the fraction of at most six bytes that may follow a point
abbrev pub second_pairs : Bool → List (List ℕ) → Option (List Pair)
second_pairs minus (s ∷ []) = if is_field s then Some (field_pair minus Second s ∷ []) else None
second_pairs minus (s ∷ f ∷ []) = if is_field s && nat_le (length f) 6 then Some (field_pair minus Second s ∷ fraction_pair minus f ∷ [])
    else None
second_pairs minus _ = None

-- hours and minutes, and optional seconds
abbrev pub clock_pairs : Bool → List (List ℕ) → Option (List Pair)
clock_pairs minus (h ∷ m ∷ []) = if is_field h && is_field m then Some (field_pair minus Hour h ∷ field_pair minus Minute m ∷ []) else None
clock_pairs minus (h ∷ m ∷ s ∷ []) = if is_field h
    && is_field m then (second_pairs minus (slice_split is_point s)
    >>= λ ps. Some (field_pair minus Hour h ∷ field_pair minus Minute m ∷ ps)) else None
clock_pairs minus _ = None

-- a time without its sign, negative where `minus` says so
abbrev pub sql_time_pairs : Bool → List ℕ → Option (List Pair)
sql_time_pairs minus text = clock_pairs minus (slice_split is_colon (without_sign text))

abbrev pub pairs_of_sql_tokens : List (List ℕ) → Option (List Pair)
pairs_of_sql_tokens (a ∷ []) = if bytes_eq a (codes "0") then Some []
    else (if list_any is_colon a then sql_time_pairs (begins is_minus a) a else year_month_pairs a)
-- a time without a sign takes the one before the day
pairs_of_sql_tokens (a ∷ b ∷ []) = day_pairs a >>= λ day. sql_time_pairs (begins is_minus (if begins is_sign b then b else a)) b
    >>= λ time. Some (day ++ time)
pairs_of_sql_tokens (a ∷ b ∷ c ∷ []) = year_month_pairs a >>= λ year_month. day_pairs b >>= λ day. sql_time_pairs (begins is_minus c) c
    >>= λ time. Some (year_month ++ day ++ time)
pairs_of_sql_tokens _ = None

-- the pairs of a text of the style `sql_standard`, unless its shape is broken
unfoldable pub sql_pairs : List ℕ → Option (List Pair)
sql_pairs text = pairs_of_sql_tokens (tokens text)
