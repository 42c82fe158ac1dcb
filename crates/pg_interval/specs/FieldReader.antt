-- The state of a reader of fields, and its result from there.
use Rattle.std.specs.Prelude.{ℕ, Bool, if◌then◌else◌, List, [], ◌∷◌, ◌++◌, codes, bytes_eq, Option, None, Some, Result, Ok, Err}
use Rattle.std.specs.List.{list_all, list_any, slice_split}
use Rattle.pg_interval.specs.Texts.{◌>>=◌, is_digit, is_sign, is_point, is_colon, is_minus, begins, tokens}
use Rattle.pg_interval.specs.Decimals.{Decimal, Minute, number_of}
use Rattle.pg_interval.specs.Pairs.{Pair, total_of}
use Rattle.pg_interval.specs.SqlText.{day_pairs, field_pair, is_field, second_pairs, sql_time_pairs, year_month_pairs}
use Rattle.pg_interval.specs.Reader.{capped_decimal, decimal_from, joined}
use Rattle.pg_interval.specs.declared.pg_interval.Interval.{Interval}
use Rattle.pg_interval.specs.declared.interval_parse.parts.Number.{Number}
use Rattle.interval_errors.specs.declared.IntError.{IntError}
use Rattle.interval_errors.specs.declared.IntError.TheVariants.{InvalidDigit, OutOfRange}
use Rattle.interval_errors.specs.declared.ParseError.{ParseError}
use Rattle.interval_errors.specs.declared.ParseError.TheVariants.{ParseIntErr}

abbrev pub int_out_of_range : ParseError
int_out_of_range = ParseIntErr OutOfRange

-- the result of a reader of one field
abbrev pub int_read : Result Number IntError → Result Decimal ParseError
int_read (Ok n) = Ok (decimal_from n)
int_read (Err e) = Err (ParseIntErr e)

abbrev pub number_capped : Result Decimal ParseError → Result Decimal ParseError
number_capped (Ok d) = Ok (capped_decimal d)
number_capped (Err e) = Err e

abbrev pub fraction_number : Bool → List ℕ → Result Decimal ParseError
fraction_number minus fraction = if list_all is_digit fraction then Ok (number_of minus [] fraction) else Err (ParseIntErr InvalidDigit)

-- this sum and the pairs after it, unless the shape is broken
abbrev pub answer : Result Interval ParseError → Option (List Pair) → Option (Result Interval ParseError)
answer r o = o >>= λ ps. Some (joined r (total_of int_out_of_range ps))

-- minutes, and the seconds that may follow them
abbrev pub minute_pairs : Bool → List (List ℕ) → Option (List Pair)
minute_pairs minus (m ∷ []) = if is_field m then Some (field_pair minus Minute m ∷ []) else None
minute_pairs minus (m ∷ s ∷ []) = if is_field m then (second_pairs minus (slice_split is_point s)
    >>= λ ps. Some (field_pair minus Minute m ∷ ps)) else None
minute_pairs minus _ = None

abbrev pub pairs_of_one : List ℕ → Option (List Pair)
pairs_of_one a = if bytes_eq a (codes "0") then Some []
    else (if list_any is_colon a then sql_time_pairs (begins is_minus a) a else year_month_pairs a)

abbrev pub pairs_of_two : List ℕ → List ℕ → Option (List Pair)
pairs_of_two a b = day_pairs a >>= λ day. sql_time_pairs (begins is_minus (if begins is_sign b then b else a)) b
    >>= λ time. Some (day ++ time)

abbrev pub pairs_of_three : List ℕ → List ℕ → List ℕ → Option (List Pair)
pairs_of_three a b c = year_month_pairs a >>= λ year_month. day_pairs b >>= λ day. sql_time_pairs (begins is_minus c) c
    >>= λ time. Some (year_month ++ day ++ time)

-- a token and then the rest, or no token
abbrev pub token_first : List ℕ → List ℕ → List (List ℕ)
token_first [] rest = []
token_first (c ∷ cs) rest = (c ∷ cs) ∷ tokens rest
