-- What the first try of a reader finds at the front of a text.
use Rattle.std.specs.Prelude.{◌≡◌, ℕ, ◌*◌, ◌^◌, ◌<◌, Bool, true, false, not, if◌then◌else◌, List, [], ◌∷◌, ◌++◌, length, ℤ, pos, Option, Some, Result, Ok}
use Rattle.std.specs.List.{list_all, list_any, slice_split}
use Rattle.std.specs.Str.Parse.{digits_value}
use Rattle.pg_interval.specs.Texts.{is_whitespace, is_letter, is_colon, is_point, is_minus, is_empty, are_digits, begins}
use Rattle.pg_interval.specs.Decimals.{Decimal, decimal_of, TimeUnit, Year, Month, Day, Hour, Minute, Second, with_sign}
use Rattle.pg_interval.specs.Pairs.{Pair, sum_of, total_of}
use Rattle.pg_interval.specs.SqlText.{second_pairs}
use Rattle.pg_interval.specs.FieldReader.{int_out_of_range}
use Rattle.pg_interval.specs.PostgresText.{is_number_byte}
use Rattle.pg_interval.specs.Reader.{number_held}
use Rattle.pg_interval.specs.ItemReader.{left}
use Rattle.pg_interval.specs.declared.pg_interval.Interval.{Interval}
use Rattle.pg_interval.specs.declared.interval_parse.iso_front.Sums.{Sums}
use Rattle.interval_errors.specs.declared.ParseError.{ParseError}

abbrev pub is_solid : ℕ → Bool
is_solid c = not (is_whitespace c)

-- digits at the front of a text, the number that they make, and what follows them
pub record IsNumberFront (n : ℕ) (text rest : List ℕ) : Type 0 where
  pub digits : List ℕ
  pub are : are_digits digits ≡ true
  pub value : digits_value 10 digits ≡ n
  pub small : n < 2 ^ 31
  pub parts : text ≡ digits ++ rest

-- a decimal at the front of a text, as it is held with its sign turned if `turn` says so, and what follows it
pub record IsDecimalFront (turn : Bool) (d : Decimal) (text rest : List ℕ) : Type 0 where
  pub number : List ℕ
  pub bytes : list_all is_number_byte number ≡ true
  pub filled : 0 < length number
  pub read : Ok d ≡ number_held turn (decimal_of number)
  pub parts : text ≡ number ++ rest

-- such a decimal and a word at the front of a text, with one space between them, and what follows the word
pub record IsPairFront (turn : Bool) (d : Decimal) (text word rest : List ℕ) : Type 0 where
  pub behind : List ℕ
  pub decimal : IsDecimalFront turn d text behind
  pub parts : behind ≡ 32 ∷ (word ++ rest)
  pub letters : list_all is_letter word ≡ true
  pub filled : 0 < length word
  pub stop : begins is_solid rest ≡ false

abbrev pub only_months : ℤ → Interval
only_months z = record { months = z; days = pos 0; microseconds = pos 0 }

abbrev pub only_days : ℤ → Interval
only_days z = record { months = pos 0; days = z; microseconds = pos 0 }

abbrev pub only_time : ℤ → Interval
only_time z = record { months = pos 0; days = pos 0; microseconds = z }

-- a token whose pairs add up to this amount
pub record IsAmount (pairs : List ℕ → Option (List Pair)) (i : Interval) (token : List ℕ) : Type 0 where
  pub all : List Pair
  pub read : pairs token ≡ Some all
  pub total : total_of int_out_of_range all ≡ Ok i
  pub bare : list_any is_whitespace token ≡ false
  pub filled : is_empty token ≡ false

-- such a token at the front of a text, and what follows it
pub record IsAmountFront (pairs : List ℕ → Option (List Pair)) (i : Interval) (text rest : List ℕ) : Type 0 where
  pub token : List ℕ
  pub amount : IsAmount pairs i token
  pub parts : text ≡ token ++ rest

-- seconds with the fraction that may follow them, which are this many microseconds with either sign
pub record IsSeconds (size : ℕ) (text : List ℕ) : Type 0 where
  pub all : Bool → List Pair
  pub read : (minus : Bool) → second_pairs minus (slice_split is_point text) ≡ Some (all minus)
  pub total : (minus : Bool) → total_of int_out_of_range (all minus) ≡ Ok (only_time (with_sign minus size))
  pub bare : list_any is_whitespace text ≡ false
  pub plain : list_any is_colon text ≡ false
  pub small : size < 2 ^ 52

-- what a whole number of a unit is worth
abbrev pub amount : TimeUnit → Bool → ℕ → Interval
amount Year minus n = only_months (with_sign minus (12 * n))
amount Month minus n = only_months (with_sign minus n)
amount Day minus n = only_days (with_sign minus n)
amount Hour minus n = only_time (with_sign minus (3600000000 * n))
amount Minute minus n = only_time (with_sign minus (60000000 * n))
amount Second minus n = only_time (with_sign minus (1000000 * n))

-- the text without the minus that it may begin with
abbrev pub without_minus : List ℕ → List ℕ
without_minus [] = []
without_minus (c ∷ cs) = if is_minus c then cs else c ∷ cs

-- six digits between a point and `S` at the front of a text, the number that they make, and what follows the `S`
pub record IsFraction (n : ℕ) (text rest : List ℕ) : Type 0 where
  pub digits : List ℕ
  pub are : are_digits digits ≡ true
  pub value : digits_value 10 digits ≡ n
  pub small : n < 2 ^ 31
  pub six : length digits ≡ 6
  pub parts : text ≡ 46 ∷ (digits ++ 83 ∷ rest)

abbrev pub sums_of : Sums → Interval
sums_of s = record { months = s.months; days = s.days; microseconds = s.microseconds }

-- the amount was added if `done` says so, and whether the `T` was there is as before
abbrev pub HasAdded : Bool → Interval → Sums → Sums → Type 0
HasAdded done more old new = (done ≡ true → sums_of new ≡ sum_of (sums_of old) more) × (new.in_time ≡ old.in_time)

-- the result of the rest of a text after these sums
abbrev pub left_of : Sums → List ℕ → Option (Result Interval ParseError)
left_of s text = left s.in_time (Ok (sums_of s)) text
