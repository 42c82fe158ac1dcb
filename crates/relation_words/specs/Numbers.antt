-- Numbers in decimal.
use Rattle.std.specs.Prelude.{ℕ, ◌^◌, Bool, not, ◌&&◌, ◌==◌, nat_lt, nat_le, if◌then◌else◌, List, length, slice_index, Option, Some, None}
use Rattle.std.specs.Char.{is_ascii_digit}
use Rattle.std.specs.List.{list_all}
use Rattle.std.specs.Str.Parse.{digits_value}

-- A zero stands before another byte.
abbrev pub has_leading_zero : List ℕ → Bool
has_leading_zero word = nat_lt 1 (length word) && slice_index word 0 == 48

-- A numeral: decimal digits, one at least, without a leading zero.
abbrev pub is_numeral : List ℕ → Bool
is_numeral word = not (length word == 0) && list_all is_ascii_digit word && not (has_leading_zero word)

-- The value of a numeral, where it is below 2^64.
abbrev pub number_of : List ℕ → Option ℕ
number_of word = if is_numeral word && nat_lt (digits_value 10 word) (2 ^ 64) then Some (digits_value 10 word) else None

-- a number from `least` to `most`, both of them good
abbrev pub within : ℕ → ℕ → Option ℕ → Option ℕ
within least most (Some number) = if nat_le least number && nat_le number most then Some number else None
within least most None = None

-- The value of a numeral, where it is from `least` to `most` and below 2^64.
abbrev pub number_within : ℕ → ℕ → List ℕ → Option ℕ
number_within least most word = within least most (number_of word)
