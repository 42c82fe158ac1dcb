-- How many rows a FETCH asks for.
use Rattle.std.specs.Prelude.{ℕ, ℤ, pos, ◌^◌, Bool, not, ◌&&◌, ◌==◌, nat_lt, if◌then◌else◌, List, length, slice_index, Option, Some, None, codes}
use Rattle.std.specs.Char.{is_ascii_digit}
use Rattle.std.specs.List.{list_all}
use Rattle.std.specs.Str.Parse.{digits_value}
use Rattle.query_texts.specs.QueryTexts.{is_word}

-- decimal digits, one at least, of which the first isn't zero
abbrev pub is_count : List ℕ → Bool
is_count word = not (length word == 0) && list_all is_ascii_digit word && not (slice_index word 0 == 48)

-- 1 to 2147483647 in decimal, without a leading zero
abbrev pub count_of : List ℕ → Option ℤ
count_of word = if is_count word && nat_lt (digits_value 10 word) (2 ^ 31) then Some (pos (digits_value 10 word)) else None

-- ALL, in any ASCII case, is no limit, which 0 stands for.
abbrev pub limit_of : List ℕ → Option ℤ
limit_of word = if is_word word (codes "ALL") then Some (pos 0) else count_of word
