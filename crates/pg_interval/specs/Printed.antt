-- The text of an interval in each of PostgreSQL's four interval styles: its documentation, "Interval Output".
-- A text is put together from the fields of the normal form; `decimal n` is n in decimal digits.
use Rattle.std.specs.Prelude.{◌≡◌, ℕ, zero, suc, ◌+◌, ◌/◌, ◌%◌, ◌^◌, Bool, false, not, ◌&&◌, ◌||◌, ◌==◌, nat_lt, if◌then◌else◌, List, [], ◌∷◌, ◌++◌, flat_map, map, codes, bytes_eq, ℤ, unsigned_abs, decimal}
use Rattle.std.specs.List.{join_with_byte, list_all}
use Rattle.std.specs.Int.{is_negative, is_positive}
use Rattle.pg_interval.specs.Cell.{IsInterval}
use Rattle.pg_interval.specs.NormalForm.{normal_form}
use Rattle.pg_interval.specs.Reading.{Style, Postgres, PostgresVerbose, Iso8601, SqlStandard}
use Rattle.pg_interval.specs.declared.pg_interval.Interval.{Interval}
use Rattle.pg_interval.specs.declared.interval_norm.IntervalNorm.{IntervalNorm}

unfoldable pub is_zero : ℤ → Bool
is_zero z = unsigned_abs z == 0

-- `-` where a number is negative
abbrev pub minus_if : Bool → List ℕ
minus_if negative = if negative then 45 ∷ [] else []

-- `-` or `+`
abbrev pub sign_of : Bool → List ℕ
sign_of negative = if negative then 45 ∷ [] else 43 ∷ []

-- the number without its sign
abbrev pub digits_of : ℤ → List ℕ
digits_of z = decimal (unsigned_abs z)

-- at least two digits, the first of them 0 where one would do
unfoldable pub two_digits_of : ℕ → List ℕ
two_digits_of n = if nat_lt n 10 then 48 ∷ decimal n else decimal n

abbrev pub two_digits : ℤ → List ℕ
two_digits z = two_digits_of (unsigned_abs z)

-- the last k digits of a number
abbrev pub last_digits : ℕ → ℕ → List ℕ
last_digits zero n = []
last_digits (suc k) n = (48 + n / 10 ^ k % 10) ∷ last_digits k n

-- the six digits of a number of microseconds below a second
unfoldable pub six_digits : ℕ → List ℕ
six_digits n = last_digits 6 n

-- `.` and the six digits, unless they are all zero
unfoldable pub fraction_of : ℤ → List ℕ
fraction_of z = if is_zero z then [] else 46 ∷ six_digits (unsigned_abs z)

unfoldable pub is_year_month_zero : IntervalNorm → Bool
is_year_month_zero n = is_zero n.years && is_zero n.months

unfoldable pub is_time_zero : IntervalNorm → Bool
is_time_zero n = is_zero n.hours && is_zero n.minutes && is_zero n.seconds && is_zero n.microseconds

unfoldable pub is_all_zero : IntervalNorm → Bool
is_all_zero n = is_year_month_zero n && is_zero n.days && is_time_zero n

-- some field of the time is negative, and then none is positive
abbrev pub is_time_negative : IntervalNorm → Bool
is_time_negative n = is_negative n.hours || is_negative n.minutes || is_negative n.seconds || is_negative n.microseconds

abbrev pub is_time_positive : IntervalNorm → Bool
is_time_positive n = is_positive n.hours || is_positive n.minutes || is_positive n.seconds || is_positive n.microseconds

unfoldable pub is_second_zero : IntervalNorm → Bool
is_second_zero n = is_zero n.seconds && is_zero n.microseconds

abbrev pub is_second_negative : IntervalNorm → Bool
is_second_negative n = is_negative n.seconds || is_negative n.microseconds

-- minutes and seconds in two digits, and the microseconds
unfoldable pub after_hours : IntervalNorm → List ℕ
after_hours n = 58 ∷ two_digits n.minutes ++ 58 ∷ two_digits n.seconds ++ fraction_of n.microseconds

-- ---- postgres and postgres_verbose

-- a part of a text: a number that isn't zero, as its sign and its digits, and its word
pub record Part : Type 0 where
  pub negative : Bool
  pub digits : List ℕ
  pub word : List ℕ

-- nothing for zero
unfoldable pub part_of : ℤ → List ℕ → List Part
part_of z name = if is_zero z then [] else record { negative = is_negative z; digits = digits_of z; word = name } ∷ []

-- a word ends with `s` unless its number is printed as `1`
unfoldable pub word_end : List ℕ → List ℕ
word_end number = if bytes_eq number (codes "1") then [] else codes "s"

-- the number, a space, and the word
unfoldable pub part_text : Bool → List ℕ → List ℕ → List ℕ
part_text minus digits word = minus_if minus ++ digits ++ 32 ∷ word ++ word_end (minus_if minus ++ digits)

abbrev pub own_text : Part → List ℕ
own_text p = part_text p.negative p.digits p.word

unfoldable pub date_parts : IntervalNorm → List Part
date_parts n = part_of n.years (codes "year") ++ part_of n.months (codes "mon") ++ part_of n.days (codes "day")

unfoldable pub time_texts : IntervalNorm → List (List ℕ)
time_texts n = if is_time_zero n then [] else (minus_if (is_time_negative n) ++ two_digits n.hours ++ after_hours n) ∷ []

-- the parts and the time, a space between each two
unfoldable pub postgres_text : IntervalNorm → List ℕ
postgres_text n = if is_all_zero n then codes "00:00:00" else join_with_byte 32 (map own_text (date_parts n) ++ time_texts n)

unfoldable pub without_last_zeros : List ℕ → List ℕ
without_last_zeros [] = []
without_last_zeros (d ∷ ds) = if list_all (λ c. c == 48) (d ∷ ds) then [] else d ∷ without_last_zeros ds

-- a digit before others, unless it is a zero and there are none
abbrev pub kept_digit : ℕ → Bool → List ℕ → List ℕ
kept_digit digit first digits = if (digit == 0) && first then digits else (48 + digit) ∷ digits

-- the microseconds as decimals of the seconds
unfoldable pub decimals_of : ℤ → List ℕ
decimals_of z = if is_zero z then [] else 46 ∷ without_last_zeros (six_digits (unsigned_abs z))

-- the seconds with their decimals, without a sign
unfoldable pub second_digits : IntervalNorm → List ℕ
second_digits n = digits_of n.seconds ++ decimals_of n.microseconds

unfoldable pub second_parts : IntervalNorm → List Part
second_parts n = if is_second_zero n then [] else record {
  negative = is_second_negative n;
  digits = second_digits n;
  word = codes "sec";
} ∷ []

unfoldable pub verbose_time_parts : IntervalNorm → List Part
verbose_time_parts n = part_of n.hours (codes "hour") ++ part_of n.minutes (codes "min") ++ second_parts n

abbrev pub verbose_parts : IntervalNorm → List Part
verbose_parts n = date_parts n ++ verbose_time_parts n

-- whether the first part is negative
abbrev pub is_ago : List Part → Bool
is_ago [] = false
is_ago (p ∷ ps) = p.negative

-- a part after a space, its number negated where the text ends with `ago`
unfoldable pub verbose_part_text : Bool → Part → List ℕ
verbose_part_text ago p = 32 ∷ part_text (if ago then not p.negative else p.negative) p.digits p.word

abbrev pub ago_end : Bool → List ℕ
ago_end ago = if ago then codes " ago" else []

abbrev pub verbose_text_of : Bool → List Part → List ℕ
verbose_text_of ago ps = 64 ∷ flat_map (verbose_part_text ago) ps ++ ago_end ago

unfoldable pub verbose_text : IntervalNorm → List ℕ
verbose_text n = if is_all_zero n then codes "@ 0" else verbose_text_of (is_ago (verbose_parts n)) (verbose_parts n)

-- ---- iso_8601

-- the number with its own minus, and its letter; nothing for zero
unfoldable pub item_text : ℤ → ℕ → List ℕ
item_text z letter = if is_zero z then [] else minus_if (is_negative z) ++ digits_of z ++ letter ∷ []

unfoldable pub second_text : IntervalNorm → List ℕ
second_text n = if is_second_zero n then [] else minus_if (is_second_negative n) ++ digits_of n.seconds ++ fraction_of n.microseconds ++ 83
    ∷ []

unfoldable pub iso_time_text : IntervalNorm → List ℕ
iso_time_text n = if is_time_zero n then [] else 84 ∷ item_text n.hours 72 ++ item_text n.minutes 77 ++ second_text n

unfoldable pub iso_text : IntervalNorm → List ℕ
iso_text n = if is_all_zero n then codes "PT0S" else 80 ∷ item_text n.years 89 ++ item_text n.months 77 ++ item_text n.days 68
    ++ iso_time_text n

-- ---- sql_standard

-- years and months without a sign
unfoldable pub year_month_text : IntervalNorm → List ℕ
year_month_text n = digits_of n.years ++ 45 ∷ digits_of n.months

-- the time without a sign
unfoldable pub sql_time_text : IntervalNorm → List ℕ
sql_time_text n = digits_of n.hours ++ after_hours n

abbrev pub is_year_month_negative : IntervalNorm → Bool
is_year_month_negative n = is_negative n.years || is_negative n.months

-- whether the days and the time have opposite signs
abbrev pub are_opposite : IntervalNorm → Bool
are_opposite n = (is_negative n.days && is_time_positive n) || (is_positive n.days && is_time_negative n)

-- days and a time with one sign in front of both
unfoldable pub day_time_text : IntervalNorm → List ℕ
day_time_text n = if is_zero n.days then minus_if (is_time_negative n) ++ sql_time_text n
    else minus_if (is_negative n.days) ++ digits_of n.days ++ 32 ∷ sql_time_text n

unfoldable pub signed_days_text : IntervalNorm → List ℕ
signed_days_text n = sign_of (is_negative n.days) ++ digits_of n.days

-- three parts, each with its sign
unfoldable pub signed_text : IntervalNorm → List ℕ
signed_text n = sign_of (is_year_month_negative n) ++ year_month_text n ++ 32 ∷ signed_days_text n ++ 32 ∷ sign_of (is_time_negative n)
    ++ sql_time_text n

-- years and months alone, days and time alone, or all three
unfoldable pub fields_text : IntervalNorm → List ℕ
fields_text n = if is_zero n.days && is_time_zero n then minus_if (is_year_month_negative n) ++ year_month_text n
    else (if is_year_month_zero n && not (are_opposite n) then day_time_text n else signed_text n)

unfoldable pub sql_text : IntervalNorm → List ℕ
sql_text n = if is_all_zero n then codes "0" else fields_text n

-- the text of a normal form
abbrev pub printed_norm : Style → IntervalNorm → List ℕ
printed_norm Postgres n = postgres_text n
printed_norm PostgresVerbose n = verbose_text n
printed_norm Iso8601 n = iso_text n
printed_norm SqlStandard n = sql_text n

-- the text of an interval
abbrev pub printed : Style → Interval → List ℕ
printed style i = printed_norm style (normal_form i)

-- the text is printed for no other interval
abbrev pub IsPrintedOnlyFor : Style → List ℕ → Interval → Type 0
IsPrintedOnlyFor style text i = (other : Interval) → IsInterval other → text ≡ printed style other → other ≡ i
