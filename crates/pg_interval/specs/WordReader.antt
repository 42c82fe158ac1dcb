-- The state of a reader of words and times, and its result from there.
use Rattle.std.specs.Prelude.{◌≡◌, ℕ, ◌<◌, Bool, true, false, ◌&&◌, if◌then◌else◌, List, [], ◌∷◌, length, map, codes, bytes_eq, Option, None, Some, option_map, Result, Ok, Err}
use Rattle.std.specs.Borrow.{Bor}
use Rattle.std.specs.List.{slice_split}
use Rattle.pg_interval.specs.Texts.{◌>>=◌, is_whitespace, is_colon, is_point, is_minus, are_digits, begins, without_sign, tokens}
use Rattle.pg_interval.specs.Decimals.{Decimal, TimeUnit, Year, Month, Day, Hour, Minute, Second, number_of, decimal_of, is_zero_decimal}
use Rattle.pg_interval.specs.Pairs.{Pair, turned_number, checked, judged, nothing}
use Rattle.pg_interval.specs.PostgresText.{token_of, pairs_of_tokens, seconds_of, unit_of_word, unit_of_verbose_word}
use Rattle.pg_interval.specs.Reader.{decimal_from, capped_decimal, turned_if, so_far, tallied}
use Rattle.pg_interval.specs.declared.pg_interval.Interval.{Interval}
use Rattle.pg_interval.specs.declared.interval_parse.parts.Clock.{Clock}
use Rattle.pg_interval.specs.declared.interval_parse.parts.Seen.{Seen}
use Rattle.pg_interval.specs.declared.interval_parse.parts.Words.{Words}
use Rattle.interval_errors.specs.declared.DecimalError.{DecimalError}
use Rattle.interval_errors.specs.declared.DecimalError.TheVariants.{OutOfRange}
use Rattle.interval_errors.specs.declared.Reason.TheVariants.{Shape}
use Rattle.interval_errors.specs.declared.ParseError.{ParseError}
use Rattle.interval_errors.specs.declared.ParseError.TheVariants.{ParseFloatErr, InvalidInterval}

-- whether the unit has a number
abbrev pub has : Seen → TimeUnit → Bool
has s Year = s.year
has s Month = s.month
has s Day = s.day
has s Hour = s.hour
has s Minute = s.minute
has s Second = s.second

-- the unit has one now
abbrev pub with_unit : Seen → TimeUnit → Seen
with_unit s Year = record s { year = true }
with_unit s Month = record s { month = true }
with_unit s Day = record s { day = true }
with_unit s Hour = record s { hour = true }
with_unit s Minute = record s { minute = true }
with_unit s Second = record s { second = true }

abbrev pub none_seen : Seen
none_seen = record { year = false; month = false; day = false; hour = false; minute = false; second = false }

-- the units seen, and the sums or the first error
pub record State : Type 0 where
  pub seen : Seen
  pub sum : Result Interval ParseError

abbrev pub state : Words → State
state w = record { seen = w.seen; sum = so_far w.totals }

abbrev pub start : State
start = record { seen = none_seen; sum = Ok nothing }

abbrev pub out_of_range : ParseError
out_of_range = ParseFloatErr OutOfRange

-- one number more, unless its unit has one
abbrev pub taken_one : State → TimeUnit → Result Decimal ParseError → Option State
taken_one s u n = if has s.seen u then None else Some (record { seen = with_unit s.seen u; sum = tallied out_of_range u n s.sum })

-- a number that isn't zero
abbrev pub taken_unless_zero : State → TimeUnit → Decimal → Option State
taken_unless_zero s u d = if is_zero_decimal d then Some s else taken_one s u (Ok d)

abbrev pub turned_by : Bool → Result Decimal ParseError → Result Decimal ParseError
turned_by turn n = if turn then turned_number n else n

-- the pairs, one after another, with their numbers turned where `turn` says so
abbrev pub taken : Bool → State → List Pair → Option State
taken turn s [] = Some s
taken turn s (p ∷ ps) = taken_one s p.unit (turned_by turn p.number) >>= λ t. taken turn t ps

abbrev pub unit_in : Bool → List ℕ → Option TimeUnit
unit_in verbose w = if verbose then unit_of_verbose_word w else unit_of_word w

-- a number as it is written, with the word of its unit
abbrev pub taken_pair : Bool → Bool → State → List ℕ → List ℕ → Option State
taken_pair verbose turn s number word = unit_in verbose word >>= λ u. taken_one s u (turned_by turn (checked (decimal_of number)))

-- a number that was read, with the word of its unit
abbrev pub taken_word : Bool → State → Result Decimal DecimalError → List ℕ → Option State
taken_word verbose s n word = unit_in verbose word >>= λ u. taken_one s u (checked n)

-- the result of the tokens of the rest of a text, after this state
unfoldable pub left : Bool → Bool → State → List ℕ → Option (Result Interval ParseError)
left verbose turn s text = pairs_of_tokens (unit_in verbose) (map token_of (tokens text)) >>= λ ps. taken turn s ps >>= λ t. Some t.sum

-- the rest of a text, as a reader gives it
abbrev pub rest_of : Option (Bor (List ℕ)) → Option (List ℕ)
rest_of None = None
rest_of (Some rest) = Some rest.now

-- the same where the rest may be gone, since the shape is broken
abbrev pub front_left : Bool → Bool → State → Option (List ℕ) → Option (Result Interval ParseError)
front_left verbose turn s None = None
front_left verbose turn s (Some rest) = left verbose turn s rest

-- the rest of a text from its next token on, of fewer bytes than this bound
abbrev pub IsNextToken : ℕ → List ℕ → Type 0
IsNextToken bound next = (length next < bound) × (begins is_whitespace next ≡ false)

-- the result of the sums, where the shape isn't broken
abbrev pub answered : Option (Result Interval ParseError) → Result Interval ParseError
answered None = Err (InvalidInterval Shape)
answered (Some r) = judged r

-- the hours, minutes and seconds of a time
pub record Times : Type 0 where
  pub hours : Decimal
  pub minutes : Decimal
  pub seconds : Decimal

abbrev pub times_from : Clock → Times
times_from c = record { hours = decimal_from c.hours; minutes = decimal_from c.minutes; seconds = decimal_from c.seconds }

abbrev pub held_times : Bool → Times → Times
held_times turn t = record {
  hours = capped_decimal (turned_if turn t.hours);
  minutes = capped_decimal (turned_if turn t.minutes);
  seconds = capped_decimal (turned_if turn t.seconds);
}

abbrev pub taken_times : State → Times → Option State
taken_times s t = taken_unless_zero s Hour t.hours >>= λ a. taken_unless_zero a Minute t.minutes
    >>= λ b. taken_unless_zero b Second t.seconds

-- the numbers of a time's parts
abbrev pub times_of_parts : Bool → List (List ℕ) → Option Times
times_of_parts minus (h ∷ m ∷ s ∷ []) = if are_digits h
    && are_digits m then (seconds_of minus (slice_split is_point s)
    >>= λ seconds. Some (record { hours = number_of minus h []; minutes = number_of minus m []; seconds = seconds })) else None
times_of_parts minus _ = None

-- the numbers of a time, zeros among them
unfoldable pub times_of : List ℕ → Option Times
times_of text = times_of_parts (begins is_minus text) (slice_split is_colon (without_sign text))

-- the result of a number and its word before the rest, and the result of a time before it
abbrev pub pair_left : Bool → Bool → State → List ℕ → List ℕ → List ℕ → Option (Result Interval ParseError)
pair_left verbose turn s number word rest = taken_pair verbose turn s number word >>= λ t. left verbose turn t rest

abbrev pub worded_left : Bool → Bool → State → Result Decimal DecimalError → List ℕ → List ℕ → Option (Result Interval ParseError)
worded_left verbose turn s n word rest = taken_word verbose s n word >>= λ t. left verbose turn t rest

abbrev pub time_left : Bool → Bool → State → List ℕ → List ℕ → Option (Result Interval ParseError)
time_left verbose turn s token rest = option_map (held_times turn) (times_of token) >>= λ t. taken_times s t
    >>= λ u. left verbose turn u rest

-- the text between `@` and `ago`
unfoldable pub within_left : Bool → List ℕ → Option (Result Interval ParseError)
within_left turn text = if bytes_eq text (codes "0") then Some (Ok nothing) else left true turn start text
