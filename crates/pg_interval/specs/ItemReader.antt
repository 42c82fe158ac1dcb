-- The state of a reader of items, and its result from there.
use Rattle.std.specs.Prelude.{ℕ, Bool, true, false, not, ◌||◌, ◌==◌, if◌then◌else◌, List, [], ◌∷◌, Option, None, Some, Result}
use Rattle.std.specs.List.{list_any, slice_split}
use Rattle.pg_interval.specs.Texts.{◌>>=◌}
use Rattle.pg_interval.specs.Decimals.{TimeUnit, decimal_of}
use Rattle.pg_interval.specs.Pairs.{checked, total_of}
use Rattle.pg_interval.specs.IsoText.{is_designator, is_item_number, items_of, pairs_of_items, date_unit, time_unit}
use Rattle.pg_interval.specs.Reader.{joined, tallied, so_far}
use Rattle.pg_interval.specs.WordReader.{out_of_range}
use Rattle.pg_interval.specs.declared.pg_interval.Interval.{Interval}
use Rattle.pg_interval.specs.declared.interval_parse.parts.Items.{Items}
use Rattle.interval_errors.specs.declared.ParseError.{ParseError}

abbrev pub is_time_mark : ℕ → Bool
is_time_mark c = c == 84

-- the bytes of an item before its letter
abbrev pub is_unmarked : ℕ → Bool
is_unmarked c = not (is_designator c || is_time_mark c)

abbrev pub unit_at : Bool → ℕ → Option TimeUnit
unit_at in_time l = if in_time then time_unit l else date_unit l

-- the result of the items of a half, after this sum
abbrev pub items_left : (ℕ → Option TimeUnit) → Result Interval ParseError → List ℕ → Option (Result Interval ParseError)
items_left unit r text = items_of text >>= pairs_of_items unit >>= λ ps. Some (joined r (total_of out_of_range ps))

abbrev pub halves_left : Result Interval ParseError → List (List ℕ) → Option (Result Interval ParseError)
halves_left r (date ∷ []) = items_left date_unit r date
halves_left r (date ∷ time ∷ []) = items_left date_unit r date >>= λ q. items_left time_unit q time
halves_left r _ = None

-- the result of the rest of a text, before its `T` and after it
unfoldable pub left : Bool → Result Interval ParseError → List ℕ → Option (Result Interval ParseError)
left true r text = if list_any is_time_mark text then None else items_left time_unit r text
left false r text = halves_left r (slice_split is_time_mark text)

abbrev pub left_after : Items → List ℕ → Option (Result Interval ParseError)
left_after s text = left s.in_time (so_far s.totals) text

abbrev pub front_left : Items → Option (List ℕ) → Option (Result Interval ParseError)
front_left s None = None
front_left s (Some rest) = left_after s rest

-- an item, and then the rest
abbrev pub item_left : Bool → Result Interval ParseError → List ℕ → ℕ → List ℕ → Option (Result Interval ParseError)
item_left in_time r number letter rest = if is_item_number number then (unit_at in_time letter
    >>= λ u. left in_time (tallied out_of_range u (checked (decimal_of number)) r) rest) else None
