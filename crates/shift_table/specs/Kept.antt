-- How a table is kept: each shift's start and length, under its name and the moment of its start.
use Rattle.std.specs.Prelude.{◌≡◌, List, map, All}
use Rattle.pg_interval.specs.Cell.{IsInterval}
use Rattle.shift_table.specs.Spans.{span_of}
use Rattle.shift_table.specs.Shifts.{IsTimetable}
use Rattle.shift_table.specs.declared.shift.Shift.{Shift}
use Rattle.shift_table.specs.declared.place.Place.{Place}
use Rattle.shift_table.specs.declared.place.Hours.{Hours}

-- the shift of an entry
abbrev pub shift_at : Place × Hours → Shift
shift_at e = record { name = e.0.name; start = e.1.start; length = e.1.length }

abbrev pub shifts_in : List (Place × Hours) → List Shift
shifts_in entries = map shift_at entries

-- the entry stands under the moment of its start, and its start is an interval
pub record IsKeyed (e : Place × Hours) : Type 0 where
  pub moment : e.0.start ≡ span_of e.1.start
  pub interval : IsInterval e.1.start

pub record IsKept (entries : List (Place × Hours)) : Type 0 where
  pub keyed : All IsKeyed entries
  pub timetable : IsTimetable (shifts_in entries)
