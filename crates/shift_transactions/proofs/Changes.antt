-- A change leaves a timetable.
use Rattle.std.proofs.Common.{◌≡◌, ℕ, ℤ, ◌<ℤ◌, pos, Bool, true, false, List, [], ◌∷◌, Result, Ok, Err, int_lt, if◌then◌else◌, refl, rules}
use Rattle.std.specs.List.{list_any}
use Rattle.pg_interval.specs.declared.pg_interval.Interval.{Interval}
use Rattle.shift_table.specs.Spans.{span_of}
use Rattle.shift_table.specs.Shifts.{clashes, is_shift, booked, canceled, IsTimetable}
use Rattle.shift_table.specs.declared.shift.Shift.{Shift}
use Rattle.shift_table.proofs.Timetables.{IsTimetable-booked, IsTimetable-canceled}
use Rattle.shift_orders.specs.Orders.{and_then}
use Rattle.shift_transactions.specs.declared.step.Step.{Step}
use Rattle.shift_transactions.specs.declared.step.Step.TheVariants.{Book, Cancel}
use Rattle.shift_transactions.specs.declared.outcome.Refusal.{Refusal}
use Rattle.shift_transactions.specs.declared.outcome.Refusal.TheVariants.{NotPositive, Clash, UnknownShift}
use Rattle.shift_transactions.specs.Steps.{tried, done_in_turn, ok_or_else, changed}

-- where there is a table, it is a timetable
abbrev LeavesTimetable : Result (List Shift) Refusal → Type 0
LeavesTimetable (Ok t) = IsTimetable t
LeavesTimetable (Err refusal) = Unit {0}

-- of a booking that is done, its shift lasts
lasts : (z : ℤ) → int_lt (pos 0) z ≡ true → pos 0 <ℤ z
lasts z e = search rules

books : (t : List Shift) (s : Shift) (lasting clashing : Bool) → IsTimetable t → int_lt (pos 0) (span_of s.length) ≡ lasting → list_any (clashes s) t ≡ clashing
    → LeavesTimetable (if lasting then (if clashing then Err Clash else Ok (booked t s)) else Err NotPositive)
books t s false clashing h l c = tt
books t s true true h l c = tt
books t s true false h l c = IsTimetable-booked t s h (lasts (span_of s.length) l) c

cancels : (t : List Shift) (name : List ℕ) (start : Interval) (known : Bool) → IsTimetable t
    → LeavesTimetable (if known then Ok (canceled t name start) else Err UnknownShift)
cancels t name start false h = tt
cancels t name start true h = IsTimetable-canceled t name start h

tries : (t : List Shift) (step : Step) → IsTimetable t → LeavesTimetable (tried t step)
tries t (Book s) h = books t s (int_lt (pos 0) (span_of s.length)) (list_any (clashes s) t) h refl refl
tries t (Cancel s) h = cancels t s.name s.start (list_any (is_shift s) t) h

goes_on : (r : Result (List Shift) Refusal) (f : List Shift → Result (List Shift) Refusal) → LeavesTimetable r
    → ((t : List Shift) → IsTimetable t → LeavesTimetable (f t)) → LeavesTimetable (and_then r f)
goes_on (Ok t) f h rest = rest t h
goes_on (Err refusal) f h rest = tt

does : (t : List Shift) (steps : List Step) → IsTimetable t → LeavesTimetable (done_in_turn t steps)
does t [] h = h
does t (step ∷ steps) h = goes_on (tried t step) (λ behind. done_in_turn behind steps) (tries t step h) (λ behind k. does behind steps k)

or_else : (r : Result (List Shift) Refusal) (t : List Shift) → LeavesTimetable r → IsTimetable t → IsTimetable (ok_or_else r t)
or_else (Ok behind) t h k = h
or_else (Err refusal) t h k = k

pub IsTimetable-changed : (t : List Shift) (steps : List Step) → IsTimetable t → IsTimetable (changed t steps)
IsTimetable-changed t steps h = or_else (done_in_turn t steps) t (does t steps h) h
