-- Steps: what changes a table of shifts.
use Rattle.std.specs.Prelude.{pos, List, [], ◌∷◌, Result, Ok, Err, int_lt, if◌then◌else◌}
use Rattle.std.specs.List.{list_any}
use Rattle.shift_table.specs.Spans.{span_of}
use Rattle.shift_table.specs.Shifts.{clashes, is_shift, booked, canceled}
use Rattle.shift_table.specs.declared.shift.Shift.{Shift}
use Rattle.shift_orders.specs.Orders.{and_then}
use Rattle.shift_transactions.specs.declared.step.Step.{Step}
use Rattle.shift_transactions.specs.declared.step.Step.TheVariants.{Book, Cancel}
use Rattle.shift_transactions.specs.declared.outcome.Refusal.{Refusal}
use Rattle.shift_transactions.specs.declared.outcome.Refusal.TheVariants.{NotPositive, Clash, UnknownShift}

-- The table behind a step, or why it can't be done: a shift has to last and to clash with none, and one that is canceled has to be booked.
abbrev pub tried : List Shift → Step → Result (List Shift) Refusal
tried t (Book s) =
    if int_lt (pos 0) (span_of s.length) then (if list_any (clashes s) t then Err Clash else Ok (booked t s))
    else Err NotPositive
tried t (Cancel s) = if list_any (is_shift s) t then Ok (canceled t s.name s.start) else Err UnknownShift

-- the table behind several steps, one after the other; or why the first that can't be done can't be
abbrev pub done_in_turn : List Shift → List Step → Result (List Shift) Refusal
done_in_turn t [] = Ok t
done_in_turn t (step ∷ steps) = and_then (tried t step) (λ behind. done_in_turn behind steps)

-- the table behind a change of these steps; one that can't be done changes nothing
abbrev pub ok_or_else : {A E : Type 0} → Result A E → A → A
ok_or_else (Ok x) y = x
ok_or_else (Err e) y = y

abbrev pub changed : List Shift → List Step → List Shift
changed t steps = ok_or_else (done_in_turn t steps) t
