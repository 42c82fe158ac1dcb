use Rattle.std.proofs.Common.{◌≡◌, ◌++◌}
use Rattle.shift_table.specs.Kept.{shifts_in}
use Rattle.shift_table.proofs.table.ShiftTable.shifts.Given as goal

abbrev pub invariant-loop-place : goal.invariant-loop-place
invariant-loop-place l = l.shifts.items ++ shifts_in l.place-iterator ≡ l.self
