use Rattle.rota_clashes.specs.Shifts.{AreShiftsBefore}
use Rattle.rota_clashes.proofs.shifts.shifts_of.Given as goal

abbrev pub invariant-loop-place : goal.invariant-loop-place
invariant-loop-place l = AreShiftsBefore l.place l.moments l.shifts.items
