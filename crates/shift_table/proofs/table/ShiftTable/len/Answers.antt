use Rattle.std.proofs.Common.{subst}
use Rattle.std.specs.List.Sorted.{IsStrictlySortedBy}
use Rattle.shift_table.specs.Shifts.{shift_cmp, IsTimetable}
use Rattle.shift_table.proofs.Removed.{sorted_shifts}
use Rattle.shift_table.proofs.table.ShiftTable.len.Goals as goal

pub returns-clause-ordered : goal.returns-clause-ordered
returns-clause-ordered c =
    subst (IsStrictlySortedBy shift_cmp) c.self.view_is (sorted_shifts c.self.inside.hours.entries c.self.invariant c.len.ensures.ordered)

pub returns-clause-timetable : goal.returns-clause-timetable
returns-clause-timetable c = subst IsTimetable c.self.view_is c.self.invariant.timetable
