use Rattle.std.proofs.Common.{◌≡◌, ◌++◌, map, take}
use Rattle.rota_clashes.specs.declared.shifts.Shift.{Shift}
use Rattle.rota_clashes.proofs.pairs.push_with_second.Given as goal

abbrev pub invariant-loop-other : goal.invariant-loop-other
invariant-loop-other l =
    l.pairs.items ≡ l.initial.pairs.items ++ map (λ (other : Shift). (other.place, l.place)) (take l.other-index l.others)
