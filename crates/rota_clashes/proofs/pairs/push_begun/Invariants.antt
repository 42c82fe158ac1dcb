use Rattle.std.proofs.Common.{take}
use Rattle.rota_clashes.specs.Gains.{Gains}
use Rattle.rota_clashes.specs.Shifts.{IsBegun}
use Rattle.rota_clashes.proofs.pairs.push_begun.Given as goal

abbrev pub invariant-loop-shift : goal.invariant-loop-shift
invariant-loop-shift l = Gains l.initial.pairs.items l.pairs.items (IsBegun (take l.shift-index l.first) l.second)
