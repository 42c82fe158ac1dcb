use Rattle.std.proofs.Common.{take}
use Rattle.rota_clashes.specs.Gains.{Gains}
use Rattle.rota_clashes.specs.Shifts.{IsRunning}
use Rattle.rota_clashes.proofs.pairs.push_running.Given as goal

abbrev pub invariant-loop-shift : goal.invariant-loop-shift
invariant-loop-shift l = Gains l.initial.pairs.items l.pairs.items (IsRunning l.first (take l.shift-index l.second))
