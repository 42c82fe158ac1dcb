use Rattle.std.proofs.Common.{◌≡◌}
use Rattle.cancel_stress.proofs.worker.workers.Given as goal

abbrev pub invariant-loop-place : goal.invariant-loop-place
invariant-loop-place g l = l.door.issuer ≡ l.initial.door.issuer
