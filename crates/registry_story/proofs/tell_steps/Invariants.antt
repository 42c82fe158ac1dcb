use Rattle.std.proofs.Common.{◌≡◌}
use Rattle.registry_story.proofs.tell_steps.Given as goal

abbrev pub invariant-loop-step : goal.invariant-loop-step
invariant-loop-step g l = l.door.issuer ≡ l.manager
