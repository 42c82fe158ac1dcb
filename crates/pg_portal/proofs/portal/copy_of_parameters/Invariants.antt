use Rattle.std.proofs.Common.{◌≡◌, take}
use Rattle.pg_portal.proofs.portal.copy_of_parameters.Given as goal

-- the parameters so far are copied
abbrev pub invariant-loop-parameter : goal.invariant-loop-parameter
invariant-loop-parameter l = l.copy ≡ take l.parameter-index l.parameters
