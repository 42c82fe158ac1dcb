use Rattle.std.proofs.Common.{◌≡◌}
use Rattle.std.specs.FinMap as fin
use Rattle.std.specs.Vec.Iter.{into_iter_items}
use Rattle.pg_client.specs.StartupRows.{with_parameters}
use Rattle.pg_startup.proofs.startup.metadata_of.Given as goal

-- what is left makes of the parameters so far what all make of none
abbrev pub invariant-loop-name : goal.invariant-loop-name
invariant-loop-name l = with_parameters l.metadata (into_iter_items l.name-iterator) ≡ with_parameters fin.empty l.fn.message.parameters
