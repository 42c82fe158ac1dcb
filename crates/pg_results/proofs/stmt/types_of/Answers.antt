use Rattle.std.proofs.Common.{arith}
use Rattle.std.proofs.lemmas.Grind.{common_steps}
use Rattle.std.proofs.lemmas.List.{map-append}
use Rattle.pg_results.proofs.stmt.types_of.Goals as goal

pub loop-oid-preserved : goal.loop-oid-preserved
loop-oid-preserved c = grind (arith, common_steps, map-append)
