use Rattle.std.proofs.Common.{arith}
use Rattle.std.proofs.lemmas.Grind.{common_steps}
use Rattle.std.proofs.lemmas.List.{map-append}
use Rattle.pg_replies.proofs.send.oids.Goals as goal

pub loop-ty-preserved : goal.loop-ty-preserved
loop-ty-preserved c = grind (arith, common_steps, map-append)
