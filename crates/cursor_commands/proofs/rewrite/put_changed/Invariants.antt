use Rattle.std.proofs.Common.{length}
use Rattle.cursor_commands.specs.Rewriting.{changed}
use Rattle.cursor_commands.proofs.WriteLemmas.{AreWritten}
use Rattle.cursor_commands.proofs.rewrite.put_changed.Given as goal

abbrev pub invariant-loop-rest : goal.invariant-loop-rest
invariant-loop-rest l = AreWritten (changed l.change) l.replies l.rest l.initial.out.items l.out.items

abbrev pub decreases-loop-rest : goal.decreases-loop-rest
decreases-loop-rest l = length l.rest
