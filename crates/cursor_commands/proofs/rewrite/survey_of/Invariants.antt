use Rattle.std.proofs.Common.{◌+◌, ◌≤◌, length}
use Rattle.cursor_commands.proofs.ReplyLemmas.{AreSeen}
use Rattle.cursor_commands.proofs.rewrite.survey_of.Given as goal

abbrev pub invariant-loop-rest : goal.invariant-loop-rest
invariant-loop-rest l = AreSeen l.replies l.rest l.survey.failed l.survey.rows × (l.survey.rows + length l.rest ≤ length l.replies)

abbrev pub decreases-loop-rest : goal.decreases-loop-rest
decreases-loop-rest l = length l.rest
