use Rattle.std.proofs.Common.{◌≡◌, ◌≤◌, take}
use Rattle.conversation_table.specs.Questions.{questions}
use Rattle.session_replay.proofs.replaying.questions_in.Given as goal

abbrev pub invariant-loop-call : goal.invariant-loop-call
invariant-loop-call l = record {
  so_far : l.questions ≡ questions (take l.call-index l.calls);
  few : l.questions ≤ l.call-index;
}
