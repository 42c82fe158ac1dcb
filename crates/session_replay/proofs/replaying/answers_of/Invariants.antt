use Rattle.std.proofs.Common.{◌≡◌, take}
use Rattle.pg_client.specs.Answer.{answers_of}
use Rattle.session_replay.proofs.replaying.answers_of.Given as goal

abbrev pub invariant-loop-call : goal.invariant-loop-call
invariant-loop-call l = l.answers ≡ answers_of (take l.call-index l.calls)
