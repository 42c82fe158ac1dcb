use Rattle.std.proofs.Common.{◌≡◌, ◌↔◌}
use Rattle.pg_messages.proofs.SameBytes.{AreSameBelow}
use Rattle.pg_messages.proofs.secret_key.are_same.Given as goal

abbrev pub invariant-loop-i : goal.invariant-loop-i
invariant-loop-i l = (l.difference ≡ 0) ↔ AreSameBelow l.left l.right l.i
