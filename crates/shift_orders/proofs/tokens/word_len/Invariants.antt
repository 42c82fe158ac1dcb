use Rattle.std.proofs.Common.{◌≤◌, ◌-◌, length, take}
use Rattle.shift_orders.proofs.Scanning.{AreWordBytes}
use Rattle.shift_orders.proofs.tokens.word_len.Given as goal

abbrev pub invariant-loop-len : goal.invariant-loop-len
invariant-loop-len l = record {
  within : l.len ≤ length l.bytes;
  word : AreWordBytes (take l.len l.bytes);
}

abbrev pub decreases-loop-len : goal.decreases-loop-len
decreases-loop-len l = length l.initial.bytes - l.len
