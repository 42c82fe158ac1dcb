use Rattle.std.proofs.Common.{◌≡◌, ◌≤◌, ◌-◌, length, drop}
use Rattle.std.specs.Str.{IsCharBoundary}
use Rattle.shift_orders.specs.Tokens.{tokens}
use Rattle.shift_orders.proofs.tokens.front_whitespace.Given as goal

abbrev pub invariant-loop-start : goal.invariant-loop-start
invariant-loop-start l = record {
  within : l.start ≤ length l.bytes;
  boundary : IsCharBoundary l.bytes l.start;
  same : tokens (drop l.start l.bytes) ≡ tokens l.bytes;
}

abbrev pub decreases-loop-start : goal.decreases-loop-start
decreases-loop-start l = length l.initial.bytes - l.start
