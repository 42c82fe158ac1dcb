use Rattle.std.proofs.Common.{◌≡◌, ◌≤◌, ◌-◌, length, drop}
use Rattle.std.specs.Str.{IsCharBoundary}
use Rattle.query_texts.specs.QueryTexts.{without_front_padding}
use Rattle.query_texts.proofs.trimming.front_padding.Given as goal

abbrev pub invariant-loop-start : goal.invariant-loop-start
invariant-loop-start l = record {
  within : l.start ≤ length l.bytes;
  boundary : IsCharBoundary l.bytes l.start;
  same : without_front_padding (drop l.start l.bytes) ≡ without_front_padding l.bytes;
}

abbrev pub decreases-loop-start : goal.decreases-loop-start
decreases-loop-start l = length l.initial.bytes - l.start
