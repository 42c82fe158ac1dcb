use Rattle.std.proofs.Common.{◌≡◌, ◌≤◌, ◌-◌, length, drop}
use Rattle.std.specs.Str.{IsCharBoundary}
use Rattle.query_texts.specs.QueryTexts.{words}
use Rattle.query_texts.proofs.words.front_whitespace.Given as goal

abbrev pub invariant-loop-start : goal.invariant-loop-start
invariant-loop-start l = record {
  within : l.start ≤ length l.bytes;
  boundary : IsCharBoundary l.bytes l.start;
  same : words (drop l.start l.bytes) ≡ words l.bytes;
}

abbrev pub decreases-loop-start : goal.decreases-loop-start
decreases-loop-start l = length l.initial.bytes - l.start
