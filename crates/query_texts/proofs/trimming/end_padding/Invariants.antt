use Rattle.std.proofs.Common.{◌≡◌, ◌≤◌, length, take}
use Rattle.std.specs.Str.{IsCharBoundary}
use Rattle.query_texts.specs.QueryTexts.{without_end_padding}
use Rattle.query_texts.proofs.trimming.end_padding.Given as goal

abbrev pub invariant-loop-end : goal.invariant-loop-end
invariant-loop-end l = record {
  within : l.end ≤ length l.bytes;
  boundary : IsCharBoundary l.bytes l.end;
  same : without_end_padding (take l.end l.bytes) ≡ without_end_padding l.bytes;
}

abbrev pub decreases-loop-end : goal.decreases-loop-end
decreases-loop-end l = l.end
