use Rattle.std.proofs.Common.{◌≡◌, ◌≤◌, ◌-◌, length, take, drop}
use Rattle.std.specs.List.{slice_split}
use Rattle.pg_results.specs.Texts.{is_whitespace}
use Rattle.query_texts.proofs.WordLemmas.{prepend}
use Rattle.query_texts.proofs.words.word_len.Given as goal

abbrev pub invariant-loop-len : goal.invariant-loop-len
invariant-loop-len l = record {
  within : l.len ≤ length l.bytes;
  whole : prepend (take l.len l.bytes) (slice_split is_whitespace (drop l.len l.bytes)) ≡ slice_split is_whitespace l.bytes;
}

abbrev pub decreases-loop-len : goal.decreases-loop-len
decreases-loop-len l = length l.initial.bytes - l.len
