use Rattle.std.proofs.Common.{◌≡◌, ◌++◌, drop, map, string_bytes}
use Rattle.std.specs.Vec.Iter.{into_iter_items, into_iter_len}
use Rattle.program_io.proofs.words.words_behind.Given as goal

-- the words so far, and those to come, are all behind the first
abbrev pub invariant-behind : goal.invariant-behind
invariant-behind l = l.words ++ map string_bytes (into_iter_items l.args) ≡ map string_bytes (drop 1 (into_iter_items l.fn.args))

abbrev pub decreases-behind : goal.decreases-behind
decreases-behind l = into_iter_len l.args
