use Rattle.std.proofs.Common.{◌≤◌, ◌-◌, ◌+◌, vec_len}
use Rattle.relation_files.specs.Files.{Gave}
use Rattle.pg_replay.specs.Program.{input_limit}
use Rattle.pg_replay.proofs.input.read_by.Given as goal

-- what was read are the bytes that the input gave so far
abbrev pub invariant-reads : goal.invariant-reads
invariant-reads g l = record {
  gave : Gave (g.S.Source.left l.fn.input) (g.S.Source.left l.input) l.text.items;
  faults : g.S.Source.faults l.fn.input ≤ g.S.Source.faults l.input;
}

abbrev pub decreases-reads : goal.decreases-reads
decreases-reads g l = input_limit + 1 - vec_len l.text
