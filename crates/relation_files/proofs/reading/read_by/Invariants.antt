use Rattle.std.proofs.Common.{◌≤◌, ◌-◌, ◌+◌, vec_len}
use Rattle.relation_files.specs.Files.{Gave, file_limit}
use Rattle.relation_files.proofs.reading.read_by.Given as goal

-- what was read are the bytes that the file gave so far
abbrev pub invariant-reads : goal.invariant-reads
invariant-reads g l = record {
  gave : Gave (g.F.Source.left l.fn.file) (g.F.Source.left l.file) l.text.items;
  faults : g.F.Source.faults l.fn.file ≤ g.F.Source.faults l.file;
}

abbrev pub decreases-reads : goal.decreases-reads
decreases-reads g l = file_limit + 1 - vec_len l.text
