use Rattle.std.proofs.Common.{◌≡◌, ◌==◌, ◌+◌, length, drop, map}
use Rattle.std.specs.List.{slice_split}
use Rattle.std.specs.Str.Lines.{strip_carriage_return}
use Rattle.relation_files.specs.Lines.{lines_of}
use Rattle.relation_files.specs.Told.{relations_of}
use Rattle.relation_files.specs.Refusal.{first_bad_line}
use Rattle.relation_files.specs.Reader.{all_after}
use Rattle.relation_files.proofs.Steps.{bad_line_after}
use Rattle.relation_files.proofs.file.relations_in.Given as goal

-- the lines that are left, behind those so far
abbrev pub invariant-loop-line : goal.invariant-loop-line
invariant-loop-line l = record {
  count : l.number ≡ length l.yielded;
  told : all_after l.reader (map strip_carriage_return (drop (length l.yielded) (slice_split (λ byte. byte == 10) l.text)))
      ≡ relations_of (lines_of l.text);
  first : bad_line_after (length l.yielded + 1) l.reader
      (map strip_carriage_return (drop (length l.yielded) (slice_split (λ byte. byte == 10) l.text)))
      ≡ first_bad_line (lines_of l.text);
}
