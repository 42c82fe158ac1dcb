use Rattle.std.proofs.Common.{◌≡◌, ◌++◌, length, drop}
use Rattle.relation_files.specs.Lines.{fields_of}
use Rattle.relation_files.proofs.header.copy_fields.Given as goal

-- behind the copies is what is left of the fields
abbrev pub invariant-loop-field : goal.invariant-loop-field
invariant-loop-field l = l.copies ++ drop (length l.yielded) (fields_of l.text) ≡ fields_of l.text
