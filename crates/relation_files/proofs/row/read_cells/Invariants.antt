use Rattle.std.proofs.Common.{◌≡◌, ◌++◌, length, drop, map}
use Rattle.pg_interval.specs.Reading.{reading, Postgres}
use Rattle.relation_files.specs.Lines.{fields_of}
use Rattle.relation_files.specs.Told.{row_of, interval_or_zero}
use Rattle.relation_files.specs.Refusal.{cells_reason}
use Rattle.relation_files.proofs.row.read_cells.Given as goal

-- what is left of the cells behind those so far
abbrev pub invariant-loop-cell : goal.invariant-loop-cell
invariant-loop-cell l = record {
  row : l.row ++ map (λ cell. interval_or_zero (reading Postgres cell)) (drop (length l.yielded) (fields_of l.text)) ≡ row_of l.text;
  reason : cells_reason (drop (length l.yielded) (fields_of l.text)) ≡ cells_reason (fields_of l.text);
}
