use Rattle.std.proofs.Common.{◌≡◌, map, take, slice_index_or}
use Rattle.rota_report.specs.Columns.{zero_interval}
use Rattle.rota_report.proofs.columns.intervals_at.Given as goal

-- the column of the rows so far
abbrev pub invariant-loop-row : goal.invariant-loop-row
invariant-loop-row l = l.steps ≡ map (λ row. slice_index_or row l.place zero_interval) (take l.row-index l.relation.rows)
