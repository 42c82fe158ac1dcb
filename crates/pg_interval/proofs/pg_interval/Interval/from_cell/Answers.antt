use Rattle.std.proofs.Common.{◌∙◌, sym, ap, length, Some, arith, rules, FitsSigned}
use Rattle.std.specs.Int.{w32, w64}
use Rattle.std.proofs.Math.Facts.{to_z-of_z}
use Rattle.std.proofs.lemmas.List.{length-take}
use Rattle.pg_interval.specs.Cell.{interval_cell}
use Rattle.pg_interval.proofs.CellLemmas.{length-interval_cell, take_in_parts, interval_cell-injective}
use Rattle.pg_interval.proofs.pg_interval.Interval.from_cell.Goals as goal

pub returns-then-cell-lt16-clause-inverse : goal.returns-then-cell-lt16-clause-inverse
returns-then-cell-lt16-clause-inverse c i fits same =
    absurd (omega (arith, length-take 16 c.args.cell.now, ap length same, length-interval_cell i))

pub returns-clause-cell : goal.returns-clause-cell
unfolding interval_cell
returns-clause-cell c =
    let months : FitsSigned w32 c.int32_at.result = search rules in
    let days : FitsSigned w32 c.int32_at-2.result = search rules in
    let microseconds : FitsSigned w64 c.int64_at.result = search rules in
    simp (take_in_parts, to_z-of_z, c.int32_at.ensures, c.int32_at-2.ensures, c.int64_at.ensures)

pub returns-clause-inverse : goal.returns-clause-inverse
returns-clause-inverse c i fits same =
    ap Some (interval_cell-injective _ i (record {
      months = search rules;
      days = search rules;
      microseconds = search rules;
    }) fits (sym (returns-clause-cell c) ∙ same))
