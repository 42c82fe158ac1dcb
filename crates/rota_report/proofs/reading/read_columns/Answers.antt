-- A relation file has few rows.
use Rattle.std.proofs.Common.{rules}
use Rattle.rota_report.proofs.FewRows.{few_steps}
use Rattle.rota_report.proofs.reading.read_columns.Goals as goal

pub returns : goal.returns
returns g c = record {
  read = search rules;
  few = few_steps _ _ _ c.in_ok-relations.ensures.ok c.args.first.relation.now c.args.first.column.now _ c.in_ok-steps.ensures.found;
  others_few = few_steps _ _ _ c.in_ok-relations.ensures.ok c.args.second.relation.now c.args.second.column.now _
      c.in_ok-others.ensures.found;
  never_falls = search rules;
}
