-- There is one moment more than steps.
use Rattle.std.proofs.Common.{◌∙◌, ap, length}
use Rattle.rota_lines.proofs.LineLemmas.{one_more}
use Rattle.rota_lines.proofs.reports.report.Goals as goal

pub write_rota-requires-clause-one_more : goal.write_rota-requires-clause-one_more
write_rota-requires-clause-one_more g c =
    ap length c.as_slice.ensures ∙ one_more c.args.steps.now c.args.start c.in-Ok.moments c.in-Ok.ensures.moments
