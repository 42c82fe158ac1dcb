use Rattle.std.proofs.Common.{ap, ◌∙◌}
use Rattle.relation_handlers.specs.Made.{relation_of}
use Rattle.relation_handlers.proofs.MadeLemmas.{row_kept}
use Rattle.relation_handlers.proofs.row_source.RelationRows.row.Goals as goal

pub returns-clause-row : goal.returns-clause-row
returns-clause-row c =
    row_kept c.args.self.now c.as_slice-rows.result.now c.args.index c.index-rows-index.result c.as_slice.result.now
    (c.as_slice-rows.ensures ∙ c.self.invariant.rows ∙ ap (λ m. (relation_of m).rows) c.self.view_is) c.requires c.index-rows-index.is
    c.as_slice.ensures
