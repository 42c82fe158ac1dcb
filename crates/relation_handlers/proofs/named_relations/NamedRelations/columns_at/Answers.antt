use Rattle.std.proofs.Common.{◌∙◌, ap, length, arith}
use Rattle.relation_tables.specs.Relations.{relation_at}
use Rattle.relation_handlers.specs.Shared.{shared_columns}
use Rattle.relation_handlers.proofs.SharedLemmas.{columns_read}
use Rattle.relation_handlers.proofs.named_relations.NamedRelations.columns_at.Goals as goal

pub returns : goal.returns
returns c =
    columns_read c.self.inside.relations c.as_slice.result.now c.args.place c.index-as_slice-place.result
    (c.as_slice.ensures ∙ c.self.invariant.2) (omega (arith, ap length c.self.view_is)) c.index-as_slice-place.is
    ∙ ap (λ rs. shared_columns (relation_at rs c.args.place)) c.self.view_is
