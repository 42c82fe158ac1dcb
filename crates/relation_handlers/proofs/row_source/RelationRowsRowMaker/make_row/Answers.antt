use Rattle.std.proofs.Common.{ap, sym, ◌∙◌, Some}
use Rattle.relation_tables.specs.RelationHandler.{column_formats}
use Rattle.relation_handlers.specs.Made.{relation_of, style_in}
use Rattle.relation_handlers.proofs.MadeLemmas.{as_many, row_made}
use Rattle.relation_handlers.proofs.row_source.RelationRowsRowMaker.make_row.Goals as goal

pub write_in_style-requires : goal.write_in_style-requires
write_in_style-requires c = record {
  same = as_many c.args.self.now c.as_slice-formats.result.now c.row.result.now
      (c.as_slice-formats.ensures ∙ c.deref.ensures ∙ c.self.invariant.each_format
      ∙ ap (λ m. column_formats m.formats (relation_of m).columns) c.self.view_is)
      c.row.ensures.wide;
  narrow = c.row.ensures.narrow;
}

pub returns-clause-item : goal.returns-clause-item
returns-clause-item c =
    λ e. row_made c.args.self.now c.as_slice-formats.result.now c.self.inside.style c.args.index c.row.result.now
    (c.as_slice-formats.ensures ∙ c.deref.ensures ∙ c.self.invariant.each_format
    ∙ ap (λ m. column_formats m.formats (relation_of m).columns) c.self.view_is)
    (c.self.invariant.style ∙ ap (λ m. style_in m.options) c.self.view_is) c.row.ensures.row
    ∙ ap Some (sym (c.write_in_style.ensures.item e))
