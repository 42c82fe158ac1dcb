use Rattle.std.proofs.Common.{◌≡◌, ap, sym, ◌∙◌, Some, slice_get}
use Rattle.std.proofs.lemmas.Result.{IfOk-weaker}
use Rattle.relation_tables.specs.RelationHandler.{column_formats, row_item}
use Rattle.relation_handlers.specs.Made.{relation_of, row_items, style_in}
use Rattle.relation_handlers.proofs.MadeLemmas.{as_many, row_made}
use Rattle.relation_handlers.proofs.row_source.RelationRowsRowMaker.make.Goals as goal

pub row_item-requires : goal.row_item-requires
row_item-requires c = record {
  same = as_many c.args.self.now c.as_slice-formats.result.now c.row.result.now
      (c.as_slice-formats.ensures ∙ c.deref.ensures ∙ c.self.invariant.each_format
      ∙ ap (λ m. column_formats m.formats (relation_of m).columns) c.self.view_is)
      c.row.ensures.wide;
  narrow = c.row.ensures.narrow;
}

pub returns-clause-item : goal.returns-clause-item
returns-clause-item c =
    let m = c.args.self.now in
    let formats = c.as_slice-formats.result.now in
    let row = c.row.result.now in
    IfOk-weaker c.row_item.result (λ item. item ≡ row_item c.self.inside.style formats row)
    (λ item. slice_get (row_items m) c.args.index ≡ Some item)
    (λ item e. row_made m formats c.self.inside.style c.args.index row
    (c.as_slice-formats.ensures ∙ c.deref.ensures ∙ c.self.invariant.each_format
    ∙ ap (λ m. column_formats m.formats (relation_of m).columns) c.self.view_is)
    (c.self.invariant.style ∙ ap (λ m. style_in m.options) c.self.view_is) c.row.ensures.row ∙ ap Some (sym e))
    c.row_item.ensures.item
