use Rattle.std.proofs.Common.{ap, ◌∙◌, length, arith}
use Rattle.relation_tables.specs.RelationHandler.{column_formats}
use Rattle.relation_handlers.proofs.ColumnLemmas.{formats_end, formats_len}
use Rattle.relation_handlers.proofs.columns.column_formats.Goals as goal

pub returns-clause-length : goal.returns-clause-length
returns-clause-length c =
    let formats = c.args.formats.now in
    let names = c.args.names.now in
    ap length (formats_end formats c.loop-index.all (column_formats formats names) names c.loop-index.index (omega arith)
    c.loop-index.invariant.whole) ∙ formats_len formats 0 names
