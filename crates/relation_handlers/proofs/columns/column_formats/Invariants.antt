use Rattle.std.proofs.Common.{◌≡◌, ◌++◌, drop}
use Rattle.relation_tables.specs.RelationHandler.{column_formats, column_formats_from}
use Rattle.relation_handlers.proofs.columns.column_formats.Given as goal

abbrev pub invariant-loop-index : goal.invariant-loop-index
invariant-loop-index l = record {
  whole : l.all ++ column_formats_from l.formats l.index (drop l.index l.names) ≡ column_formats l.formats l.names;
}
