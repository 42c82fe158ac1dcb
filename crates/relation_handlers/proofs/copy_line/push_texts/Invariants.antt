use Rattle.std.proofs.Common.{◌≡◌, ◌≤◌, ◌*◌, Ok, length, map}
use Rattle.relation_tables.specs.RelationHandler.{all_or_error, text_of}
use Rattle.relation_handlers.specs.Values.{tab_joined}
use Rattle.relation_handlers.proofs.CopyLineLemmas.{finish_line, texts_from}
use Rattle.relation_handlers.proofs.copy_line.push_texts.Given as goal

abbrev pub invariant-loop-index : goal.invariant-loop-index
invariant-loop-index l = record {
  whole : finish_line l.payload.items l.index (texts_from (text_of (Ok l.style)) l.row l.index)
      ≡ tab_joined (all_or_error (map (text_of (Ok l.style)) l.row));
  short : length l.payload.items ≤ 4100 * l.index;
}
