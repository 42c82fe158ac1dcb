use Rattle.relation_handlers.specs.Tables.{IsRowWithin}
use Rattle.relation_handlers.proofs.ReadSoFar.{ReadSo}
use Rattle.relation_handlers.proofs.within.visit_rows.Given as goal

abbrev pub invariant-loop-row : goal.invariant-loop-row
invariant-loop-row l = ReadSo IsRowWithin l.rows l.row-index
