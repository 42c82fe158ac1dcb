use Rattle.relation_handlers.specs.Tables.{AreRowsWithin}
use Rattle.relation_handlers.proofs.ReadSoFar.{ReadSo}
use Rattle.relation_handlers.proofs.within.visit_relations.Given as goal

abbrev pub invariant-loop-relation : goal.invariant-loop-relation
invariant-loop-relation l = ReadSo (λ r. AreRowsWithin r.rows) l.relations l.relation-index
