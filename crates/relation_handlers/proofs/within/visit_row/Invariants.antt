use Rattle.pg_interval.specs.Cell.{IsInterval}
use Rattle.relation_handlers.proofs.ReadSoFar.{ReadSo}
use Rattle.relation_handlers.proofs.within.visit_row.Given as goal

abbrev pub invariant-loop-interval : goal.invariant-loop-interval
invariant-loop-interval l = ReadSo IsInterval l.row l.interval-index
