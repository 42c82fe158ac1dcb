use Rattle.std.proofs.Common.{◌≡◌}
use Rattle.relation_demo.specs.Load as load
use Rattle.relation_demo.proofs.relations.columns.Given as goal

abbrev pub invariant-loop-column : goal.invariant-loop-column
invariant-loop-column l = l.columns ≡ load.each_below l.column load.column_name
