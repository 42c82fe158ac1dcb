use Rattle.relation_demo.specs.Load as load
use Rattle.relation_demo.proofs.DrawLemmas.{each_below-more}
use Rattle.relation_demo.proofs.relations.columns.Goals as goal

pub loop-column-preserved : goal.loop-column-preserved
loop-column-preserved c = each_below-more load.column_name c.loop-column.column c.loop-column.columns c.push.new.self
    c.in_ok-numbered.field-0
    c.loop-column.invariant c.in_ok-push.ensures.ok c.in_ok-numbered.ensures
