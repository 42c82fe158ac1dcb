use Rattle.std.proofs.Common.{◌+◌, ◌*◌, ◌∙◌, ap}
use Rattle.relation_demo.specs.Load as load
use Rattle.relation_demo.proofs.DrawLemmas.{after-more}
use Rattle.relation_demo.proofs.LoadLemmas.{head_of, relation_from}
use Rattle.relation_demo.proofs.relations.relation.Goals as goal

pub returns-clause-relation : goal.returns-clause-relation
returns-clause-relation c =
    let x = c.args.draws.now in
    let head = head_of x c.below-unready.result c.below-width.result c.below-height.result c.below-unready.new.self c.below-width.new.self
    c.below-height.new.self c.below-unready.ensures.draw c.below-unready.ensures.after c.below-width.ensures.draw
    c.below-width.ensures.after
    c.below-height.ensures.draw c.below-height.ensures.after in
    relation_from x c.args.number c.in_ok-numbered.field-0 c.below-unready.result c.in_ok-columns.field-0 c.in_ok-rows.field-0
    c.in_ok-numbered.ensures head.unready (c.in_ok-columns.ensures ∙ ap (λ n. load.each_below n load.column_name) head.width)
    (c.in_ok-rows.ensures.rows ∙ (λ k. load.rows (head.rest k) (head.width k) (head.height k)))

pub returns-clause-after : goal.returns-clause-after
returns-clause-after c =
    let x = c.args.draws.now in
    let head = head_of x c.below-unready.result c.below-width.result c.below-height.result c.below-unready.new.self c.below-width.new.self
    c.below-height.new.self c.below-unready.ensures.draw c.below-unready.ensures.after c.below-width.ensures.draw
    c.below-width.ensures.after
    c.below-height.ensures.draw c.below-height.ensures.after in
    after-more x 3 (3 * (1 + c.below-width.result) * c.below-height.result) (load.draws x) c.below-height.new.self c.rows.new.draws
    head.rest
    c.in_ok-rows.ensures.after (λ k. 3 + 3 * head.width k * head.height k)
