use Rattle.std.proofs.Common.{◌+◌, ◌*◌, arith, ap, sym, ◌∙◌}
use Rattle.relation_demo.specs.Draws.{after}
use Rattle.relation_demo.specs.Load as load
use Rattle.relation_demo.proofs.DrawLemmas.{after-none, after-more, each_below-more}
use Rattle.relation_demo.proofs.relations.rows.Goals as goal

pub rows-init : goal.rows-init
rows-init c = record { rows = c.new-rows.ensures; after = sym (after-none c.args.draws.now) ∙ ap (after c.args.draws.now) (omega arith) }

pub rows-preserved : goal.rows-preserved
rows-preserved c =
    let x = c.args.draws.now in
    let width = c.args.width in
    let k = c.rows.counter in
    record {
      rows = each_below-more (λ n. load.row (after x (3 * width * n)) width) k c.rows.rows c.push.new.self c.in_ok-row.field-0
          c.rows.invariant.rows
          c.in_ok-push.ensures.ok (c.in_ok-row.ensures.row ∙ ap (λ y. load.row y width) c.rows.invariant.after);
      after = after-more x (3 * width * k) (3 * width) (3 * width * (k + 1)) c.rows.draws c.row.new.draws c.rows.invariant.after
          c.in_ok-row.ensures.after (omega arith);
    }
