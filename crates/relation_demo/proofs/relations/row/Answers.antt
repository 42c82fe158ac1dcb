use Rattle.std.proofs.Common.{◌+◌, ◌*◌, arith, ap, sym, ◌∙◌}
use Rattle.relation_demo.specs.Draws.{after}
use Rattle.relation_demo.specs.Load as load
use Rattle.relation_demo.proofs.DrawLemmas.{after-none, after-more, each_below-more}
use Rattle.relation_demo.proofs.relations.row.Goals as goal

pub cells-init : goal.cells-init
cells-init c = record { row = c.new-row.ensures; after = sym (after-none c.args.draws.now) }

pub cells-preserved : goal.cells-preserved
cells-preserved c =
    let x = c.args.draws.now in
    let k = c.cells.counter in
    record {
      row = each_below-more (λ n. load.cell (after x (3 * n))) k c.cells.row c.push.new.self c.cell.result c.cells.invariant.row
          c.in_ok-push.ensures.ok (c.cell.ensures.cell ∙ ap load.cell c.cells.invariant.after);
      after = after-more x (3 * k) 3 (3 * (k + 1)) c.cells.draws c.cell.new.draws c.cells.invariant.after c.cell.ensures.after
          (omega arith);
    }
