use Rattle.std.proofs.Common.{◌≡◌, ◌∙◌, ◌∷◌, [], Ok, Err, ap, sym, refl, subst, arith, replicate}
use Rattle.std.specs.List.{AllByRecursion}
use Rattle.pg_results.specs.Rows.{IsSendable}
use Rattle.sample_handlers.specs.Told.{first_row, second_row, division_by_zero}
use Rattle.sample_handlers.proofs.LongRows.{row_more, long_ended}
use Rattle.sample_handlers.proofs.rows.long_rows.Goals as goal

pub loop-init : goal.loop-init
loop-init c = record { rows = c.new-items.ensures; sendable = subst (AllByRecursion IsSendable) (sym c.new-items.ensures) tt }

pub loop-preserved : goal.loop-preserved
loop-preserved c = record {
  rows = c.in_ok-push_first.ensures.ok
      ∙ row_more (first_row c.args.format) (first_row c.args.format) c.loop.counter c.loop.items c.loop.invariant.rows refl;
  sendable = c.in_ok-push_first.ensures.sendable c.loop.invariant.sendable;
}

pub new-requires : goal.new-requires
new-requires c = c.in_ok-push_row.ensures.sendable (c.in_ok-push_error.ensures.sendable c.loop.invariant.sendable)

pub returns : goal.returns
returns c =
    let ended : c.loop.counter ≡ c.args.count = omega (arith, c.loop-test.false, c.loop.auto.counter-end) in
    let rows = c.loop.invariant.rows ∙ ap (λ n. replicate n (Ok (first_row c.args.format))) ended in
    c.new.ensures ∙ c.in_ok-push_row.ensures.ok
    ∙ long_ended (replicate c.args.count (Ok (first_row c.args.format))) c.loop.items c.push_error.new.items division_by_zero
    division_by_zero second_row second_row rows c.in_ok-push_error.ensures.ok refl refl
