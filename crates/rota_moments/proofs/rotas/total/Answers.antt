-- A step more is added, or its sum is no interval.
use Rattle.std.proofs.Common.{◌+◌, sym, subst}
use Rattle.pg_interval.specs.declared.pg_interval.Interval.{Interval}
use Rattle.rota_moments.proofs.RotaLemmas.{AreSums, sums-more, no_sum, one_sum}
use Rattle.rota_moments.proofs.rotas.total.Goals as goal

pub returns-in-None : goal.returns-in-None
returns-in-None c =
    let i = c.loop-place.invariant in (
      c.loop-place-test.true,
      i.1,
      no_sum c.loop-place.sum c.args.steps.now c.loop-place.place _ c.loop-place-test.true i.0
          c.in-None.ensures,
    )

pub loop-place-preserved : goal.loop-place-preserved
loop-place-preserved c =
    let i = c.loop-place.invariant in
    let P : Interval → Type 0 = λ sum. AreSums sum c.args.steps.now (c.loop-place.place + 1) in (
      subst P (sym c.in-Some.ensures.1) (sums-more c.loop-place.sum c.args.steps.now c.loop-place.place _ c.loop-place-test.true i.0),
      one_sum c.loop-place.sum c.args.steps.now c.loop-place.place _ c.loop-place-test.true i.0 c.in-Some.ensures.0 i.1,
    )
