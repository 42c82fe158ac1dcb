-- A shift more of the first rota.
use Rattle.rota_clashes.specs.Shifts.{BeginsIn, places}
use Rattle.rota_clashes.proofs.GainLemmas.{joined_more}
use Rattle.rota_clashes.proofs.pairs.push_begun.Goals as goal

pub loop-shift-preserved : goal.loop-shift-preserved
loop-shift-preserved c =
    let between = c.begun_between-begun.ensures in
    joined_more BeginsIn places c.args.first.now c.args.second.now c.begun_between-begun.result.now c.loop-shift.shift-index _
    c.loop-shift-test.true
    (λ b here. let is = between.each b here in (is.0, (is.1, is.2)))
    (λ b here so. between.all b here so.0 so.1)
    c.args.pairs.now.items c.loop-shift.pairs.items c.push_with_first.new.pairs.items c.loop-shift.invariant c.in_ok-push_with_first.ensures
