-- A shift more of the second rota.
use Rattle.std.proofs.Common.{arith}
use Rattle.rota_clashes.specs.Shifts.{BeginsLater, places_turned}
use Rattle.rota_clashes.proofs.GainLemmas.{joined_more}
use Rattle.rota_clashes.proofs.pairs.push_running.Goals as goal

pub loop-shift-preserved : goal.loop-shift-preserved
loop-shift-preserved c =
    let between = c.begun_between-begun.ensures in
    joined_more BeginsLater places_turned c.args.second.now c.args.first.now c.begun_between-begun.result.now c.loop-shift.shift-index _
    c.loop-shift-test.true
    (λ b here. let is = between.each b here in (is.0, (grind (arith, is, c.saturating_add.ensures), is.2)))
    (λ b here so. between.all b here (grind (arith, so, c.saturating_add.ensures)) so.1)
    c.args.pairs.now.items c.loop-shift.pairs.items c.push_with_second.new.pairs.items c.loop-shift.invariant
    c.in_ok-push_with_second.ensures
