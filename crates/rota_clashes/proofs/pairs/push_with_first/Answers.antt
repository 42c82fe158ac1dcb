-- A pair more of this place of the first rota.
use Rattle.std.proofs.Common.{sym}
use Rattle.std.proofs.lemmas.List.{append-nil}
use Rattle.std.proofs.lemmas.Result.{err_from_is_err_and}
use Rattle.rota_clashes.specs.declared.shifts.Shift.{Shift}
use Rattle.rota_clashes.proofs.GainLemmas.{images_more, images_all}
use Rattle.rota_clashes.proofs.pairs.push_with_first.Goals as goal

pub loop-other-init : goal.loop-other-init
loop-other-init c = sym (append-nil c.args.pairs.now.items)

pub loop-other-preserved : goal.loop-other-preserved
loop-other-preserved c =
    images_more (λ (other : Shift). (c.args.place, other.place)) c.args.others.now c.loop-other.other-index _ c.args.pairs.now.items
    c.loop-other.pairs.items c.push.new.self.items c.loop-other-test.true c.loop-other.invariant c.in_ok-push.ensures.items

pub returns-in_err-push : goal.returns-in_err-push
returns-in_err-push c = let p = err_from_is_err_and c.from_residual.result c.from_residual.ensures.1 in rw p.1 tt

pub returns : goal.returns
returns c =
    images_all (λ (other : Shift). (c.args.place, other.place)) c.args.others.now c.loop-other.other-index c.args.pairs.now.items
    c.loop-other.pairs.items c.loop-other-test.false c.loop-other.invariant
