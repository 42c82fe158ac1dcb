-- The first chunk is the first of the whole ones, or the last.
use Rattle.std.proofs.Common.{◌<◌, take, length, arith, refl, sym, ap, ◌∙◌}
use Rattle.pg_outbox.proofs.Cuts.{take_first, take_last}
use Rattle.pg_outbox.proofs.outbox.Outbox.front.Goals as goal

pub returns-in-Some-clause-front : goal.returns-in-Some-clause-front
returns-in-Some-clause-front c =
    let filled : 0 < length c.self.inside.whole.items = omega (arith, c.in-Some.ensures.variant.0 refl, c.self.inside.whole.ok.0) in
    c.as_slice.ensures ∙ ap (λ x. x.items) c.in-Some.ensures.lookup
    ∙ sym (take_first c.self.inside.whole.items c.self.inside.last.items c.in-Some.chunk.now c.self.invariant.whole filled)
    ∙ ap (λ t. take 65536 t) c.self.view_is

pub returns-clause-front : goal.returns-clause-front
returns-clause-front c =
    c.as_slice-2.ensures
    ∙ sym (take_last c.self.inside.whole.items c.self.inside.last.items c.in_default.ensures.item.3 c.self.invariant.last)
    ∙ ap (λ t. take 65536 t) c.self.view_is
