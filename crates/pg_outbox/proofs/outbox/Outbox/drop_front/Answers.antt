-- The first chunk goes.
use Rattle.std.proofs.Common.{◌<◌, ◌≤◌, ◌++◌, drop, length, arith, refl, sym, ap, ◌∙◌}
use Rattle.pg_outbox.specs.Chunks.{chunk_bytes}
use Rattle.pg_outbox.proofs.Cuts.{drop_first, drop_last}
use Rattle.pg_outbox.proofs.outbox.Outbox.drop_front.Goals as goal

pub returns-in-Some : goal.returns-in-Some
returns-in-Some c =
    let filled : 0 < length c.self.inside.whole.items = omega (arith, c.in-Some.ensures.variant.0 refl, c.self.inside.whole.ok.0) in
    ap (λ cs. chunk_bytes cs ++ c.self.inside.last.items) (c.settle.ensures ∙ c.pop_front.ensures.rest)
    ∙ sym (drop_first c.self.inside.whole.items c.self.inside.last.items c.self.invariant.whole filled)
    ∙ ap (λ t. drop 65536 t) c.self.view_is

pub returns-in-None : goal.returns-in-None
returns-in-None c =
    let none : length c.self.inside.whole.items ≤ 0 = omega (arith, c.in-None.ensures.cases.0, c.self.inside.whole.ok.0) in
    ap (λ cs. chunk_bytes cs ++ c.clear.new.self.items) c.pop_front.ensures.rest
    ∙ drop_last c.self.inside.whole.items c.self.inside.last.items c.clear.new.self.items none c.self.invariant.last c.clear.ensures.items
    ∙ ap (λ t. drop 65536 t) c.self.view_is
