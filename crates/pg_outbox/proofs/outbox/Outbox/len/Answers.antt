-- Whole chunks are counted by their number.
use Rattle.std.proofs.Common.{◌≡◌, length, arith}
use Rattle.pg_outbox.proofs.Cuts.{length_cut}
use Rattle.pg_outbox.proofs.outbox.Outbox.len.Goals as goal

pub returns : goal.returns
returns c =
    let inside : c.self.inside.whole.len ≡ length c.self.inside.whole.items = c.self.inside.whole.ok.0 in
    let count = length_cut c.self.inside.whole.items c.self.inside.last.items c.self.invariant.whole in
    rw (← c.self.view_is) (omega (arith, count, c.len.ensures, c.len-2.ensures.value))
