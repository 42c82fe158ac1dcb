-- The cut falls into the last chunk, or into one before it, which becomes the last.
use Rattle.std.proofs.Common.{◌≡◌, ◌<◌, ◌+◌, ◌*◌, ◌/◌, ◌%◌, length, take, arith, sym, ap, ◌∙◌, ◌-◌}
use Rattle.std.proofs.Math.Nat.{div-add-mod}
use Rattle.pg_outbox.proofs.Cuts.{take_end, take_back}
use Rattle.pg_outbox.proofs.outbox.Outbox.truncate.Goals as goal
use Rattle.pg_outbox.proofs.outbox.Outbox.truncate.Goals.{in-Some, in_default}

pub returns-then-before-len : goal.returns-then-before-len
returns-then-before-len c =
    take_end c.args.len c.len-before.result c.self.inside.whole.items c.self.inside.last.items c.truncate.new.self.items
    c.self.invariant.whole (c.len-before.ensures ∙ c.self.inside.whole.ok.0) c.if-before-len.true c.truncate.ensures.items
    ∙ ap (λ t. take c.args.len t) c.self.view_is

pub returns : goal.returns
returns c = elim c.match-pop_back.branch [
  | in-Some w ↦
      let inside : c.self.inside.whole.len ≡ length c.self.inside.whole.items = c.self.inside.whole.ok.0 in
      let parts : 65536 * (c.args.len / 65536) + c.args.len % 65536 ≡ c.args.len = div-add-mod c.args.len 65536 in
      let before : c.args.len / 65536 < length c.self.inside.whole.items = omega (arith, c.len-before.ensures) in
      let kept : c.truncate-2.new.self.len - 1 ≡ c.args.len / 65536 = omega (arith, c.truncate-2.ensures.len) in
      take_back c.args.len (c.args.len / 65536) (c.args.len % 65536) (c.truncate-2.new.self.len - 1) (c.args.len / 65536 + 1)
      c.self.inside.whole.items c.truncate-2.new.self.items c.settle.new.chunks.items c.self.inside.last.items c.truncate-3.new.self.items
      w.in-Some.chunk c.self.invariant.whole before (omega arith) (sym parts) (omega arith) kept c.truncate-2.ensures.items
      (c.settle.ensures ∙ ap (λ i. i.whole.items) w.self-inside-is ∙ c.pop_back.ensures.rest)
      w.in-Some.ensures.lookup
      (c.truncate-3.ensures.items ∙ ap (λ i. take (c.args.len % 65536) i.last.items) w.self-inside-is)
      ∙ ap (λ t. take c.args.len t) c.self.view_is
  | in_default w ↦ absurd (omega (arith, c.truncate-2.ensures.len, w.in_default.ensures.cases.0, c.len-before.ensures))
]
