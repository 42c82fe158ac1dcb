-- The place stands in one of the whole chunks, or in the last.
use Rattle.std.proofs.Common.{◌≡◌, ◌<◌, ◌≤◌, ◌+◌, ◌*◌, ◌/◌, ◌%◌, suc, [], ◌++◌, length, get_or, drop, arith, sym, ap, ◌∙◌, append-nil}
use Rattle.std.proofs.Math.Nat.{div-add-mod}
use Rattle.pg_outbox.specs.Chunks.{chunk_bytes}
use Rattle.pg_outbox.proofs.Cuts.{drop_cut, drop_end, place_in_last}
use Rattle.pg_outbox.proofs.outbox.Outbox.piece_at.Goals as goal

pub returns-then-place-len-clause-piece : goal.returns-then-place-len-clause-piece
returns-then-place-len-clause-piece c =
    let cs = c.self.inside.whole.items in
    let l = c.self.inside.last.items in
    let q = c.args.at / 65536 in
    let r = c.args.at % 65536 in
    let parts : 65536 * q + r ≡ c.args.at = div-add-mod c.args.at 65536 in
    let there : q < length cs = omega (arith, c.if-place-len.true, c.len.ensures, c.self.inside.whole.ok.0) in
    let piece : c.split_at.result.1.now ≡ drop r (get_or cs q c.index.result.now).items =
    c.split_at.ensures.back ∙ ap (drop r) (c.as_slice.ensures ∙ ap (λ x. x.items) c.index.ensures) in (
      chunk_bytes (drop (suc q) cs) ++ l,
      ap (drop c.args.at) (sym c.self.view_is) ∙ ap (λ n. drop n (chunk_bytes cs ++ l)) (sym parts)
          ∙ drop_cut q r cs l c.index.result.now c.self.invariant.whole there (omega arith)
          ∙ ap (λ t. t ++ (chunk_bytes (drop (suc q) cs) ++ l)) (sym piece),
    )

pub split_at-requires-2 : goal.split_at-requires-2
split_at-requires-2 c =
    let place = place_in_last c.args.at c.self.inside.whole.items c.self.inside.last.items c.args.self.now c.self.invariant c.self.view_is
    c.requires (omega (arith, c.if-place-len.false, c.len.ensures, c.self.inside.whole.ok.0)) in
    omega (arith, place.1, ap length c.as_slice-2.ensures)

pub returns-clause-some : goal.returns-clause-some
returns-clause-some c =
    let place = place_in_last c.args.at c.self.inside.whole.items c.self.inside.last.items c.args.self.now c.self.invariant c.self.view_is
    c.requires (omega (arith, c.if-place-len.false, c.len.ensures, c.self.inside.whole.ok.0)) in
    omega (arith, place.1, ap length c.as_slice-2.ensures, c.split_at-2.ensures.back_len)

pub returns-clause-piece : goal.returns-clause-piece
returns-clause-piece c =
    let place = place_in_last c.args.at c.self.inside.whole.items c.self.inside.last.items c.args.self.now c.self.invariant c.self.view_is
    c.requires (omega (arith, c.if-place-len.false, c.len.ensures, c.self.inside.whole.ok.0)) in
    let r = c.args.at % 65536 in (
      [],
      ap (drop c.args.at) (sym c.self.view_is)
          ∙ drop_end c.args.at r c.self.inside.whole.items c.self.inside.last.items c.self.invariant.whole place.0
          ∙ ap (drop r) (sym c.as_slice-2.ensures) ∙ sym c.split_at-2.ensures.back ∙ sym (append-nil c.split_at-2.result.1.now),
    )
