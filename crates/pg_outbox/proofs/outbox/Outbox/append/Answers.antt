use Rattle.std.proofs.Common.{◌≡◌, ℕ, List, [], ◌++◌, length, take, refl, sym, ap, ◌∙◌, append_assoc, length-drop, arith}
use Rattle.std.proofs.lemmas.List.{append-nil, take-append-drop}
use Rattle.std.proofs.lemmas.Result.{err_from_is_err_and, on_err_weaker, on_ok_weaker}
use Rattle.std.proofs.Math.Seq.{take-append_seam}
use Rattle.pg_outbox.proofs.outbox.Outbox.append.Goals as goal

-- what was there stays in front of what was appended
stays : (old done new mid : List ℕ) → mid ≡ old ++ done → new ≡ mid → take (length old) new ≡ old
stays old done new mid so same = ap (take (length old)) (same ∙ so) ∙ take-append_seam old done

pub loop-rest-init : goal.loop-rest-init
loop-rest-init c = ([], sym (append-nil c.args.self.now), refl)

pub loop-rest-preserved : goal.loop-rest-preserved
loop-rest-preserved c =
    let i = c.loop-rest.invariant in let piece = c.split_at.result.0.now in let back = c.split_at.result.1.now in
    let whole : piece ++ back ≡ c.loop-rest.rest.now = rw (c.split_at.ensures.front, c.split_at.ensures.back) (take-append-drop 65536 _) in (
      i.0 ++ piece,
      c.in_ok-append_piece.ensures.ok ∙ ap (λ l. l ++ piece) i.1 ∙ append_assoc c.args.self.now i.0 piece,
      append_assoc i.0 piece back ∙ ap (λ l. i.0 ++ l) whole ∙ i.2,
    )

pub loop-rest-smaller : goal.loop-rest-smaller
loop-rest-smaller c =
    let long = c.loop-rest-test.true in
    rw c.split_at.ensures.back (omega (arith, length-drop 65536 c.loop-rest.rest.now, long))

pub returns-in_err-append_piece : goal.returns-in_err-append_piece
returns-in_err-append_piece c =
    let p = err_from_is_err_and c.from_residual.result c.from_residual.ensures.1 in
    let i = c.loop-rest.invariant in
    rw p.1 (record {
      ok = tt;
      err = stays c.args.self.now i.0 c.append_piece.new.self c.loop-rest.self i.1 c.in_err-append_piece.ensures.err;
    })

pub returns-clause-ok : goal.returns-clause-ok
returns-clause-ok c =
    let i = c.loop-rest.invariant in
    on_ok_weaker c.append_piece-2.result (λ last. last ∙ ap (λ l. l ++ c.loop-rest.rest.now) i.1
    ∙ append_assoc c.args.self.now i.0 c.loop-rest.rest.now ∙ ap (λ l. c.args.self.now ++ l) i.2) c.append_piece-2.ensures.ok

pub returns-clause-err : goal.returns-clause-err
returns-clause-err c =
    let i = c.loop-rest.invariant in
    on_err_weaker c.append_piece-2.result (λ same. stays c.args.self.now i.0 c.append_piece-2.new.self c.loop-rest.self i.1 same)
    c.append_piece-2.ensures.err
