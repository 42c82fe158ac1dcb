use Rattle.std.proofs.Common.{◌≡◌, ◌∙◌, ap, take, drop, get_or, List, ℕ, false, arith}
use Rattle.std.proofs.lemmas.List.{get_or-take}
use Rattle.std.proofs.lemmas.Result.{err_from_is_err_and}
use Rattle.pg_messages.proofs.FrameLaws.{StandsIn, message_bad, message_found}
use Rattle.pg_messages.proofs.frames.first_typed.Goals as goal

pub returns-in_err-message-clause-bad : goal.returns-in_err-message-clause-bad
returns-in_err-message-clause-bad c =
    let p = err_from_is_err_and c.from_residual-in_err-message.result c.from_residual-in_err-message.ensures.1 in
    let bytes = c.args.bytes.now in
    let len = c.in-Some.len in
    let told = rw c.in-Some.is at c.in_ok-len.ensures.told in
    let kind = get_or c.split_at-2.result.0.now 0 0 in
    let first : kind ≡ get_or (take len bytes) 0 0 =
    ap (λ (x : List ℕ). get_or x 0 0) (c.split_at-2.ensures.front ∙ ap (take 5) c.split_at.ensures.front)
    ∙ get_or-take 5 (take len bytes) 0 0 (omega arith) in
    let body : c.split_at-2.result.1.now ≡ drop 5 (take len bytes) = c.split_at-2.ensures.back ∙ ap (drop 5) c.split_at.ensures.front in
    let h : StandsIn false bytes len kind c.split_at-2.result.1.now =
    record { whole = record { told = told.0; there = told.1; good = told.2 }; kind_is = first; body_is = body } in
    rw (p.1, p.2) (message_bad false bytes len kind c.split_at-2.result.1.now c.in_err-message.field-0.0 h c.in_err-message.ensures)

pub returns-clause-found : goal.returns-clause-found
returns-clause-found c =
    let bytes = c.args.bytes.now in
    let len = c.in-Some.len in
    let told = rw c.in-Some.is at c.in_ok-len.ensures.told in
    let kind = get_or c.split_at-2.result.0.now 0 0 in
    let first : kind ≡ get_or (take len bytes) 0 0 =
    ap (λ (x : List ℕ). get_or x 0 0) (c.split_at-2.ensures.front ∙ ap (take 5) c.split_at.ensures.front)
    ∙ get_or-take 5 (take len bytes) 0 0 (omega arith) in
    let body : c.split_at-2.result.1.now ≡ drop 5 (take len bytes) = c.split_at-2.ensures.back ∙ ap (drop 5) c.split_at.ensures.front in
    let h : StandsIn false bytes len kind c.split_at-2.result.1.now =
    record { whole = record { told = told.0; there = told.1; good = told.2 }; kind_is = first; body_is = body } in (
      told.1,
      message_found false bytes len kind c.split_at-2.result.1.now c.in_ok-message.message h (λ i. omega (
        arith,
        c.type_inv.bytes i,
      )) c.in_ok-message.ensures,
    )
