use Rattle.std.proofs.Common.{◌∙◌, ap, take, drop, List, ℕ, true, arith}
use Rattle.std.proofs.lemmas.Result.{err_from_is_err_and}
use Rattle.pg_messages.proofs.FrameLaws.{StandsIn, message_bad, message_found}
use Rattle.std.specs.Int.{w32, from_be_bytes}
use Rattle.pg_messages.proofs.frames.first_startup.Goals as goal

pub returns-in_err-message-clause-bad : goal.returns-in_err-message-clause-bad
returns-in_err-message-clause-bad c =
    let p = err_from_is_err_and c.from_residual-in_err-message.result c.from_residual-in_err-message.ensures.1 in
    let bytes = c.args.bytes.now in
    let len = c.in-Some.len in
    let told = rw c.in-Some.is at c.in_ok-len.ensures.told in
    let parts = c.code_and_body-code.result in
    let h : StandsIn true bytes len parts.0 parts.1.now = record {
      whole = record { told = told.0; there = told.1; good = told.2 };
      kind_is = c.code_and_body-code.ensures.code ∙ ap (λ (x : List ℕ). from_be_bytes w32 (take 4 (drop 4 x))) c.split_at.ensures.front;
      body_is = c.code_and_body-code.ensures.body ∙ ap (drop 8) c.split_at.ensures.front;
    } in
    rw (p.1, p.2) (message_bad true bytes len parts.0 parts.1.now c.in_err-message.field-0.0 h c.in_err-message.ensures)

pub returns-clause-found : goal.returns-clause-found
returns-clause-found c =
    let bytes = c.args.bytes.now in
    let len = c.in-Some.len in
    let told = rw c.in-Some.is at c.in_ok-len.ensures.told in
    let parts = c.code_and_body-code.result in
    let h : StandsIn true bytes len parts.0 parts.1.now = record {
      whole = record { told = told.0; there = told.1; good = told.2 };
      kind_is = c.code_and_body-code.ensures.code ∙ ap (λ (x : List ℕ). from_be_bytes w32 (take 4 (drop 4 x))) c.split_at.ensures.front;
      body_is = c.code_and_body-code.ensures.body ∙ ap (drop 8) c.split_at.ensures.front;
    } in (
      told.1,
      message_found true bytes len parts.0 parts.1.now c.in_ok-message.message h (λ i. omega (
        arith,
        c.type_inv.bytes i,
      )) c.in_ok-message.ensures,
    )
