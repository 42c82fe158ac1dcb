use Rattle.std.proofs.Common.{arith, ap, subst, sym, ◌∙◌, ◌≡◌, true, get_or, take}
use Rattle.shift_orders.specs.Stops.{ends_word}
use Rattle.shift_orders.proofs.Scanning.{AreWordBytes, word_up_to}
use Rattle.shift_orders.proofs.tokens.word_len.Goals as goal

pub returns-else-not-ends_word-clause-word : goal.returns-else-not-ends_word-clause-word
returns-else-not-ends_word-clause-word c =
    let n = c.loop-len.len in let e = c.as_bytes-bytes.ensures.value in
    let ends : ends_word (get_or c.args.text.now n 0) ≡ true =
    ap (λ t. ends_word (get_or t n 0)) (sym e) ∙ sym c.ends_word.ensures ∙ c.if-not-ends_word.false in
    word_up_to c.args.text.now n c.requires (omega arith) (subst (λ t. AreWordBytes (take n t)) e c.loop-len.invariant.word) (λ less. ends)

pub returns-after-loop-len-clause-word : goal.returns-after-loop-len-clause-word
returns-after-loop-len-clause-word c =
    let n = c.loop-len.len in let e = c.as_bytes-bytes.ensures.value in
    word_up_to c.args.text.now n c.requires (omega arith) (subst (λ t. AreWordBytes (take n t)) e c.loop-len.invariant.word)
    (λ less. absurd (omega arith))
