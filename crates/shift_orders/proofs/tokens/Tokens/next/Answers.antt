use Rattle.std.proofs.Common.{◌==◌, ap, lit<, sym, subst, ◌∙◌}
use Rattle.std.proofs.lemmas.Str.Pattern.{strip_prefix_char}
use Rattle.shift_orders.specs.Stops.{IsTrimmedInFront}
use Rattle.shift_orders.proofs.Scanning.{begins_word}
use Rattle.shift_orders.proofs.tokens.Tokens.next.Goals as goal

pub word_len-len-requires : goal.word_len-len-requires
word_len-len-requires c =
    let text = c.range_from-text.result.now in
    let off = rw c.in_default.is at (strip_prefix_char 39 text c.strip_prefix.result c.strip_prefix.ensures.cases (lit< tt)) in
    let some = sym c.is_empty.ensures ∙ c.if-is_empty.false in
    begins_word text (subst IsTrimmedInFront (sym c.range_from-text.ensures.value) c.front_whitespace.ensures.stop)
    (λ none. let is = ap (λ n. n == 0) none in cc) off
