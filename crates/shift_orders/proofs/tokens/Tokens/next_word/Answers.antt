use Rattle.std.proofs.Common.{◌≡◌, ◌==◌, ap, lit<, sym, subst, ◌∙◌}
use Rattle.std.proofs.lemmas.Str.Pattern.{strip_prefix_char}
use Rattle.shift_orders.specs.Stops.{HasNoWord, IsTrimmedInFront}
use Rattle.shift_orders.specs.Tokens.{tokens}
use Rattle.shift_orders.proofs.Scanning.{begins_word, no_word}
use Rattle.shift_orders.proofs.tokens.Tokens.next_word.Goals as goal

pub word_len-len-requires : goal.word_len-len-requires
word_len-len-requires c =
    let text = c.range_from-text.result.now in
    let off = rw c.in_default.is at (strip_prefix_char 39 text c.strip_prefix.result c.strip_prefix.ensures.cases (lit< tt)) in
    let some = sym c.is_empty.ensures ∙ c.if-is_empty.false in
    begins_word text (subst IsTrimmedInFront (sym c.range_from-text.ensures.value) c.front_whitespace.ensures.stop)
    (λ none. let is = ap (λ n. n == 0) none in cc) off

pub returns-in-Some-clause-none : goal.returns-in-Some-clause-none
returns-in-Some-clause-none c none =
    let text = c.range_from-text.result.now in
    let on = rw c.in-Some.is at (strip_prefix_char 39 text c.strip_prefix.result c.strip_prefix.ensures.cases (lit< tt)) in
    let same : tokens text ≡ c.args.self.now = ap tokens c.range_from-text.ensures.value ∙ (c.front_whitespace.ensures.rest ∙ c.self.view_is) in
    subst HasNoWord (sym (ap tokens on) ∙ same) (no_word c.in-Some.field-0.now)
