-- The words, one by one.
use Rattle.std.proofs.Common.{refl, sym}
use Rattle.rota_words.proofs.WordLemmas.{order_lines, order_clashes, no_lines_start, no_lines_style, no_clashes_start, no_clashes_its_start}
use Rattle.rota_words.proofs.words.read_order.Goals as goal

pub returns-in_ok-style-in-len6-clause-some : goal.returns-in_ok-style-in-len6-clause-some
returns-in_ok-style-in-len6-clause-some c =
    order_lines c.args.words.now _ _ _ _ _ _ _ _ _ _ _ _ c.in-len6.len_at_least c.in-len6.len_below (c.if-is_word.ensures.0 refl) c.command-item.is c.relation-item.is c.column-item.is
    c.start-item.is c.style-item.is c.in_ok-rota-in-len6.ensures.relation
    c.in_ok-rota-in-len6.ensures.column c.in_ok-rota-in-len6.ensures.start (sym c.in_ok-style-in-len6.ensures)

pub returns-in_ok-other-in-len8-clause-some : goal.returns-in_ok-other-in-len8-clause-some
returns-in_ok-other-in-len8-clause-some c =
    order_clashes c.args.words.now _ _ _ _ _ _ _ _ _ _ _ _ _ _ _ _ c.in-len8.len_at_least c.in-len8.len_below (c.if-is_word-2.ensures.0 refl) c.command-item-then-words-lt9.is c.relation-item-then-words-lt9.is
    c.column-item-then-words-lt9.is c.start-item-then-words-lt9.is
    c.other-item.is c.its_column-item.is
    c.its_start-item.is c.in_ok-rota-in-len8.ensures.relation c.in_ok-rota-in-len8.ensures.column
    c.in_ok-rota-in-len8.ensures.start c.in_ok-other-in-len8.ensures.relation c.in_ok-other-in-len8.ensures.column
    c.in_ok-other-in-len8.ensures.start

pub returns-in_err-rota-in-len6 : goal.returns-in_err-rota-in-len6
returns-in_err-rota-in-len6 c = rw c.from_residual.ensures (record {
  some = tt;
  none = no_lines_start c.args.words.now _ _ c.in-len6.len_below c.start-item.is c.in_err-rota-in-len6.ensures.none;
})

pub returns-in_err-style-in-len6 : goal.returns-in_err-style-in-len6
returns-in_err-style-in-len6 c = rw c.from_residual-in_err-style-in-len6.ensures (record {
  some = tt;
  none = no_lines_style c.args.words.now _ _ c.in-len6.len_below c.style-item.is c.in_err-style-in-len6.ensures;
})

pub returns-in_err-rota-in-len8 : goal.returns-in_err-rota-in-len8
returns-in_err-rota-in-len8 c = rw c.from_residual-in_err-rota-in-len8.ensures (record {
  some = tt;
  none = no_clashes_start c.args.words.now _ _ c.in-len8.len_at_least c.start-item-then-words-lt9.is c.in_err-rota-in-len8.ensures.none;
})

pub returns-in_err-other-in-len8 : goal.returns-in_err-other-in-len8
returns-in_err-other-in-len8 c = rw c.from_residual-in_err-other-in-len8.ensures (record {
  some = tt;
  none = no_clashes_its_start c.args.words.now _ _ c.in-len8.len_at_least c.its_start-item.is c.in_err-other-in-len8.ensures.none;
})
