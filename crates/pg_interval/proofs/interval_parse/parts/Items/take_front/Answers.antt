use Rattle.std.proofs.Common.{◌≡◌, ◌∷◌, ◌++◌, ◌∙◌, ap, sym, get_or, arith}
use Rattle.pg_interval.specs.Reader.{so_far}
use Rattle.pg_interval.specs.ItemReader.{left}
use Rattle.pg_interval.proofs.ReadTokens.{number_alone, word_alone, len_zero, len_some, cons_of}
use Rattle.pg_interval.proofs.ReadItems.{item_first, no_letter_left, second_mark, number_before, mark_first, stop_of, other_mark, the_mark}
use Rattle.pg_interval.proofs.interval_parse.parts.Items.take_front.Goals as goal

pub returns-then-is_empty-clause-left : goal.returns-then-is_empty-clause-left
returns-then-is_empty-clause-left c =
    let s = c.args.self.now in
    let r = so_far s.totals in
    let n = c.cut.result.0.now in
    let behind = c.cut.result.1.now in
    let none = len_zero behind c.is_empty.result c.is_empty.ensures c.if-is_empty.true in
    sym (ap (left s.in_time r) (c.cut.ensures.parts ∙ number_alone n behind none)
    ∙ no_letter_left s.in_time r n (omega (arith, c.cut.ensures.long)) c.cut.ensures.front)

pub returns-then-letter-ne84-clause-left : goal.returns-then-letter-ne84-clause-left
returns-then-letter-ne84-clause-left c =
    let s = c.args.self.now in
    let r = so_far s.totals in
    let n = c.cut.result.0.now in
    let behind = c.cut.result.1.now in
    let l = get_or behind 0 0 in
    let rest = c.split_at.result.1.now in
    let cons : behind ≡ l ∷ rest = cons_of behind (len_some behind c.is_empty.result c.is_empty.ensures c.if-is_empty.false)
    ∙ ap (λ t. l ∷ t) (sym c.split_at.ensures.back) in
    let whole : c.args.text.now ≡ n ++ l ∷ rest = c.cut.ensures.parts ∙ ap (λ t. n ++ t) cons in
    c.take_item.ensures.left ∙ sym (ap (left s.in_time r) whole
    ∙ item_first s.in_time r n l rest c.cut.ensures.front (stop_of behind l rest cons c.cut.ensures.back)
    (other_mark l c.if-letter-ne84.true))

pub returns-then-self-clause-left : goal.returns-then-self-clause-left
returns-then-self-clause-left c =
    let s = c.args.self.now in
    let r = so_far s.totals in
    let n = c.cut.result.0.now in
    let behind = c.cut.result.1.now in
    let l = get_or behind 0 0 in
    let rest = c.split_at.result.1.now in
    let cons : behind ≡ l ∷ rest = cons_of behind (len_some behind c.is_empty.result c.is_empty.ensures c.if-is_empty.false)
    ∙ ap (λ t. l ∷ t) (sym c.split_at.ensures.back) in
    let whole : c.args.text.now ≡ n ++ l ∷ rest = c.cut.ensures.parts ∙ ap (λ t. n ++ t) cons in
    sym (ap (left s.in_time r) whole ∙ ap (λ b. left b r (n ++ l ∷ rest)) c.if-self.true
    ∙ second_mark r n l rest (the_mark l c.if-letter-ne84.false))

pub returns-then-not-is_empty-clause-left : goal.returns-then-not-is_empty-clause-left
returns-then-not-is_empty-clause-left c =
    let s = c.args.self.now in
    let r = so_far s.totals in
    let n = c.cut.result.0.now in
    let behind = c.cut.result.1.now in
    let l = get_or behind 0 0 in
    let rest = c.split_at.result.1.now in
    let cons : behind ≡ l ∷ rest = cons_of behind (len_some behind c.is_empty.result c.is_empty.ensures c.if-is_empty.false)
    ∙ ap (λ t. l ∷ t) (sym c.split_at.ensures.back) in
    let whole : c.args.text.now ≡ n ++ l ∷ rest = c.cut.ensures.parts ∙ ap (λ t. n ++ t) cons in
    sym (ap (left s.in_time r) whole ∙ ap (λ b. left b r (n ++ l ∷ rest)) c.if-self.false
    ∙ number_before r n l rest (len_some n c.is_empty-2.result c.is_empty-2.ensures c.if-not-is_empty.true) c.cut.ensures.front
    (the_mark l c.if-letter-ne84.false))

pub returns-clause-left : goal.returns-clause-left
returns-clause-left c =
    let s = c.args.self.now in
    let r = so_far s.totals in
    let n = c.cut.result.0.now in
    let behind = c.cut.result.1.now in
    let l = get_or behind 0 0 in
    let rest = c.split_at.result.1.now in
    let cons : behind ≡ l ∷ rest = cons_of behind (len_some behind c.is_empty.result c.is_empty.ensures c.if-is_empty.false)
    ∙ ap (λ t. l ∷ t) (sym c.split_at.ensures.back) in
    let whole : c.args.text.now ≡ n ++ l ∷ rest = c.cut.ensures.parts ∙ ap (λ t. n ++ t) cons in
    let alone = word_alone n (l ∷ rest) (len_zero n c.is_empty-2.result c.is_empty-2.ensures c.if-not-is_empty.false) in
    sym (ap (left s.in_time r) (whole ∙ alone) ∙ ap (λ b. left b r (l ∷ rest)) c.if-self.false
    ∙ mark_first r l rest (the_mark l c.if-letter-ne84.false))
