use Rattle.std.proofs.Common.{◌++◌, ◌∙◌, ap, sym}
use Rattle.std.specs.List.{list_all, list_any}
use Rattle.pg_interval.specs.Texts.{begins, is_colon, is_whitespace}
use Rattle.pg_interval.specs.PostgresText.{is_number_byte}
use Rattle.pg_interval.specs.Reader.{is_kind}
use Rattle.pg_interval.specs.WordReader.{left, state}
use Rattle.pg_interval.specs.declared.interval_parse.texts.Kind.TheVariants.{Solid}
use Rattle.pg_interval.proofs.ReadTokens.{first_filled, times_left, word_left, joined_left, spaced_left, number_alone, word_alone, len_zero, len_some}
use Rattle.pg_interval.proofs.interval_parse.parts.Words.take_front.Goals as goal

pub returns-then-contains-clause-left : goal.returns-then-contains-clause-left
returns-then-contains-clause-left c =
    let v = c.args.verbose in
    let t = c.args.turn in
    let s = state c.args.self.now in
    let token = c.cut.result.0.now in
    let rest = c.cut.result.1.now in
    let filled = first_filled c.args.text.now token rest c.cut.ensures.parts c.requires.filled c.requires.solid c.cut.ensures.back in
    let whole = ap (left v t s) c.cut.ensures.parts in
    c.pass_time.ensures.left v ∙ sym (whole ∙ times_left v t s token rest filled (sym c.contains.ensures.value
    ∙ c.if-contains.true) c.cut.ensures.front c.cut.ensures.back)

pub returns-then-is_empty-clause-left : goal.returns-then-is_empty-clause-left
returns-then-is_empty-clause-left c =
    let v = c.args.verbose in
    let t = c.args.turn in
    let s = state c.args.self.now in
    let token = c.cut.result.0.now in
    let rest = c.cut.result.1.now in
    let filled = first_filled c.args.text.now token rest c.cut.ensures.parts c.requires.filled c.requires.solid c.cut.ensures.back in
    let whole = ap (left v t s) c.cut.ensures.parts in
    let none = sym c.contains.ensures.value ∙ c.if-contains.false in
    let n = c.cut-2.result.0.now in
    let w = c.cut-2.result.1.now in
    let stop = ap (begins is_number_byte) (c.cut-2.ensures.parts
    ∙ word_alone n w (len_zero n c.is_empty.result c.is_empty.ensures c.if-is_empty.true)) ∙ c.cut-2.ensures.back in
    sym (whole ∙ word_left v t s token rest filled none stop c.cut.ensures.front c.cut.ensures.back)

pub returns-then-not-is_empty-clause-left : goal.returns-then-not-is_empty-clause-left
returns-then-not-is_empty-clause-left c =
    let v = c.args.verbose in
    let t = c.args.turn in
    let s = state c.args.self.now in
    let token = c.cut.result.0.now in
    let rest = c.cut.result.1.now in
    let filled = first_filled c.args.text.now token rest c.cut.ensures.parts c.requires.filled c.requires.solid c.cut.ensures.back in
    let whole = ap (left v t s) c.cut.ensures.parts in
    let none = sym c.contains.ensures.value ∙ c.if-contains.false in
    let n = c.cut-2.result.0.now in
    let w = c.cut-2.result.1.now in
    let back = sym c.cut-2.ensures.parts in
    c.pass_pair.ensures.left ∙ sym (whole ∙ ap (λ x. left v t s (x ++ rest)) c.cut-2.ensures.parts
    ∙ joined_left v t s n w rest (len_some n c.is_empty.result c.is_empty.ensures c.if-is_empty.false)
    (len_some w c.is_empty-2.result c.is_empty-2.ensures c.if-not-is_empty.true) (ap (list_any is_colon) back
    ∙ none) c.cut-2.ensures.front c.cut-2.ensures.back (ap (list_all (is_kind Solid)) back
    ∙ c.cut.ensures.front) c.cut.ensures.back)

pub returns-clause-left : goal.returns-clause-left
returns-clause-left c =
    let v = c.args.verbose in
    let t = c.args.turn in
    let s = state c.args.self.now in
    let token = c.cut.result.0.now in
    let rest = c.cut.result.1.now in
    let filled = first_filled c.args.text.now token rest c.cut.ensures.parts c.requires.filled c.requires.solid c.cut.ensures.back in
    let whole = ap (left v t s) c.cut.ensures.parts in
    let none = sym c.contains.ensures.value ∙ c.if-contains.false in
    let n = c.cut-2.result.0.now in
    let w = c.cut-2.result.1.now in
    let alone = c.cut-2.ensures.parts ∙ number_alone n w (len_zero w c.is_empty-2.result c.is_empty-2.ensures c.if-not-is_empty.false) in
    let next = sym c.trim_start.ensures.rest ∙ c.cut-3.ensures.parts in
    let start = ap (begins is_whitespace) (sym c.trim_start.ensures.rest) ∙ c.trim_start.ensures.solid in
    c.pass_pair-2.ensures.left ∙ sym (whole ∙ ap (λ x. left v t s (x ++ rest)) alone
    ∙ spaced_left v t s n rest c.cut-3.result.0.now c.cut-3.result.1.now
    (len_some n c.is_empty.result c.is_empty.ensures c.if-is_empty.false) (ap (list_any is_colon) (sym alone)
    ∙ none) c.cut-2.ensures.front (ap (list_all (is_kind Solid)) (sym alone)
    ∙ c.cut.ensures.front) c.cut.ensures.back next c.cut-3.ensures.front c.cut-3.ensures.back start)
