use Rattle.std.proofs.Common.{◌∙◌, sym, arith, ap}
use Rattle.pg_interval.specs.Texts.{begins, is_minus}
use Rattle.pg_interval.specs.Decimals.{number_of}
use Rattle.pg_interval.specs.Reader.{capped_decimal}
use Rattle.pg_interval.proofs.ReadNumbers.{decimal_is, malformed_read, long_read, good_read}
use Rattle.pg_interval.proofs.interval_parse.number.decimal.Goals as goal

pub returns-in_default : goal.returns-in_default
returns-in_default c =
    let text = c.args.text.now in
    let w = c.cut.result.0.now in
    let r = c.cut.result.1.now in
    let e = decimal_is text w r (grind arith) (sym c.without_sign.ensures.rest
    ∙ c.cut.ensures.parts) c.cut.ensures.front c.cut.ensures.back in
    malformed_read c.args.turn (begins is_minus text) w r text e c.in_default.ensures

pub returns-then-fraction-gt-MOST_PLACES : goal.returns-then-fraction-gt-MOST_PLACES
returns-then-fraction-gt-MOST_PLACES c =
    let text = c.args.text.now in
    let w = c.cut.result.0.now in
    let r = c.cut.result.1.now in
    let e = decimal_is text w r (grind arith) (sym c.without_sign.ensures.rest
    ∙ c.cut.ensures.parts) c.cut.ensures.front c.cut.ensures.back in
    long_read c.args.turn (begins is_minus text) w r c.in-Some.fraction.now text e c.in-Some.ensures c.cut.ensures.front (omega arith)

pub returns : goal.returns
returns c =
    let text = c.args.text.now in
    let w = c.cut.result.0.now in
    let r = c.cut.result.1.now in
    let e = decimal_is text w r (grind arith) (sym c.without_sign.ensures.rest
    ∙ c.cut.ensures.parts) c.cut.ensures.front c.cut.ensures.back in
    good_read c.args.turn (begins is_minus text) w r c.in-Some.fraction.now text _ e c.in-Some.ensures c.cut.ensures.front (omega arith)
    (omega arith)
    (c.number_of.ensures ∙ ap (λ m. capped_decimal (number_of m w c.in-Some.fraction.now)) c.sign_of.ensures)
