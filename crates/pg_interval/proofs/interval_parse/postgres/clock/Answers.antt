use Rattle.std.proofs.Common.{◌++◌, ◌∙◌, ap, sym}
use Rattle.pg_interval.specs.Texts.{begins, is_minus}
use Rattle.pg_interval.specs.Reader.{capped_decimal}
use Rattle.pg_interval.specs.Decimals.{number_of}
use Rattle.pg_interval.proofs.ReadTimes.{no_time, times_no_hours, times_no_minutes, times_are, no_fraction, empty_hours, empty_minutes, empty_seconds, good_time}
use Rattle.pg_interval.proofs.ReadTokens.{len_zero, len_some}
use Rattle.pg_interval.proofs.interval_parse.postgres.clock.Goals as goal

pub returns-in_default : goal.returns-in_default
returns-in_default c =
    let text = c.args.token.now in
    no_time c.args.turn text (times_no_hours text c.cut.result.0.now c.cut.result.1.now (sym c.without_sign.ensures.rest
    ∙ c.cut.ensures.parts) c.cut.ensures.front c.cut.ensures.back c.in_default.ensures)

pub returns-in_default-after_byte : goal.returns-in_default-after_byte
returns-in_default-after_byte c =
    let text = c.args.token.now in
    let h = c.cut.result.0.now in
    no_time c.args.turn text (times_no_minutes text h c.in-Some.rest.now c.cut-2.result.0.now c.cut-2.result.1.now
    (sym c.without_sign.ensures.rest ∙ c.cut.ensures.parts
    ∙ ap (λ r. h ++ r) c.in-Some.ensures) c.cut.ensures.front c.cut-2.ensures.parts c.cut-2.ensures.front c.cut-2.ensures.back
    c.in_default-after_byte.ensures)

pub returns-in_default-fraction_after : goal.returns-in_default-fraction_after
returns-in_default-fraction_after c =
    let text = c.args.token.now in
    let m0 = begins is_minus text in
    let h = c.cut.result.0.now in
    let m = c.cut-2.result.0.now in
    let s = c.cut-3.result.0.now in
    let r3 = c.cut-3.result.1.now in
    let e = times_are text h c.in-Some.rest.now m c.in-Some-after_byte.rest.now s r3 (sym c.without_sign.ensures.rest ∙ c.cut.ensures.parts
    ∙ ap (λ r. h ++ r) c.in-Some.ensures) c.cut.ensures.front (c.cut-2.ensures.parts
    ∙ ap (λ r. m ++ r) c.in-Some-after_byte.ensures) c.cut-2.ensures.front c.cut-3.ensures.parts c.cut-3.ensures.front
    c.cut-3.ensures.back in
    no_fraction c.args.turn m0 text h m s r3 e c.in_default-fraction_after.ensures

pub returns-then-is_empty : goal.returns-then-is_empty
returns-then-is_empty c =
    let text = c.args.token.now in
    let m0 = begins is_minus text in
    let h = c.cut.result.0.now in
    let m = c.cut-2.result.0.now in
    let s = c.cut-3.result.0.now in
    let r3 = c.cut-3.result.1.now in
    let e = times_are text h c.in-Some.rest.now m c.in-Some-after_byte.rest.now s r3 (sym c.without_sign.ensures.rest ∙ c.cut.ensures.parts
    ∙ ap (λ r. h ++ r) c.in-Some.ensures) c.cut.ensures.front (c.cut-2.ensures.parts
    ∙ ap (λ r. m ++ r) c.in-Some-after_byte.ensures) c.cut-2.ensures.front c.cut-3.ensures.parts c.cut-3.ensures.front
    c.cut-3.ensures.back in
    let f = c.in-Some-fraction_after.fraction.now in
    let some = c.in-Some-fraction_after.ensures in
    empty_hours c.args.turn m0 text h m s r3 f e some (len_zero h c.is_empty.result c.is_empty.ensures c.if-is_empty.true)

pub returns-then-is_empty-2 : goal.returns-then-is_empty-2
returns-then-is_empty-2 c =
    let text = c.args.token.now in
    let m0 = begins is_minus text in
    let h = c.cut.result.0.now in
    let m = c.cut-2.result.0.now in
    let s = c.cut-3.result.0.now in
    let r3 = c.cut-3.result.1.now in
    let e = times_are text h c.in-Some.rest.now m c.in-Some-after_byte.rest.now s r3 (sym c.without_sign.ensures.rest ∙ c.cut.ensures.parts
    ∙ ap (λ r. h ++ r) c.in-Some.ensures) c.cut.ensures.front (c.cut-2.ensures.parts
    ∙ ap (λ r. m ++ r) c.in-Some-after_byte.ensures) c.cut-2.ensures.front c.cut-3.ensures.parts c.cut-3.ensures.front
    c.cut-3.ensures.back in
    let f = c.in-Some-fraction_after.fraction.now in
    let some = c.in-Some-fraction_after.ensures in
    empty_minutes c.args.turn m0 text h m s r3 f e some (len_zero m c.is_empty-2.result c.is_empty-2.ensures c.if-is_empty-2.true)

pub returns-then-is_empty-3 : goal.returns-then-is_empty-3
returns-then-is_empty-3 c =
    let text = c.args.token.now in
    let m0 = begins is_minus text in
    let h = c.cut.result.0.now in
    let m = c.cut-2.result.0.now in
    let s = c.cut-3.result.0.now in
    let r3 = c.cut-3.result.1.now in
    let e = times_are text h c.in-Some.rest.now m c.in-Some-after_byte.rest.now s r3 (sym c.without_sign.ensures.rest ∙ c.cut.ensures.parts
    ∙ ap (λ r. h ++ r) c.in-Some.ensures) c.cut.ensures.front (c.cut-2.ensures.parts
    ∙ ap (λ r. m ++ r) c.in-Some-after_byte.ensures) c.cut-2.ensures.front c.cut-3.ensures.parts c.cut-3.ensures.front
    c.cut-3.ensures.back in
    let f = c.in-Some-fraction_after.fraction.now in
    let some = c.in-Some-fraction_after.ensures in
    empty_seconds c.args.turn m0 text h m s r3 f e some (len_zero s c.is_empty-3.result c.is_empty-3.ensures c.if-is_empty-3.true)

pub returns : goal.returns
returns c =
    let text = c.args.token.now in
    let m0 = begins is_minus text in
    let h = c.cut.result.0.now in
    let m = c.cut-2.result.0.now in
    let s = c.cut-3.result.0.now in
    let r3 = c.cut-3.result.1.now in
    let e = times_are text h c.in-Some.rest.now m c.in-Some-after_byte.rest.now s r3 (sym c.without_sign.ensures.rest ∙ c.cut.ensures.parts
    ∙ ap (λ r. h ++ r) c.in-Some.ensures) c.cut.ensures.front (c.cut-2.ensures.parts
    ∙ ap (λ r. m ++ r) c.in-Some-after_byte.ensures) c.cut-2.ensures.front c.cut-3.ensures.parts c.cut-3.ensures.front
    c.cut-3.ensures.back in
    let f = c.in-Some-fraction_after.fraction.now in
    let some = c.in-Some-fraction_after.ensures in
    good_time c.args.turn m0 c.sign_of-minus.result text h m s r3 f _ _ _ e some c.cut.ensures.front c.cut-2.ensures.front
    c.cut-3.ensures.front (len_some h c.is_empty.result c.is_empty.ensures c.if-is_empty.false)
    (len_some m c.is_empty-2.result c.is_empty-2.ensures c.if-is_empty-2.false)
    (len_some s c.is_empty-3.result c.is_empty-3.ensures c.if-is_empty-3.false) c.sign_of-minus.ensures
    c.number_of.ensures c.number_of-2.ensures
    (c.number_of-3.ensures ∙ ap (λ x. capped_decimal (number_of c.sign_of-minus.result s x)) c.first_six.ensures)
