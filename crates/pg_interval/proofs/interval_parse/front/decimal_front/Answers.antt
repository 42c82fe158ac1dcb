use Rattle.std.proofs.Common.{◌≡◌, ◌+◌, ◌-◌, length, ap, sym, subst, arith}
use Rattle.std.proofs.Math.ListN.{length-append}
use Rattle.pg_interval.specs.FrontReader.{IsDecimalFront, IsNumberFront}
use Rattle.pg_interval.proofs.FrontReads.{whole_at, point_at}
use Rattle.pg_interval.proofs.interval_parse.front.decimal_front.Goals as goal

pub returns-in_default-after_byte : goal.returns-in_default-after_byte
returns-in_default-after_byte c =
    let text = c.args.text.now in
    let behind = c.in-Some.behind.now in
    subst (λ d. IsDecimalFront c.args.turn d text behind) (sym c.whole_number.ensures)
    (whole_at c.args.turn text c.without_sign.result.now behind c.in-Some.whole c.sign_of-negative.result
    c.without_sign.ensures.rest c.in-Some.ensures c.sign_of-negative.ensures)

pub returns : goal.returns
returns c =
    let digits = c.in-Some-after_byte.digits.now in
    let rest = c.in-Some-number_front.rest.now in
    let g : IsNumberFront c.in-Some-number_front.fraction digits rest = c.in-Some-number_front.ensures in
    let long : length digits ≡ (length digits - length rest) + length rest = omega
    (arith, ap length g.parts, length-append g.digits rest) in
    point_at c.args.turn c.args.text.now c.without_sign.result.now c.in-Some.behind.now digits rest c.in-Some.whole
    c.in-Some-number_front.fraction (length digits - length rest) c.sign_of-negative.result c.without_sign.ensures.rest
    c.in-Some.ensures c.in-Some-after_byte.ensures g long (omega arith) c.sign_of-negative.ensures
