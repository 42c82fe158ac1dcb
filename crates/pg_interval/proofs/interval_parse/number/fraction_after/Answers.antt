use Rattle.std.proofs.Common.{◌≡◌, ◌≢◌, ◌∙◌, ap, sym, drop, length, arith}
use Rattle.std.specs.Prelude.{Some}
use Rattle.std.specs.List.{prefix_len}
use Rattle.std.proofs.lemmas.List.Sums.{prefix_len-le-length}
use Rattle.pg_interval.specs.Texts.{is_digit}
use Rattle.pg_interval.proofs.ReadNumbers.{fraction_yes, fraction_no_digits}
use Rattle.pg_interval.proofs.interval_parse.number.fraction_after.Goals as goal

pub returns-then-run_len-digits : goal.returns-then-run_len-digits
returns-then-run_len-digits c =
    let r = c.args.rest.now in
    let back = c.split_at.ensures.back in
    let run : prefix_len is_digit (drop 1 r) ≢ length (drop 1 r) =
    omega (arith, c.run_len.ensures.run ∙ ap (prefix_len is_digit) back, ap length back) in
    fraction_no_digits r (omega arith) c.if-rest-ne46.false run

pub returns : goal.returns
returns c =
    let r = c.args.rest.now in
    let back = c.split_at.ensures.back in
    let run : prefix_len is_digit (drop 1 r) ≡ length (drop 1 r) =
    omega (arith, c.run_len.ensures.run ∙ ap (prefix_len is_digit) back, ap length back, prefix_len-le-length is_digit (drop 1 r)) in
    fraction_yes r (omega arith) c.if-rest-ne46.false run ∙ ap Some (sym back)
