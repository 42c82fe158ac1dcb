use Rattle.std.proofs.Common.{◌≡◌, ◌∙◌, ap, sym, refl, rules, to_z, of_z, w64}
use Rattle.std.proofs.Math.Facts.{to_z-of_z}
use Rattle.pg_interval.specs.Texts.{begins, is_minus}
use Rattle.pg_interval.specs.Decimals.{with_sign}
use Rattle.pg_interval.specs.Reading.{SqlStandard, of_shape}
use Rattle.pg_interval.specs.SqlText.{sql_pairs}
use Rattle.pg_interval.specs.FrontReader.{only_time}
use Rattle.pg_interval.proofs.NormalFacts.{same_interval}
use Rattle.pg_interval.proofs.FrontReads.{read_within}
use Rattle.pg_interval.proofs.FrontFields.{alone_read}
use Rattle.pg_interval.proofs.interval_parse.sql_front.read_fewer.Goals as goal

pub returns : goal.returns
returns c =
    let text = c.args.text.now in
    let time = c.in-Some.microseconds in
    let minus = begins is_minus text in
    let u = with_sign minus time in
    let eu : u ≡ to_z w64 (of_z w64 c.signed.result) = sym (to_z-of_z {w = w64} {z = c.signed.result} (search rules)
    ∙ c.signed.ensures ∙ ap (λ b. with_sign b time) c.sign_of.ensures) in
    read_within (of_shape SqlStandard (sql_pairs text)) c.interval_within.result (only_time u) _
    (alone_read text u (c.in-Some.ensures.amount minus) c.in-Some.ensures.colon)
    (same_interval _ _ refl refl eu)
    c.interval_within.ensures
