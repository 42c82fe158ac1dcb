use Rattle.std.proofs.Common.{◌≡◌, ◌∙◌, ap, sym, refl, rules, to_z, of_z, w64}
use Rattle.std.specs.Prelude.{if◌then◌else◌, pos}
use Rattle.std.proofs.Math.Facts.{to_z-of_z}
use Rattle.pg_interval.specs.Texts.{begins, is_minus, is_sign}
use Rattle.pg_interval.specs.Decimals.{with_sign}
use Rattle.pg_interval.specs.Reading.{SqlStandard, of_shape}
use Rattle.pg_interval.specs.SqlText.{sql_pairs}
use Rattle.pg_interval.proofs.NormalFacts.{same_interval}
use Rattle.pg_interval.proofs.FrontReads.{read_within}
use Rattle.pg_interval.proofs.FrontFields.{two_read}
use Rattle.pg_interval.proofs.interval_parse.sql_front.read_two.Goals as goal

pub returns : goal.returns
returns c =
    let text = c.args.text.now in
    let second = c.in-Some-after_byte.second.now in
    let days = c.in-Some.days in
    let time = c.in-Some-time.microseconds in
    let minus = begins is_minus (if begins is_sign second then second else text) in
    let d = with_sign (begins is_minus text) days in
    let u = with_sign minus time in
    let ed : d ≡ to_z w64 (of_z w64 c.signed.result) = sym (to_z-of_z {w = w64} {z = c.signed.result} (search rules)
    ∙ c.signed.ensures ∙ ap (λ b. with_sign b days) c.sign_of.ensures) in
    let eu : u ≡ to_z w64 (of_z w64 c.signed-2.result) = sym (to_z-of_z {w = w64} {z = c.signed-2.result} (search rules)
    ∙ c.signed-2.ensures ∙ ap (λ b. with_sign b time) c.sign_of_two.ensures) in
    read_within (of_shape SqlStandard (sql_pairs text)) c.interval_within.result (record { months = pos 0; days = d; microseconds = u }) _
    (two_read text c.in-Some.behind.now second d u c.in-Some.ensures.amount c.in-Some-after_byte.ensures
    (c.in-Some-time.ensures.amount minus))
    (same_interval _ _ refl ed eu)
    c.interval_within.ensures
