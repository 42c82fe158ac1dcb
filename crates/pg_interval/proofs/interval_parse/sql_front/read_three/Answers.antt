use Rattle.std.proofs.Common.{◌≡◌, ◌∙◌, ap, sym, rules, to_z, of_z, w64}
use Rattle.std.proofs.Math.Facts.{to_z-of_z}
use Rattle.pg_interval.specs.Texts.{begins, is_minus}
use Rattle.pg_interval.specs.Decimals.{with_sign}
use Rattle.pg_interval.specs.Reading.{SqlStandard, of_shape}
use Rattle.pg_interval.specs.SqlText.{sql_pairs}
use Rattle.pg_interval.proofs.NormalFacts.{same_interval}
use Rattle.pg_interval.proofs.FrontReads.{read_within}
use Rattle.pg_interval.proofs.FrontFields.{three_read}
use Rattle.pg_interval.proofs.interval_parse.sql_front.read_three.Goals as goal

pub returns : goal.returns
returns c =
    let text = c.args.text.now in
    let second = c.in-Some-after_byte.second.now in
    let third = c.in-Some-after_byte-2.third.now in
    let months = c.in-Some.months in
    let days = c.in-Some-days_front.days in
    let time = c.in-Some-time.microseconds in
    let m = with_sign (begins is_minus text) months in
    let d = with_sign (begins is_minus second) days in
    let u = with_sign (begins is_minus third) time in
    let em : m ≡ to_z w64 (of_z w64 c.signed.result) = sym (to_z-of_z {w = w64} {z = c.signed.result} (search rules)
    ∙ c.signed.ensures ∙ ap (λ b. with_sign b months) c.sign_of.ensures) in
    let ed : d ≡ to_z w64 (of_z w64 c.signed-2.result) = sym (to_z-of_z {w = w64} {z = c.signed-2.result} (search rules)
    ∙ c.signed-2.ensures ∙ ap (λ b. with_sign b days) c.sign_of-2.ensures) in
    let eu : u ≡ to_z w64 (of_z w64 c.signed-3.result) = sym (to_z-of_z {w = w64} {z = c.signed-3.result} (search rules)
    ∙ c.signed-3.ensures ∙ ap (λ b. with_sign b time) c.sign_of-3.ensures) in
    read_within (of_shape SqlStandard (sql_pairs text)) c.interval_within.result (record { months = m; days = d; microseconds = u }) _
    (three_read text c.in-Some.behind.now second c.in-Some-days_front.behind.now third m d u c.in-Some.ensures.amount
    c.in-Some-after_byte.ensures c.in-Some-days_front.ensures.amount c.in-Some-after_byte-2.ensures
    (c.in-Some-time.ensures.amount (begins is_minus third)))
    (same_interval _ _ em ed eu)
    c.interval_within.ensures
