use Rattle.std.proofs.Common.{◌∙◌, ap, sym, length, arith}
use Rattle.pg_interval.specs.SqlText.{sql_pairs}
use Rattle.pg_interval.specs.Reading.{SqlStandard, of_shape}
use Rattle.pg_interval.specs.WordReader.{answered}
use Rattle.pg_interval.proofs.ReadWhole.{long_text, short_text}
use Rattle.pg_interval.proofs.ReadFields.{sql_answered}
use Rattle.pg_interval.proofs.pg_interval.Interval.from_sql.Goals as goal

pub returns-then-text-gt-LONGEST_TEXT : goal.returns-then-text-gt-LONGEST_TEXT
returns-then-text-gt-LONGEST_TEXT c = long_text SqlStandard c.args.text.now (omega (arith, ap length c.as_bytes-text.ensures.value))

pub returns-in-Some : goal.returns-in-Some
returns-in-Some c =
    sym c.in-Some.ensures
    ∙ ap (λ t. of_shape SqlStandard (sql_pairs t)) c.as_bytes-text.ensures.value
    ∙ sym (short_text SqlStandard c.args.text.now (omega (arith, ap length c.as_bytes-text.ensures.value)))

pub returns-in-Some-read_fewer : goal.returns-in-Some-read_fewer
returns-in-Some-read_fewer c =
    sym c.in-Some-read_fewer.ensures
    ∙ ap (λ t. of_shape SqlStandard (sql_pairs t)) c.as_bytes-text.ensures.value
    ∙ sym (short_text SqlStandard c.args.text.now (omega (arith, ap length c.as_bytes-text.ensures.value)))

pub returns : goal.returns
returns c =
    c.interval_of.ensures ∙ ap answered c.read_sql.ensures ∙ sql_answered (sql_pairs c.as_bytes-text.result.now)
    ∙ ap (λ t. of_shape SqlStandard (sql_pairs t)) c.as_bytes-text.ensures.value
    ∙ sym (short_text SqlStandard c.args.text.now (omega (arith, ap length c.as_bytes-text.ensures.value)))
