use Rattle.std.proofs.Common.{◌∙◌, ap, sym, length, arith, false}
use Rattle.pg_interval.specs.Reading.{Postgres}
use Rattle.pg_interval.specs.WordReader.{answered, left, start}
use Rattle.pg_interval.proofs.ReadWhole.{long_text, postgres_whole}
use Rattle.pg_interval.proofs.pg_interval.Interval.from_postgres.Goals as goal

pub returns-then-text-gt-LONGEST_TEXT : goal.returns-then-text-gt-LONGEST_TEXT
returns-then-text-gt-LONGEST_TEXT c = long_text Postgres c.args.text.now (omega (arith, ap length c.as_bytes-text.ensures.value))

pub returns : goal.returns
returns c =
    c.interval_of.ensures ∙ ap answered c.read_words.ensures
    ∙ ap (λ t. answered (left false false start t)) c.as_bytes-text.ensures.value
    ∙ sym (postgres_whole c.args.text.now (omega (arith, ap length c.as_bytes-text.ensures.value)))
