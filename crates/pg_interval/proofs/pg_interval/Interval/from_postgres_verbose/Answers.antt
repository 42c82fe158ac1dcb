use Rattle.std.proofs.Common.{◌∙◌, ap, sym, length, arith}
use Rattle.pg_interval.specs.PostgresText.{verbose_pairs}
use Rattle.pg_interval.specs.Reading.{PostgresVerbose, of_shape}
use Rattle.pg_interval.proofs.ReadWhole.{long_text, short_text}
use Rattle.pg_interval.proofs.pg_interval.Interval.from_postgres_verbose.Goals as goal

pub returns-then-text-gt-LONGEST_TEXT : goal.returns-then-text-gt-LONGEST_TEXT
returns-then-text-gt-LONGEST_TEXT c = long_text PostgresVerbose c.args.text.now (omega (arith, ap length c.as_bytes-text.ensures.value))

pub returns : goal.returns
returns c =
    c.interval_of.ensures ∙ c.read_verbose.ensures
    ∙ ap (λ t. of_shape PostgresVerbose (verbose_pairs t)) c.as_bytes-text.ensures.value
    ∙ sym (short_text PostgresVerbose c.args.text.now (omega (arith, ap length c.as_bytes-text.ensures.value)))
