use Rattle.std.proofs.Common.{◌∙◌, ap, sym, length, arith}
use Rattle.pg_interval.specs.IsoText.{iso_pairs}
use Rattle.pg_interval.specs.Reading.{Iso8601, of_shape}
use Rattle.pg_interval.proofs.ReadWhole.{long_text, short_text}
use Rattle.pg_interval.proofs.pg_interval.Interval.from_iso.Goals as goal

pub returns-then-text-gt-LONGEST_TEXT : goal.returns-then-text-gt-LONGEST_TEXT
returns-then-text-gt-LONGEST_TEXT c = long_text Iso8601 c.args.text.now (omega (arith, ap length c.as_bytes-text.ensures.value))

pub returns-in-Some : goal.returns-in-Some
returns-in-Some c =
    sym c.in-Some.ensures
    ∙ ap (λ t. of_shape Iso8601 (iso_pairs t)) c.as_bytes-text.ensures.value
    ∙ sym (short_text Iso8601 c.args.text.now (omega (arith, ap length c.as_bytes-text.ensures.value)))

pub returns : goal.returns
returns c =
    c.interval_of.ensures ∙ c.read_iso.ensures
    ∙ ap (λ t. of_shape Iso8601 (iso_pairs t)) c.as_bytes-text.ensures.value
    ∙ sym (short_text Iso8601 c.args.text.now (omega (arith, ap length c.as_bytes-text.ensures.value)))
