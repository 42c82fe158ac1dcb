use Rattle.std.proofs.Common.{◌∙◌, ap, sym}
use Rattle.std.specs.Prelude.{Some}
use Rattle.pg_interval.proofs.ReadWhole.{zero_within, words_within}
use Rattle.pg_interval.proofs.interval_parse.postgres.read_within.Goals as goal

pub returns-then-is : goal.returns-then-is
returns-then-is c = ap Some c.new.ensures.sums ∙ sym (zero_within c.args.turn c.args.text.now (sym c.is.ensures ∙ c.if-is.true))

pub returns : goal.returns
returns c = c.read_words.ensures ∙ sym (words_within c.args.turn c.args.text.now (sym c.is.ensures ∙ c.if-is.false))
