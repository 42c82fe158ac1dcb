use Rattle.std.proofs.Common.{◌∙◌}
use Rattle.pg_interval.specs.WordReader.{state}
use Rattle.pg_interval.proofs.ReadTokens.{word_held}
use Rattle.pg_interval.proofs.interval_parse.parts.Words.pass_pair.Goals as goal

pub returns-clause-left : goal.returns-clause-left
returns-clause-left c = c.pass_word.ensures.left c.args.turn
    ∙ word_held c.args.verbose c.args.turn (state c.args.self.now) _ c.args.number.now c.args.word.now c.args.rest.now c.decimal.ensures
