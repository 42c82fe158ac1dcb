use Rattle.std.proofs.Common.{◌∙◌, refl}
use Rattle.pg_interval.specs.Reader.{decimal_from}
use Rattle.pg_interval.specs.WordReader.{state}
use Rattle.pg_interval.proofs.FrontReads.{pair_at}
use Rattle.pg_interval.proofs.interval_parse.parts.Words.take_next.Goals as goal

pub returns-clause-left : goal.returns-clause-left
returns-clause-left c =
    c.pass_word.ensures.left c.args.turn
    ∙ pair_at c.args.verbose c.args.turn (state c.args.self.now) (decimal_from c.in-Some.number) _ c.args.text.now
    c.in-Some.word.now c.in-Some.rest.now c.in-Some.ensures refl
