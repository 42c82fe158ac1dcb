use Rattle.std.proofs.Common.{◌∙◌, ap}
use Rattle.pg_interval.specs.Texts.{◌>>=◌}
use Rattle.pg_interval.specs.Pairs.{checked}
use Rattle.pg_interval.specs.Reader.{number_read}
use Rattle.pg_interval.specs.WordReader.{state, taken_one}
use Rattle.pg_interval.proofs.interval_parse.parts.Words.take_pair.Goals as goal

pub returns : goal.returns
returns c = c.take.ensures
    ∙ ap (λ o. o >>= λ u. taken_one (state c.args.self.now) u (checked (number_read c.args.number))) c.in-Some.ensures
