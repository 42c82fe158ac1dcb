use Rattle.std.proofs.Common.{◌≡◌, ◌∙◌, ap, true, arith}
use Rattle.pg_interval.specs.Reader.{number_read}
use Rattle.pg_interval.specs.WordReader.{left, state, taken_word}
use Rattle.pg_interval.proofs.ReadTokens.{left_trimmed, after_taken}
use Rattle.pg_interval.proofs.interval_parse.parts.Words.pass_word.Goals as goal

pub returns-clause-left : goal.returns-clause-left
returns-clause-left c = λ turn.
    let f = left c.args.verbose turn in
    let s = state c.take_pair.new.self in
    let t : c.take_pair.result ≡ true = grind arith in
    ap (f s) c.trim_start.ensures.rest ∙ left_trimmed c.args.verbose turn s c.args.rest.now
    ∙ after_taken c.take_pair.result (taken_word c.args.verbose (state c.args.self.now) (number_read c.args.number) c.args.word.now)
    s (λ t. f t c.args.rest.now) t c.take_pair.ensures
