use Rattle.std.proofs.Common.{◌≡◌, ◌∙◌, ap, true, arith}
use Rattle.pg_interval.specs.Texts.{◌>>=◌}
use Rattle.pg_interval.specs.WordReader.{left, state, taken_times, times_from}
use Rattle.pg_interval.proofs.ReadTokens.{left_trimmed, after_taken}
use Rattle.pg_interval.proofs.interval_parse.parts.Words.pass_time.Goals as goal

pub returns-clause-left : goal.returns-clause-left
returns-clause-left c = λ v.
    let f = left v c.args.turn in
    let s = state c.take_clock.new.self in
    let t : c.take_clock.result ≡ true = grind arith in
    ap (f s) c.trim_start.ensures.rest ∙ left_trimmed v c.args.turn s c.args.rest.now
    ∙ after_taken c.take_clock.result (taken_times (state c.args.self.now) (times_from c.in-Some.clock)) s (λ t. f t c.args.rest.now) t
    c.take_clock.ensures
    ∙ ap (λ o. o >>= λ t. taken_times (state c.args.self.now) t >>= λ u. f u c.args.rest.now) c.in-Some.ensures
