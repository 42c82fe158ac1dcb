use Rattle.std.proofs.Common.{◌∙◌, ap, sym, arith}
use Rattle.pg_interval.specs.WordReader.{left, start, state}
use Rattle.pg_interval.proofs.ReadTokens.{left_trimmed, left_nothing, nothing_of}
use Rattle.pg_interval.proofs.interval_parse.postgres.read_words.Goals as goal

pub loop-rest-init : goal.loop-rest-init
loop-rest-init c = record {
  left = ap (λ s. left c.args.verbose c.args.turn s c.trim_start-rest.result.now) c.new-words.ensures
      ∙ ap (left c.args.verbose c.args.turn start) c.trim_start-rest.ensures.rest
      ∙ left_trimmed c.args.verbose c.args.turn start c.args.text.now;
  solid = c.trim_start-rest.ensures.solid;
}

pub loop-rest-preserved : goal.loop-rest-preserved
loop-rest-preserved c = record {
  left = c.in-Some.ensures.left ∙ c.loop-rest.invariant.left;
  solid = c.in-Some.ensures.next.1;
}

pub returns : goal.returns
returns c = sym (ap (left c.args.verbose c.args.turn (state c.loop-rest.words)) (nothing_of c.loop-rest.rest.now (grind arith))
    ∙ left_nothing c.args.verbose c.args.turn (state c.loop-rest.words)) ∙ c.loop-rest.invariant.left
