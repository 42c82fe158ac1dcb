use Rattle.std.proofs.Common.{◌≡◌, false, length}
use Rattle.pg_interval.specs.Texts.{begins, is_whitespace}
use Rattle.pg_interval.specs.WordReader.{left, start, state}
use Rattle.pg_interval.proofs.interval_parse.postgres.read_words.Given as goal

abbrev pub invariant-loop-rest : goal.invariant-loop-rest
invariant-loop-rest l = record {
  left : left l.verbose l.turn (state l.words) l.rest ≡ left l.verbose l.turn start l.text;
  solid : begins is_whitespace l.rest ≡ false;
}

abbrev pub decreases-loop-rest : goal.decreases-loop-rest
decreases-loop-rest l = length l.rest
