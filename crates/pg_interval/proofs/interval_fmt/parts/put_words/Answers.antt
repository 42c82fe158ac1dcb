use Rattle.pg_interval.proofs.SpacedParts.{one_put, words_taken}
use Rattle.pg_interval.proofs.interval_fmt.parts.put_words.Goals as goal

pub returns-then-number-eq1-clause-written : goal.returns-then-number-eq1-clause-written
returns-then-number-eq1-clause-written c = one_put c.args.negative c.args.number c.args.word.now _ _ _ _ c.if-number-eq1.true
    (words_taken c.args.word.now c.args.words.now c.requires.words) c.put_byte_if-letter.ensures.written c.put_word.ensures.written
