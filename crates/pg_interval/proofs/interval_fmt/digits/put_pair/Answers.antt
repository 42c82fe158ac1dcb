use Rattle.pg_interval.proofs.PutDigits.{pair_slice}
use Rattle.std.proofs.Common.{refl}
use Rattle.pg_interval.proofs.interval_fmt.digits.put_pair.Goals as goal

pub returns-clause-written : goal.returns-clause-written
returns-clause-written c = rw (c.put_word.ensures.written, pair_slice c.args.number c.requires.0) refl
