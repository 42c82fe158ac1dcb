use Rattle.counter.proofs.Counting.{counts, stays, tells}
use Rattle.counter.proofs.laws.next_is_the_next_number.Goals as goal

pub returns-clause-counts : goal.returns-clause-counts
returns-clause-counts c = counts

pub returns-clause-tells : goal.returns-clause-tells
returns-clause-tells c = tells

pub returns-clause-stays : goal.returns-clause-stays
returns-clause-stays c = stays
