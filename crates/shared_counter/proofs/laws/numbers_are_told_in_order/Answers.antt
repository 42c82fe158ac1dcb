use Rattle.shared_counter.proofs.Numbers.{numbers, tells_next}
use Rattle.shared_counter.proofs.laws.numbers_are_told_in_order.Goals as goal

pub returns-clause-numbers : goal.returns-clause-numbers
returns-clause-numbers c = numbers

pub returns-clause-tells : goal.returns-clause-tells
returns-clause-tells c = tells_next
