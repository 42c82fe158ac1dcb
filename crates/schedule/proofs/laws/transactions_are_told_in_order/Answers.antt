use Rattle.schedule.proofs.Transactions.{commits, failed, keeps, rolls_back}
use Rattle.schedule.proofs.laws.transactions_are_told_in_order.Goals as goal

pub returns-clause-keeps : goal.returns-clause-keeps
returns-clause-keeps c = keeps

pub returns-clause-failed : goal.returns-clause-failed
returns-clause-failed c = failed

pub returns-clause-commits : goal.returns-clause-commits
returns-clause-commits c = commits

pub returns-clause-rolls_back : goal.returns-clause-rolls_back
returns-clause-rolls_back c = rolls_back
