use Rattle.schedule.proofs.Transactions.{begins, begins_again, books_within, cancels_within, shows_of_within, shows_within}
use Rattle.schedule.proofs.laws.transactions_see_their_own.Goals as goal

pub returns-clause-begins : goal.returns-clause-begins
returns-clause-begins c = begins

pub returns-clause-begins_again : goal.returns-clause-begins_again
returns-clause-begins_again c = begins_again

pub returns-clause-books : goal.returns-clause-books
returns-clause-books c = books_within

pub returns-clause-cancels : goal.returns-clause-cancels
returns-clause-cancels c = cancels_within

pub returns-clause-shows : goal.returns-clause-shows
returns-clause-shows c = shows_within

pub returns-clause-shows_of : goal.returns-clause-shows_of
returns-clause-shows_of c = shows_of_within
