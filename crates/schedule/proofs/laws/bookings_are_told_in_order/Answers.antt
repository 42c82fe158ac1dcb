use Rattle.schedule.proofs.Ordering.{books, cancels, opens_none, shows, shows_of}
use Rattle.schedule.proofs.laws.bookings_are_told_in_order.Goals as goal

pub returns-clause-books : goal.returns-clause-books
returns-clause-books c = books

pub returns-clause-cancels : goal.returns-clause-cancels
returns-clause-cancels c = cancels

pub returns-clause-shows : goal.returns-clause-shows
returns-clause-shows c = shows

pub returns-clause-shows_of : goal.returns-clause-shows_of
returns-clause-shows_of c = shows_of

pub returns-clause-opens_none : goal.returns-clause-opens_none
returns-clause-opens_none c = opens_none
