use Rattle.cursor_laws.proofs.Example.{page_told, third_left, two_fetched}
use Rattle.cursor_laws.proofs.laws.two_of_three_rows.Goals as goal

pub returns-clause-sent : goal.returns-clause-sent
returns-clause-sent g c = two_fetched

pub returns-clause-page : goal.returns-clause-page
returns-clause-page g c = page_told

pub returns-clause-left : goal.returns-clause-left
returns-clause-left g c = third_left
