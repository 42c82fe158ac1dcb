use Rattle.cursor_laws.proofs.Gathered.{fetches_page, no_command, other_keeps, rows_join_from_execute, rows_join_from_fetch, rows_join_later}
use Rattle.cursor_laws.proofs.laws.rows_of_cursors.Goals as goal

pub returns-clause-fetch : goal.returns-clause-fetch
returns-clause-fetch g c = fetches_page

pub returns-clause-other : goal.returns-clause-other
returns-clause-other g c = other_keeps

pub returns-clause-no_command : goal.returns-clause-no_command
returns-clause-no_command g c = no_command

pub returns-clause-in_turn : goal.returns-clause-in_turn
returns-clause-in_turn g c = rows_join_later

pub returns-clause-from_an_execute : goal.returns-clause-from_an_execute
returns-clause-from_an_execute g c = rows_join_from_execute

pub returns-clause-from_a_fetch : goal.returns-clause-from_a_fetch
returns-clause-from_a_fetch g c = rows_join_from_fetch
