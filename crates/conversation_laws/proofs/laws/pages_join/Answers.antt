use Rattle.conversation_laws.proofs.Joining.{pages_join_later, pages_join_from_start}
use Rattle.conversation_laws.proofs.Keeping.{keeps_portal}
use Rattle.conversation_laws.proofs.Taking.{execute_takes, start_takes}
use Rattle.conversation_laws.proofs.laws.pages_join.Goals as goal

pub returns-clause-page : goal.returns-clause-page
returns-clause-page g c h answers s m q k = execute_takes h answers s m q k

pub returns-clause-first_page : goal.returns-clause-first_page
returns-clause-first_page g c h answers s m r k = start_takes h answers s m r k

pub returns-clause-other : goal.returns-clause-other
returns-clause-other g c h answers s t name m e is = keeps_portal h s name answers t m e is

pub returns-clause-in_turn : goal.returns-clause-in_turn
returns-clause-in_turn g c = pages_join_later

pub returns-clause-from_the_start : goal.returns-clause-from_the_start
returns-clause-from_the_start g c = pages_join_from_start
