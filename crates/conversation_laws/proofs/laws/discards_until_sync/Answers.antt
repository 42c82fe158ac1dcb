use Rattle.conversation_laws.proofs.Discards.{ends_with_error, one_dropped, all_dropped, answered_after_error, no_longer}
use Rattle.conversation_laws.proofs.Telling.{response_ends}
use Rattle.conversation_laws.proofs.laws.discards_until_sync.Goals as goal

pub returns-clause-error : goal.returns-clause-error
returns-clause-error g c = ends_with_error

pub returns-clause-error_response : goal.returns-clause-error_response
returns-clause-error_response g c = response_ends

pub returns-clause-each : goal.returns-clause-each
returns-clause-each g c = one_dropped

pub returns-clause-all : goal.returns-clause-all
returns-clause-all g c = all_dropped

pub returns-clause-sync : goal.returns-clause-sync
returns-clause-sync g c = answered_after_error

pub returns-clause-no_longer : goal.returns-clause-no_longer
returns-clause-no_longer g c = no_longer
