-- Both tables answer alike.
use Rattle.relation_tables.proofs.CoreConversations.{core_conversations_alike}
use Rattle.relation_tables.proofs.WholeIsCore.{conversations_alike}
use Rattle.relation_tables.proofs.laws.whole_is_core.Goals as goal

pub returns-clause-each : goal.returns-clause-each
returns-clause-each c setting answers messages even each = conversations_alike setting even answers messages each

pub returns-clause-up_to_the_end : goal.returns-clause-up_to_the_end
returns-clause-up_to_the_end c setting answers messages even each = core_conversations_alike setting even answers messages each
