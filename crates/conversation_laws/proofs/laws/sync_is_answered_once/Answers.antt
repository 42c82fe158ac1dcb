use Rattle.conversation_laws.proofs.Discards.{answered_once, dropped_in_copy}
use Rattle.conversation_laws.proofs.laws.sync_is_answered_once.Goals as goal

pub returns-clause-outside : goal.returns-clause-outside
returns-clause-outside g c = answered_once

pub returns-clause-inside : goal.returns-clause-inside
returns-clause-inside g c = dropped_in_copy
