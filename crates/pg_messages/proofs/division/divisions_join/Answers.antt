use Rattle.pg_messages.proofs.OneReading.{division_joined, awaits_joined}
use Rattle.pg_messages.proofs.division.divisions_join.Goals as goal

pub returns-clause-messages : goal.returns-clause-messages
returns-clause-messages c = division_joined

pub returns-clause-awaiting : goal.returns-clause-awaiting
returns-clause-awaiting c = awaits_joined
