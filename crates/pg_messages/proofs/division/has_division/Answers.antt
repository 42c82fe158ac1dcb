use Rattle.pg_messages.proofs.OneReading.{has_division}
use Rattle.pg_messages.proofs.division.has_division.Goals as goal

pub returns : goal.returns
returns c = has_division
