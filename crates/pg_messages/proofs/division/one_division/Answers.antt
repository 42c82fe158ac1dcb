use Rattle.pg_messages.proofs.OneReading.{one_division}
use Rattle.pg_messages.proofs.division.one_division.Goals as goal

pub returns : goal.returns
returns c = one_division
