use Rattle.pg_messages.proofs.OneReading.{bad_more}
use Rattle.pg_messages.proofs.division.bad_stays_bad.Goals as goal

pub returns : goal.returns
returns c = bad_more
