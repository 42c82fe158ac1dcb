use Rattle.pg_messages.proofs.OneReading.{frame_not_bad}
use Rattle.pg_messages.proofs.division.frame_is_no_rest.Goals as goal

pub returns-clause-good : goal.returns-clause-good
returns-clause-good c = frame_not_bad
