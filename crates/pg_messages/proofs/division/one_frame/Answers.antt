use Rattle.pg_messages.proofs.OneReading.{one_frame}
use Rattle.pg_messages.proofs.division.one_frame.Goals as goal

pub returns : goal.returns
returns c = one_frame
