use Rattle.pg_messages.proofs.OneReading.{whole_prefix}
use Rattle.pg_messages.proofs.division.no_frame_begins_another.Goals as goal

pub returns : goal.returns
returns c = whole_prefix
