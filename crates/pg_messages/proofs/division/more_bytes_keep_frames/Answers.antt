use Rattle.pg_messages.proofs.OneReading.{division_kept}
use Rattle.pg_messages.proofs.division.more_bytes_keep_frames.Goals as goal

pub returns : goal.returns
returns c = division_kept
