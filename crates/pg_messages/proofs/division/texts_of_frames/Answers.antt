use Rattle.pg_messages.proofs.Texts.{frame_texts}
use Rattle.pg_messages.proofs.division.texts_of_frames.Goals as goal

pub returns : goal.returns
returns c = frame_texts
