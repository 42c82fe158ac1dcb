use Rattle.relation_serving.proofs.Speaking.{speaks}
use Rattle.relation_serving.proofs.laws.whole_frames_decide.Goals as goal

pub returns : goal.returns
returns c = speaks
