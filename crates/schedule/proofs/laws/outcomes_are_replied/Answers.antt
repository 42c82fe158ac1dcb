use Rattle.schedule.proofs.Replying.{replied}
use Rattle.schedule.proofs.laws.outcomes_are_replied.Goals as goal

pub returns : goal.returns
returns c = replied
