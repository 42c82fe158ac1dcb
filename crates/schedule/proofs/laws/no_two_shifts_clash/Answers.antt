use Rattle.schedule.proofs.Ordering.{no_clash}
use Rattle.schedule.proofs.laws.no_two_shifts_clash.Goals as goal

pub returns : goal.returns
returns c = no_clash
