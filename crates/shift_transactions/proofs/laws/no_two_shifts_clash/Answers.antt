use Rattle.shift_transactions.proofs.Changes.{IsTimetable-changed}
use Rattle.shift_transactions.proofs.laws.no_two_shifts_clash.Goals as goal

pub returns : goal.returns
returns c = IsTimetable-changed
