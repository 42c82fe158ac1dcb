use Rattle.moving_runs.proofs.Lawful.{sheets_lawful}
use Rattle.moving_runs.proofs.laws.sheet_table_is_lawful.Goals as goal

pub returns : goal.returns
returns g c = sheets_lawful
