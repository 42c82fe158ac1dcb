use Rattle.moving_runs.proofs.Alike.{run_alike, cut_run_alike}
use Rattle.moving_runs.proofs.laws.one_sheet_is_the_whole_table.Goals as goal

pub returns-clause-run : goal.returns-clause-run
returns-clause-run g c = λ only sheets all s text bytes calls kind run. run_alike only s text bytes sheets calls kind all run

pub returns-clause-cut_off : goal.returns-clause-cut_off
returns-clause-cut_off g c = λ only sheets all s text bytes calls run. cut_run_alike only s text bytes sheets calls all run
