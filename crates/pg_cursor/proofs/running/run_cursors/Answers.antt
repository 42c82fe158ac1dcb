use Rattle.pg_cursor.proofs.Completing.{reported_status, run_complete}
use Rattle.pg_cursor.proofs.running.run_cursors.Goals as goal

pub returns-clause-complete : goal.returns-clause-complete
returns-clause-complete g c =
    run_complete _ c.carry_out-outcome.result _ _ c.tell.result c.carry_out-outcome.ensures.came
    (reported_status _ _ _ _ _ _ _ _ _ c.tell.ensures.reported)
