use Rattle.relation_server.proofs.Completing.{reported_status, run_complete}
use Rattle.relation_server.proofs.one_client_program.run.Goals as goal

pub returns-clause-complete : goal.returns-clause-complete
returns-clause-complete g c =
    run_complete c.args.manager.now _ c.carry_out-outcome.result.0 c.carry_out-outcome.result.1 _ _ c.report.result
    c.carry_out-outcome.ensures.ran (reported_status _ _ _ _ _ _ _ _ _ c.report.ensures.reported)
