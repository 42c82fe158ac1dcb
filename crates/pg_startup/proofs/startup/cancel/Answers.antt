use Rattle.pg_client.proofs.Desks.{goes_on_as, goes_on_after}
use Rattle.pg_startup.proofs.startup.cancel.Goals as goal

pub returns-in_err-cancel-clause-registration : goal.returns-in_err-cancel-clause-registration
returns-in_err-cancel-clause-registration g c = goes_on_as _ _ c.in_err-cancel.ensures.err

pub returns-clause-registration : goal.returns-clause-registration
returns-clause-registration g c = goes_on_after _ _ _ c.in_ok-cancel.ensures.ok
