use Rattle.conversation_laws.proofs.SomeRun as some
use Rattle.conversation_laws.proofs.runs.scripted_run_exists.Goals as goal

pub returns : goal.returns
returns g c rules s text script lawful steady = some.scripted_run rules lawful steady s text script
