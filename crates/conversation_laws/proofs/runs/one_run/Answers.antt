use Rattle.conversation_laws.proofs.OneRun as one
use Rattle.conversation_laws.proofs.runs.one_run.Goals as goal

pub returns : goal.returns
returns g c rules s text replies others calls made kind other more lawful p q e =
    one.one_run rules lawful s text replies others calls made kind other more p q e
