use Rattle.conversation_laws.proofs.CallsGoOn as go
use Rattle.conversation_laws.proofs.runs.calls_go_on.Goals as goal

pub returns : goal.returns
returns g c rules s front behind replies made calls kind lawful steady so_far run agree =
    go.calls_go_on rules lawful steady s front behind replies made calls kind so_far run agree
