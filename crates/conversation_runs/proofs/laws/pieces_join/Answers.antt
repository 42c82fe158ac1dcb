use Rattle.conversation_runs.specs.Session.{whole_rules}
use Rattle.conversation_runs.proofs.Answering.{whole_lawful}
use Rattle.conversation_runs.proofs.Feeding.{fed_then}
use Rattle.conversation_runs.proofs.laws.pieces_join.Goals as goal

pub returns : goal.returns
returns g c = λ h s t u text mid piece rest first before after out waiting old calls new result x y.
    fed_then (whole_rules h) (whole_lawful h) s t u text mid piece rest first before after out waiting old calls new result x y
