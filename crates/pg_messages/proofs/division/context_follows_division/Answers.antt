use Rattle.pg_messages.proofs.Texts.{context_follows}
use Rattle.pg_messages.proofs.division.context_follows_division.Goals as goal

pub returns : goal.returns
returns c = context_follows
