use Rattle.cursor_commands.proofs.SendLemmas.{can_be_sent}
use Rattle.cursor_commands.proofs.laws.commands_can_be_sent.Goals as goal

pub returns : goal.returns
returns c = can_be_sent
