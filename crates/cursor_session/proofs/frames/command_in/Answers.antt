use Rattle.cursor_session.proofs.Heads.{no_query_no_command}
use Rattle.cursor_session.proofs.frames.command_in.Goals as goal

pub returns-in-None-clause-none : goal.returns-in-None-clause-none
returns-in-None-clause-none c = no_query_no_command c.args.frame.now c.in-None.ensures.none
