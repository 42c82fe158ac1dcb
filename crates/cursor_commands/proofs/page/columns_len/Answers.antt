use Rattle.cursor_commands.proofs.PageLemmas.{columns_page}
use Rattle.cursor_commands.proofs.page.columns_len.Goals as goal

pub returns-in-Some-clause-page : goal.returns-in-Some-clause-page
returns-in-Some-clause-page c = columns_page c.args.replies.now c.in-Some.len c.in-Some.ensures
