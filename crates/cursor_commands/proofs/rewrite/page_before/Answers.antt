use Rattle.std.proofs.Common.{sym, subst}
use Rattle.cursor_commands.specs.Rewriting.{HasPage, counted_replies}
use Rattle.cursor_commands.proofs.rewrite.page_before.Goals as goal

pub returns-in-Fetch-clause-page : goal.returns-in-Fetch-clause-page
returns-in-Fetch-clause-page c =
    subst (λ k. HasPage (counted_replies k) c.args.replies.now c.page_of.result.columns c.page_of.result.len c.page_of.result.rows)
    (sym c.in-Fetch.is) c.page_of.ensures.page
