use Rattle.std.proofs.Common.{◌-◌, ◌≤◌}
use Rattle.cursor_commands.specs.Rewriting.{HasPage, fetch_replies}
use Rattle.cursor_commands.proofs.page.page_behind.Given as goal

abbrev pub invariant-rows : goal.invariant-rows
invariant-rows l = record {
  within : l.len ≤ l.all;
  few : l.rows ≤ l.len;
  page : HasPage fetch_replies l.replies l.columns l.len l.rows;
}

abbrev pub decreases-rows : goal.decreases-rows
decreases-rows l = l.all - l.len
