use Rattle.std.proofs.Common.{◌-◌, ◌≤◌}
use Rattle.cursor_commands.specs.Rewriting.{HasRows}
use Rattle.cursor_commands.proofs.page.rows_in.Given as goal

abbrev pub invariant-rows : goal.invariant-rows
invariant-rows l = record {
  within : l.len ≤ l.left;
  few : l.count ≤ l.len;
  rows : HasRows l.replies l.at l.len l.count;
}

abbrev pub decreases-rows : goal.decreases-rows
decreases-rows l = l.left - l.len
