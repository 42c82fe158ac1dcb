use Rattle.std.proofs.Common.{◌≡◌, ◌++◌, ◌-◌, ◌≤◌, length, drop}
use Rattle.cursor_commands.proofs.page.copy_from.Given as goal

abbrev pub invariant-places : goal.invariant-places
invariant-places l = record {
  within : l.place ≤ length l.replies;
  copied : l.copy.items ++ drop l.place l.replies ≡ drop l.at l.replies;
}

abbrev pub decreases-places : goal.decreases-places
decreases-places l = length l.replies - l.place
