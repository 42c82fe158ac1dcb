use Rattle.std.proofs.Common.{◌≤◌}
use Rattle.pg_client.specs.Desk.{KeepsDesk}
use Rattle.conversation_table.proofs.Asking.{IsWaiting}
use Rattle.pg_handlers.proofs.Waiting.{unpolled}
use Rattle.pg_handlers.proofs.query.wait.Given as goal

abbrev pub invariant-loop-desk : goal.invariant-loop-desk
invariant-loop-desk g l = record {
  so_far : IsWaiting (unpolled (g.Q.QueryState.told l.fn.query)) (unpolled (g.Q.QueryState.told l.query))
      (g.D.CancelDesk.told l.fn.desk).calls (g.D.CancelDesk.told l.desk).calls l.fn.turns l.turns;
  bounded : l.fn.turns.spent ≤ l.fn.turns.limit → l.turns.spent ≤ l.turns.limit;
  keeps : KeepsDesk (g.D.CancelDesk.told l.fn.desk) (g.D.CancelDesk.told l.desk);
}

abbrev pub decreases-loop-desk : goal.decreases-loop-desk
decreases-loop-desk g l = (g.Q.QueryState.told l.query).owes
