use Rattle.std.proofs.Common.{◌≡◌, ◌≤◌, true, length}
use Rattle.pg_client.specs.Desk.{GoesOn}
use Rattle.pg_client.specs.Answer.{Goes}
use Rattle.conversation_table.specs.Questions.{questions_since}
use Rattle.conversation_runs.specs.Session.{whole_rules}
use Rattle.conversation_runs.specs.Steps.{IsServed}
use Rattle.conversation_runs.proofs.Spending.{spent_more}
use Rattle.pg_session.proofs.session.Session.run.Given as goal

-- what was served so far, and what a step asks of the session
abbrev pub invariant-messages : goal.invariant-messages
invariant-messages g l = record {
  served : IsServed (whole_rules (g.H.PgWireServerHandlers.told l.fn.self.handlers))
      l.fn.self.state l.fn.self.rest l.self.rest (Goes l.self.state) (g.K.Sink.written l.fn.sink)
      (g.K.Sink.written l.sink) l.fn.self.unsent l.self.unsent
      (g.D.CancelDesk.told l.fn.desk).calls (g.D.CancelDesk.told l.desk).calls;
  opened : l.self.is_open ≡ true;
  handlers : l.self.handlers ≡ l.fn.self.handlers;
  faults : g.K.Sink.faults l.sink ≡ g.K.Sink.faults l.fn.sink;
  turns : l.turns ≡ spent_more l.fn.turns (questions_since (g.D.CancelDesk.told l.fn.desk).calls (g.D.CancelDesk.told l.desk).calls);
  bounded : l.fn.turns.spent ≤ l.fn.turns.limit → l.turns.spent ≤ l.turns.limit;
  registration : GoesOn (g.D.CancelDesk.told l.fn.desk) (g.D.CancelDesk.told l.desk);
  origin : g.K.Sink.origin l.sink ≡ g.K.Sink.origin l.fn.sink;
}

abbrev pub decreases-messages : goal.decreases-messages
decreases-messages g l = length l.self.rest
