use Rattle.std.proofs.Common.{◌≡◌, ◌≤◌, true, length}
use Rattle.pg_client.specs.Desk.{GoesOn}
use Rattle.conversation_table.specs.Questions.{questions_since}
use Rattle.conversation_runs.proofs.Spending.{spent_more}
use Rattle.moving_runs.specs.Steps.{IsMetServed}
use Rattle.moving_session.proofs.parts.Front.run.Given as goal

-- what was met and served so far, and what a step asks of the session
abbrev pub invariant-messages : goal.invariant-messages
invariant-messages g l = record {
  served : IsMetServed g.C.MetSession.meets (g.C.MetSession.seen l.fn.self.inner).world (g.C.MetSession.seen l.self.inner).world
      (g.C.MetSession.seen l.fn.self.inner).state (g.C.MetSession.seen l.self.inner).state l.fn.self.rest.items l.self.rest.items
      (g.K.Sink.written l.fn.sink) (g.K.Sink.written l.sink) (g.C.MetSession.seen l.fn.self.inner).unsent
      (g.C.MetSession.seen l.self.inner).unsent (g.D.CancelDesk.told l.fn.desk).calls (g.D.CancelDesk.told l.desk).calls;
  opened : (g.C.MetSession.seen l.self.inner).is_open ≡ true;
  faults : g.K.Sink.faults l.sink ≡ g.K.Sink.faults l.fn.sink;
  turns : l.turns ≡ spent_more l.fn.turns (questions_since (g.D.CancelDesk.told l.fn.desk).calls (g.D.CancelDesk.told l.desk).calls);
  bounded : l.fn.turns.spent ≤ l.fn.turns.limit → l.turns.spent ≤ l.turns.limit;
  registration : GoesOn (g.D.CancelDesk.told l.fn.desk) (g.D.CancelDesk.told l.desk);
  origin : g.K.Sink.origin l.sink ≡ g.K.Sink.origin l.fn.sink;
}

abbrev pub decreases-messages : goal.decreases-messages
decreases-messages g l = length l.self.rest.items
