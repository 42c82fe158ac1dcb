use Rattle.std.proofs.Common.{◌≡◌, ◌++◌, List, ℕ, Ok, length}
use Rattle.conversation_runs.specs.declared.ends.Progress.TheVariants.{More}
use Rattle.cursor_session.specs.Fronts.{around, rest_of}
use Rattle.cursor_session.specs.Seen.{FrontTakes, front_seen}
use Rattle.cursor_session.proofs.parts.Front.take.Given as goal

-- what was taken so far
abbrev pub invariant-parts : goal.invariant-parts
invariant-parts g l = record {
  taken : List ℕ;
  split : l.fn.piece ≡ taken ++ l.rest;
  took : FrontTakes g.C.FrontedSession.told (front_seen g.C.FrontedSession.seen l.fn.self)
      (rest_of (front_seen g.C.FrontedSession.seen l.fn.self) ++ taken) (front_seen g.C.FrontedSession.seen l.self)
      (around g.K.Sink.written g.K.Sink.faults g.K.Sink.origin g.D.CancelDesk.told l.fn.sink l.fn.desk l.fn.turns)
      (around g.K.Sink.written g.K.Sink.faults g.K.Sink.origin g.D.CancelDesk.told l.sink l.desk l.turns) (Ok More);
}

abbrev pub decreases-parts : goal.decreases-parts
decreases-parts g l = length l.rest
