use Rattle.std.proofs.Common.{◌≡◌, ◌≤◌, ◌<◌, ◌+◌, ◌-◌, ◌^◌, List, ℕ, [], true}
use Rattle.pg_messages.specs.Frames.{IsUnfinished}
use Rattle.pg_client.specs.Desk.{GoesOn}
use Rattle.conversation_table.specs.Questions.{questions_since}
use Rattle.conversation_table.specs.Table.{awaits}
use Rattle.pg_engine.specs.Serving.{TakesFrom, ReadsGaveBytes}
use Rattle.moving_runs.specs.Steps.{IsMetServed}
use Rattle.moving_serving.proofs.engine.serve_pieces.Given as goal

-- what was taken, met and served so far, and the turns and counts so far
abbrev pub invariant-turns : goal.invariant-turns
invariant-turns g l = record {
  taken : List ℕ;
  takes : TakesFrom (g.S.Source.left l.fn.source) (g.S.Source.left l.source) taken;
  served : IsMetServed g.C.MovingConversation.meets (g.C.MovingConversation.told l.fn.conversation).world
      (g.C.MovingConversation.told l.conversation).world (g.C.MovingConversation.told l.fn.conversation).state
      (g.C.MovingConversation.told l.conversation).state taken (g.C.MovingConversation.rest l.conversation) (g.K.Sink.written l.fn.sink)
      (g.K.Sink.written l.sink) [] [] (g.D.CancelDesk.told l.fn.desk).calls (g.D.CancelDesk.told l.desk).calls;
  short : IsUnfinished (awaits (g.C.MovingConversation.told l.conversation).state) (g.C.MovingConversation.rest l.conversation);
  opened : (g.C.MovingConversation.told l.conversation).is_open ≡ true;
  unsent : (g.C.MovingConversation.told l.conversation).unsent ≡ [];
  limit : l.turns.limit ≡ l.fn.turns.limit;
  counted : g.S.Source.reads l.fn.source + l.fn.turns.limit < 2 ^ 64
      → g.S.Source.reads l.source + questions_since (g.D.CancelDesk.told l.fn.desk).calls (g.D.CancelDesk.told l.desk).calls
      ≡ g.S.Source.reads l.fn.source + l.turns.spent;
  gave : ReadsGaveBytes (g.S.Source.left l.fn.source) (g.S.Source.left l.source) (g.S.Source.reads l.fn.source) (g.S.Source.reads l.source);
  spent : l.turns.spent ≤ l.turns.limit;
  read_faults : g.S.Source.faults l.source ≡ g.S.Source.faults l.fn.source;
  write_faults : g.K.Sink.faults l.sink ≡ g.K.Sink.faults l.fn.sink;
  registration : GoesOn (g.D.CancelDesk.told l.fn.desk) (g.D.CancelDesk.told l.desk);
  source : g.S.Source.origin l.source ≡ g.S.Source.origin l.fn.source;
  sink : g.K.Sink.origin l.sink ≡ g.K.Sink.origin l.fn.sink;
}

abbrev pub decreases-turns : goal.decreases-turns
decreases-turns g l = l.turns.limit - l.turns.spent
