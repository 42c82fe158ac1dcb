use Rattle.std.proofs.Common.{◌≡◌, ◌≤◌, ◌<◌, ◌+◌, ◌-◌, ◌^◌, List, ℕ, [], true}
use Rattle.pg_messages.specs.Frames.{IsUnfinished}
use Rattle.pg_client.specs.Desk.{GoesOn}
use Rattle.pg_client.specs.Answer.{Goes}
use Rattle.conversation_table.specs.Questions.{questions_since}
use Rattle.conversation_runs.specs.Steps.{IsServed}
use Rattle.pg_engine.specs.Serving.{TakesFrom, ReadsGaveBytes}
use Rattle.pg_engine.proofs.engine.serve_pieces.Given as goal

-- what was taken and served so far, and the turns and counts so far
abbrev pub invariant-turns : goal.invariant-turns
invariant-turns g l = record {
  taken : List ℕ;
  takes : TakesFrom (g.S.Source.left l.fn.source) (g.S.Source.left l.source) taken;
  served : IsServed (g.C.Conversation.told l.fn.conversation).rules
      (g.C.Conversation.told l.fn.conversation).state taken (g.C.Conversation.told l.conversation).rest
      (Goes (g.C.Conversation.told l.conversation).state) (g.K.Sink.written l.fn.sink) (g.K.Sink.written l.sink) [] []
      (g.D.CancelDesk.told l.fn.desk).calls (g.D.CancelDesk.told l.desk).calls;
  short : IsUnfinished ((g.C.Conversation.told l.fn.conversation).rules.awaits (g.C.Conversation.told l.conversation).state)
      (g.C.Conversation.told l.conversation).rest;
  opened : (g.C.Conversation.told l.conversation).is_open ≡ true;
  unsent : (g.C.Conversation.told l.conversation).unsent ≡ [];
  rules : (g.C.Conversation.told l.conversation).rules ≡ (g.C.Conversation.told l.fn.conversation).rules;
  limit : l.turns.limit ≡ l.fn.turns.limit;
  counted : g.S.Source.reads l.fn.source + l.fn.turns.limit < 2 ^ 64
      → g.S.Source.reads l.source + questions_since (g.D.CancelDesk.told l.fn.desk).calls (g.D.CancelDesk.told l.desk).calls
      ≡ g.S.Source.reads l.fn.source + l.turns.spent;
  gave : ReadsGaveBytes (g.S.Source.left l.fn.source) (g.S.Source.left l.source) (g.S.Source.reads l.fn.source) (g.S.Source.reads l.source);
  spent : l.turns.spent ≤ l.turns.limit;
  read_faults : g.S.Source.faults l.source ≡ g.S.Source.faults l.fn.source;
  write_faults : g.K.Sink.faults l.sink ≡ g.K.Sink.faults l.fn.sink;
  registration : GoesOn (g.D.CancelDesk.told l.fn.desk) (g.D.CancelDesk.told l.desk);
  source : g.S.Source.origin l.source ≡ g.S.Source.origin l.fn.source;
  sink : g.K.Sink.origin l.sink ≡ g.K.Sink.origin l.fn.sink;
}

abbrev pub decreases-turns : goal.decreases-turns
decreases-turns g l = l.turns.limit - l.turns.spent
