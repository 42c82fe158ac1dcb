use Rattle.std.proofs.Common.{length}
use Rattle.cursor_session.proofs.InTurn.{AreAsked}
use Rattle.cursor_session.proofs.asking.ask.Given as goal

-- the messages that are left are asked, behind those that were answered
abbrev pub invariant-messages : goal.invariant-messages
invariant-messages g l =
    AreAsked g.C.FrontedSession.told l.fn.messages.items l.messages.items (g.C.FrontedSession.seen l.fn.inner)
    (g.C.FrontedSession.seen l.inner) (g.D.CancelDesk.told l.fn.desk) (g.D.CancelDesk.told l.desk) l.fn.turns l.turns

abbrev pub decreases-messages : goal.decreases-messages
decreases-messages g l = length l.messages.items
