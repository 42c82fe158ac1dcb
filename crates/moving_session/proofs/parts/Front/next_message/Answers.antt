use Rattle.std.proofs.Common.{Err, ap, sym, subst, ◌∙◌}
use Rattle.pg_messages.specs.Frames.{IsBad}
use Rattle.conversation_table.specs.Table.{awaits, is_startup_phase}
use Rattle.conversation_runs.specs.Session.{IsUnread}
use Rattle.conversation_runs.proofs.Unread.{unread_as}
use Rattle.moving_session.proofs.parts.Front.next_message.Goals as goal

pub returns-in-Err-clause-unread : goal.returns-in-Err-clause-unread
returns-in-Err-clause-unread g c =
    let text = c.args.self.now.rest.items in
    let awaiting = awaits (g.C.MetSession.seen c.args.self.now.inner).state in
    subst (λ told. IsUnread awaiting text told) (sym c.unread.ensures)
    (unread_as awaiting text c.in-Err.error (λ e.
    subst (λ b. IsBad b text) (c.awaits_startup-self.ensures ∙ ap is_startup_phase c.state.ensures) (c.in-Err.ensures.bad (ap Err e))))
