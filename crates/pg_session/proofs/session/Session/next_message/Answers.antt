use Rattle.std.proofs.Common.{Err, ap, sym, subst}
use Rattle.pg_messages.specs.Frames.{IsUnfinished, IsBad}
use Rattle.conversation_table.specs.Table.{awaits, is_startup_phase}
use Rattle.conversation_runs.specs.Session.{IsUnread}
use Rattle.conversation_runs.proofs.Unread.{unread_as}
use Rattle.pg_session.proofs.session.Session.next_message.Goals as goal
use Rattle.pg_session.proofs.session.Session.next_message.Goals.{in-Ok-Some, in-Ok-None, in-Err}

pub returns-clause-unread : goal.returns-clause-unread
returns-clause-unread g c =
    let text = c.self.inside.rest.items in
    let awaiting = is_startup_phase c.self.inside.client.info.state in
    elim c.match-decode.branch [
      | in-Ok-Some w ↦ rw w.result-is tt
      | in-Ok-None w ↦ rw w.result-is
          (subst (λ v. IsUnfinished (awaits v.state) v.rest) c.self.view_is
          (subst (λ b. IsUnfinished b text) c.awaits_startup-self-inside.ensures
          (rw w.in-Ok-None.field-0-is at w.in-Ok-None.ensures.none)))
      | in-Err w ↦ rw w.result-is
          (subst (λ v. IsUnread (awaits v.state) v.rest w.unread.result) c.self.view_is
          (subst (λ told. IsUnread awaiting text told) (sym w.unread.ensures)
          (unread_as awaiting text w.in-Err.error
          (λ e. subst (λ b. IsBad b text) c.awaits_startup-self-inside.ensures (w.in-Err.ensures.bad (ap Err e))))))
    ]
