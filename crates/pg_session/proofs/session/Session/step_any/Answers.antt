use Rattle.std.proofs.Common.{sym, subst}
use Rattle.conversation_runs.specs.Steps.{IsStep}
use Rattle.conversation_runs.proofs.Stepped.{step_answered, step_unread}
use Rattle.pg_session.proofs.session.Session.step_any.Goals as goal

pub returns-in-Ok : goal.returns-in-Ok
returns-in-Ok g c =
    let told = g.H.PgWireServerHandlers.told in
    let s = c.args.self.now in
    let n = c.next_message.new.self in
    let last = c.answer.new.self in
    let desk = g.D.CancelDesk.told c.args.desk.now in
    let new_desk = g.D.CancelDesk.told c.answer.new.desk in
    let before = c.args.turns.now in
    let after = c.answer.new.turns in
    let kept = c.in-Ok.ensures in
    subst (λ step. IsStep told s.rest s last desk new_desk before after step) (sym c.told_end.ensures)
    (step_answered told s n last kept.found.0 c.in-Ok.message desk new_desk before after c.answer.result kept.same.handlers kept.same.state
    kept.same.unsent kept.found.1 kept.found.2 c.answer.ensures)

pub returns-in-Err : goal.returns-in-Err
returns-in-Err g c =
    let kept = c.in-Err.ensures in
    step_unread g.H.PgWireServerHandlers.told c.args.self.now c.next_message.new.self (g.D.CancelDesk.told c.args.desk.now)
    c.args.turns.now c.in-Err.told kept.same.handlers kept.same.state kept.kept kept.same.unsent kept.same.opened c.requires kept.unread
