use Rattle.std.proofs.Common.{Ok, Err, Some, ap, sym, subst}
use Rattle.pg_messages.specs.Frames.{IsFrame}
use Rattle.conversation_table.specs.Table.{awaits, is_startup_phase}
use Rattle.conversation_runs.specs.Session.{IsUnread}
use Rattle.conversation_runs.specs.Steps.{IsStep}
use Rattle.conversation_runs.specs.declared.ends.Progress.TheVariants as progress
use Rattle.conversation_runs.proofs.Stepped.{step_answered, step_unread}
use Rattle.conversation_runs.proofs.Unread.{unread_as}
use Rattle.pg_session.proofs.session.Session.step_as.Goals as goal

pub answer_as-requires-clause-given : goal.answer_as-requires-clause-given
answer_as-requires-clause-given g c =
    let found = rw c.in-Ok-Some.field-0-is at c.in-Ok-Some.ensures.found in (
      found.0,
      subst (λ p. IsFrame (is_startup_phase p) found.0 (g.M.TypedMessage.message c.in-Ok-Some.message)) c.requires.ready.ready found.2,
    )

pub returns-in-Ok-Some : goal.returns-in-Ok-Some
returns-in-Ok-Some g c =
    let told = g.H.PgWireServerHandlers.told in
    let s = c.args.self.now in
    let n = c.next_typed.new.self in
    let last = c.answer_as.new.self in
    let m = g.M.TypedMessage.message c.in-Ok-Some.message in
    let desk = g.D.CancelDesk.told c.args.desk.now in
    let new_desk = g.D.CancelDesk.told c.answer_as.new.desk in
    let before = c.args.turns.now in
    let after = c.answer_as.new.turns in
    let kept = c.next_typed.ensures in
    let found = rw c.in-Ok-Some.field-0-is at c.in-Ok-Some.ensures.found in
    subst (λ step. IsStep told s.rest s last desk new_desk before after step) (sym c.told_end.ensures)
    (step_answered told s n last found.0 m desk new_desk before after c.answer_as.result kept.same.handlers kept.same.state kept.same.unsent found.1
    found.2 c.answer_as.ensures)

pub returns-in-Ok-None : goal.returns-in-Ok-None
returns-in-Ok-None g c =
    let kept = c.next_typed.ensures in
    let rest = rw c.in-Ok-None.field-0-is at c.in-Ok-None.ensures.kept in
    let unfinished = rw c.in-Ok-None.field-0-is at c.in-Ok-None.ensures.none in
    step_unread g.H.PgWireServerHandlers.told c.args.self.now c.next_typed.new.self (g.D.CancelDesk.told c.args.desk.now)
    c.args.turns.now (Ok (Some progress.More)) kept.same.handlers kept.same.state rest kept.same.unsent kept.same.opened c.requires.ready.opened unfinished

pub returns-in-Err : goal.returns-in-Err
returns-in-Err g c =
    let s = c.args.self.now in
    let kept = c.next_typed.ensures in
    let is_unread = subst (λ t. IsUnread (awaits s.state) s.rest t) (sym c.unread.ensures)
    (unread_as (awaits s.state) s.rest c.in-Err.error (λ e. c.in-Err.ensures.bad (ap Err e))) in
    step_unread g.H.PgWireServerHandlers.told s c.next_typed.new.self (g.D.CancelDesk.told c.args.desk.now) c.args.turns.now
    c.unread.result kept.same.handlers kept.same.state c.in-Err.ensures.err kept.same.unsent kept.same.opened c.requires.ready.opened is_unread
