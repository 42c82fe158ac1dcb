use Rattle.std.proofs.Common.{Ok, Err, Some, ap, sym, subst}
use Rattle.pg_messages.specs.Frames.{IsFrame}
use Rattle.conversation_table.specs.Table.{awaits, is_startup_phase}
use Rattle.conversation_runs.specs.Session.{IsUnread}
use Rattle.conversation_runs.specs.SentFirst.{IsSentStep}
use Rattle.conversation_runs.specs.declared.ends.Progress.TheVariants as progress
use Rattle.conversation_runs.proofs.SentFirst.{step_at_once, step_sent}
use Rattle.conversation_runs.proofs.Stepped.{step_unread}
use Rattle.conversation_runs.proofs.Unread.{unread_as}
use Rattle.pg_session.proofs.session.Session.step_query.Goals as goal

pub answer_query-requires-clause-given : goal.answer_query-requires-clause-given
answer_query-requires-clause-given g c =
    let found = rw c.in-Ok-Some.field-0-is at c.in-Ok-Some.ensures.found in (
      found.0,
      subst (λ p. IsFrame (is_startup_phase p) found.0 (g.M.TypedMessage.message c.in-Ok-Some.message)) c.requires.ready.ready found.2,
    )

pub returns-in-Ok-Some : goal.returns-in-Ok-Some
returns-in-Ok-Some g c =
    let told = g.H.PgWireServerHandlers.told in
    let written = g.K.Sink.written in let faults = g.K.Sink.faults in let origin = g.K.Sink.origin in
    let s = c.args.self.now in
    let n = c.next_typed.new.self in
    let a = c.answer_query in
    let last = a.new.self in
    let m = g.M.TypedMessage.message c.in-Ok-Some.message in
    let desk = g.D.CancelDesk.told c.args.desk.now in
    let new_desk = g.D.CancelDesk.told a.new.desk in
    let before = c.args.turns.now in
    let after = a.new.turns in
    let sink = c.args.sink.now in let new_sink = a.new.sink in
    let kept = c.next_typed.ensures in
    let found = rw c.in-Ok-Some.field-0-is at c.in-Ok-Some.ensures.found in
    subst (λ step. IsSentStep written faults origin told s.rest s last sink new_sink desk new_desk before after step)
    (sym c.told_end.ensures)
    (step_sent written faults origin told s n last found.0 m sink new_sink desk new_desk before after a.result kept.same.handlers
    kept.same.state kept.same.unsent found.1 found.2 a.ensures)

pub returns-in-Ok-None : goal.returns-in-Ok-None
returns-in-Ok-None g c =
    let told = g.H.PgWireServerHandlers.told in
    let kept = c.next_typed.ensures in
    let rest = rw c.in-Ok-None.field-0-is at c.in-Ok-None.ensures.kept in
    let unfinished = rw c.in-Ok-None.field-0-is at c.in-Ok-None.ensures.none in
    let desk = g.D.CancelDesk.told c.args.desk.now in
    step_at_once g.K.Sink.written g.K.Sink.faults g.K.Sink.origin told c.args.self.now.rest c.args.self.now c.next_typed.new.self
    c.args.sink.now desk desk c.args.turns.now c.args.turns.now (Ok (Some progress.More))
    (step_unread told c.args.self.now c.next_typed.new.self desk
    c.args.turns.now (Ok (Some progress.More)) kept.same.handlers kept.same.state rest kept.same.unsent kept.same.opened
    c.requires.ready.opened unfinished)

pub returns-in-Err : goal.returns-in-Err
returns-in-Err g c =
    let told = g.H.PgWireServerHandlers.told in
    let s = c.args.self.now in
    let kept = c.next_typed.ensures in
    let is_unread = subst (λ t. IsUnread (awaits s.state) s.rest t) (sym c.unread.ensures)
    (unread_as (awaits s.state) s.rest c.in-Err.error (λ e. c.in-Err.ensures.bad (ap Err e))) in
    let desk = g.D.CancelDesk.told c.args.desk.now in
    step_at_once g.K.Sink.written g.K.Sink.faults g.K.Sink.origin told s.rest s c.next_typed.new.self
    c.args.sink.now desk desk c.args.turns.now c.args.turns.now c.unread.result
    (step_unread told s c.next_typed.new.self desk c.args.turns.now
    c.unread.result kept.same.handlers kept.same.state c.in-Err.ensures.err kept.same.unsent kept.same.opened c.requires.ready.opened
    is_unread)
