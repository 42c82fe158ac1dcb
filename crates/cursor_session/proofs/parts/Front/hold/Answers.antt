use Rattle.std.proofs.Common.{◌≡◌, ◌++◌, sym, subst, refl, Ok}
use Rattle.conversation_runs.specs.declared.ends.Progress.TheVariants as progress
use Rattle.pg_messages.specs.Frames.{IsUnfinished}
use Rattle.conversation_table.specs.Table.{is_startup_phase}
use Rattle.cursor_session.specs.Fronts.{around}
use Rattle.cursor_session.specs.Seen.{front_seen}
use Rattle.cursor_session.proofs.Steps.{front_lost, front_holds}
use Rattle.cursor_session.proofs.parts.Front.hold.Goals as goal

pub returns-in_err-extend_from_slice : goal.returns-in_err-extend_from_slice
returns-in_err-extend_from_slice g c =
    let v = front_seen g.C.FrontedSession.seen c.args.self.now in
    let a = around g.K.Sink.written g.K.Sink.faults g.K.Sink.origin g.D.CancelDesk.told c.args.sink.now c.args.desk.now c.args.turns.now in
    front_lost g.C.FrontedSession.told v (c.args.self.now.held.items ++ c.args.part.now) c.extend_from_slice.new.self.items v.owed a
    c.from_residual.result c.from_residual.ensures.1

pub returns-then-is_short : goal.returns-then-is_short
returns-then-is_short g c =
    let v = front_seen g.C.FrontedSession.seen c.args.self.now in
    let held = c.extend_from_slice.new.self.items in
    let a = around g.K.Sink.written g.K.Sink.faults g.K.Sink.origin g.D.CancelDesk.told c.args.sink.now c.args.desk.now c.args.turns.now in
    front_holds g.C.FrontedSession.told v (c.args.self.now.held.items ++ c.args.part.now) held a c.requires.between.quiet c.requires.between.none
    c.requires.between.owed c.in_ok-extend_from_slice.ensures.ok
    (subst (λ l. IsUnfinished (is_startup_phase v.inner.state.info.state) l) c.as_slice.ensures
    (subst (λ p. IsUnfinished (is_startup_phase p) c.as_slice.result.now) c.state.ensures
    (c.is_short.ensures.short c.if-is_short.true)))

pub begin-requires-clause-between : goal.begin-requires-clause-between
begin-requires-clause-between g c =
    record { quiet = c.requires.between.quiet; none = c.requires.between.none; owed = c.requires.between.owed }
