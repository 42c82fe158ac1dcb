use Rattle.std.proofs.Common.{◌≡◌, ◌++◌, ◌-◌, ap, sym, subst, ◌∙◌, length}
use Rattle.pg_messages.specs.Frames.{told_len}
use Rattle.conversation_table.specs.Table.{is_startup_phase}
use Rattle.cursor_session.specs.Fronts.{BeginsNoCommand, IsBegun, around}
use Rattle.cursor_session.specs.Seen.{front_seen}
use Rattle.cursor_session.proofs.Steps.{front_lost, err_is}
use Rattle.cursor_session.proofs.Heads.{asked_can_be_sent, asked_some, if_none, begins_so, owed_so}
use Rattle.cursor_session.proofs.parts.Front.begin.Goals as goal

pub returns-in_err-command : goal.returns-in_err-command
returns-in_err-command g c =
    let v = front_seen g.C.FrontedSession.seen c.args.self.now in
    let a = around g.K.Sink.written g.K.Sink.faults g.K.Sink.origin g.D.CancelDesk.told c.args.sink.now c.args.desk.now c.args.turns.now in
    front_lost g.C.FrontedSession.told v c.args.bytes.now v.held v.owed a c.from_residual.result
    (err_is c.from_residual.result c.in_err-command.field-0.0 c.from_residual.ensures.1 c.in_err-command.ensures.error)

pub answer-requires-clause-sent : goal.answer-requires-clause-sent
answer-requires-clause-sent g c =
    let x = asked_some c.state-state.result c.args.bytes.now c.in_ok-command.field-0 c.in-Some.command c.in-Some.is
    c.in_ok-command.ensures.some in
    asked_can_be_sent c.args.bytes.now x.1.0 c.in-Some.command x.1.1 x.1.2

pub pass-requires-clause-begun : goal.pass-requires-clause-begun
pass-requires-clause-begun g c =
    let now = (g.C.FrontedSession.seen c.args.self.now.inner).state.info.state in
    let bytes = c.args.bytes.now in
    let st : c.state-state.result ≡ now = c.state-state.ensures in
    let owed : c.owed_by-owed.result ≡ told_len (is_startup_phase now) bytes - length bytes =
    c.owed_by-owed.ensures ∙ ap (λ b. told_len b bytes - length bytes) (c.awaits_startup.ensures ∙ ap is_startup_phase st) in
    let plain = subst (λ p. BeginsNoCommand p bytes) st
    (if_none c.in_ok-command.field-0 c.in-None.is c.in_ok-command.ensures.none) in
    subst (λ r. IsBegun now (r ++ bytes) c.owed_by-owed.result) (sym c.requires.between.none)
    (begins_so now bytes c.owed_by-owed.result c.requires.header c.requires.fits
    (owed_so (told_len (is_startup_phase now) bytes) (length bytes) c.owed_by-owed.result owed) plain)

pub returns-in-Some : goal.returns-in-Some
returns-in-Some g c =
    let x = asked_some c.state-state.result c.args.bytes.now c.in_ok-command.field-0 c.in-Some.command c.in-Some.is
    c.in_ok-command.ensures.some in
    c.answer.ensures c.args.bytes.now x.1.0 x.1.1 x.1.2
