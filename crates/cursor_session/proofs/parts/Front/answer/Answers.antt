use Rattle.std.proofs.Common.{refl, sym, subst, Ok, Err}
use Rattle.std.specs.List.{AllByRecursion}
use Rattle.cursor_commands.specs.Asking.{CanBeSent}
use Rattle.cursor_session.specs.Asking.{AreResponses}
use Rattle.cursor_session.specs.Fronts.{FrontValue, around}
use Rattle.cursor_session.specs.Seen.{FrontTakes, front_seen}
use Rattle.cursor_session.proofs.Heads.{ready_is_typed}
use Rattle.cursor_session.proofs.Steps.{front_lost, command_lost, command_takes, command_takes_cut}
use Rattle.cursor_session.proofs.parts.Front.answer.Goals as goal

pub returns-in_err-messages : goal.returns-in_err-messages
returns-in_err-messages g c = λ frame m carries asked.
    let v = front_seen g.C.FrontedSession.seen c.args.self.now in
    let a = around g.K.Sink.written g.K.Sink.faults g.K.Sink.origin g.D.CancelDesk.told c.args.sink.now c.args.desk.now c.args.turns.now in
    front_lost g.C.FrontedSession.told v frame v.held v.owed a c.from_residual.result c.from_residual.ensures.1

pub ask-requires-clause-open : goal.ask-requires-clause-open
ask-requires-clause-open g c = c.requires.between.quiet.opened

pub ask-requires-clause-typed : goal.ask-requires-clause-typed
ask-requires-clause-typed g c = ready_is_typed (g.C.FrontedSession.seen c.args.self.now.inner).state.info.state c.requires.ready

pub ask-requires-clause-sent : goal.ask-requires-clause-sent
ask-requires-clause-sent g c = subst (AllByRecursion CanBeSent) (sym c.in_ok-messages.ensures) c.requires.sent

pub returns-in-Ok-send_replies : goal.returns-in-Ok-send_replies
returns-in-Ok-send_replies g c = λ frame m carries asked.
    let v = front_seen g.C.FrontedSession.seen c.args.self.now in
    let asked_v = g.C.FrontedSession.seen c.ask.new.inner in
    let q = c.requires.between.quiet in
    let a = around g.K.Sink.written g.K.Sink.faults g.K.Sink.origin g.D.CancelDesk.told c.args.sink.now c.args.desk.now c.args.turns.now in
    let b = around g.K.Sink.written g.K.Sink.faults g.K.Sink.origin g.D.CancelDesk.told c.send_replies.new.sink c.ask.new.desk c.ask.new.turns in
    let sent_v = g.C.FrontedSession.seen c.send_replies.new.inner in
    let w : FrontValue _ _ = record { inner = sent_v; held = v.held; owed = v.owed } in
    let r = c.in-Ok-send_replies.ensures in
    let same = c.send_replies.ensures.same in
    let x = subst (λ l. AreResponses g.C.FrontedSession.told l v.inner asked_v a.desk b.desk a.turns b.turns (Ok c.in-Ok.end))
    c.in_ok-messages.ensures c.in-Ok.ensures in
    subst (λ p. FrontTakes g.C.FrontedSession.told v frame w a b (Ok p)) (sym c.told_by.ensures)
    (command_takes g.C.FrontedSession.told v asked_v c.args.command.now c.requires.ready q.opened q.sent c.requires.between.none c.requires.held c.requires.between.owed
    frame m carries asked a b sent_v c.in-Ok.end x same.state same.handlers c.send_replies.ensures.sink.sink same.rest same.opened r.empty r.ok
    r.sink.cause)

pub returns-in-Err-send_replies : goal.returns-in-Err-send_replies
returns-in-Err-send_replies g c = λ frame m carries asked.
    let v = front_seen g.C.FrontedSession.seen c.args.self.now in
    let asked_v = g.C.FrontedSession.seen c.ask.new.inner in
    let q = c.requires.between.quiet in
    let a = around g.K.Sink.written g.K.Sink.faults g.K.Sink.origin g.D.CancelDesk.told c.args.sink.now c.args.desk.now c.args.turns.now in
    let b = around g.K.Sink.written g.K.Sink.faults g.K.Sink.origin g.D.CancelDesk.told c.send_replies.new.sink c.ask.new.desk c.ask.new.turns in
    let sent_v = g.C.FrontedSession.seen c.send_replies.new.inner in
    let r = c.in-Err-send_replies.ensures in
    let same = c.send_replies.ensures.same in
    let x = subst (λ l. AreResponses g.C.FrontedSession.told l v.inner asked_v a.desk b.desk a.turns b.turns (Ok c.in-Ok.end))
    c.in_ok-messages.ensures c.in-Ok.ensures in
    command_takes_cut g.C.FrontedSession.told v asked_v c.args.command.now c.requires.ready q.opened q.sent c.requires.between.none c.requires.held c.requires.between.owed
    frame m carries asked a b sent_v c.in-Ok.end x same.state same.handlers c.send_replies.ensures.sink.sink c.in-Err-send_replies.error r.err
    r.sink.cause

pub returns-in-Err : goal.returns-in-Err
returns-in-Err g c = λ frame m carries asked.
    let v = front_seen g.C.FrontedSession.seen c.args.self.now in
    let asked_v = g.C.FrontedSession.seen c.ask.new.inner in
    let q = c.requires.between.quiet in
    let a = around g.K.Sink.written g.K.Sink.faults g.K.Sink.origin g.D.CancelDesk.told c.args.sink.now c.args.desk.now c.args.turns.now in
    let b = around g.K.Sink.written g.K.Sink.faults g.K.Sink.origin g.D.CancelDesk.told c.args.sink.now c.ask.new.desk c.ask.new.turns in
    let x = subst (λ l. AreResponses g.C.FrontedSession.told l v.inner asked_v a.desk b.desk a.turns b.turns (Err c.in-Err.error))
    c.in_ok-messages.ensures c.in-Err.ensures in
    command_lost g.C.FrontedSession.told v asked_v c.args.command.now c.requires.ready q.opened q.sent c.requires.between.none c.requires.held c.requires.between.owed
    frame m carries asked a b c.in-Err.error x refl refl refl
