use Rattle.std.proofs.Common.{◌<◌, length, IfNone, sym, subst, ◌∙◌}
use Rattle.conversation_runs.specs.Session.{whole_rules}
use Rattle.conversation_runs.specs.Steps.{RoundSo}
use Rattle.conversation_runs.proofs.Behind.{nothing_waits, shorter_behind, open_behind, spent_behind}
use Rattle.conversation_runs.proofs.SentFirst.{cause_sent, round_sent, sent_bounded, sent_handlers, sent_opened, sent_origin, sent_registration, sent_shorter, sent_turns}
use Rattle.pg_session.proofs.session.Session.advance.Goals as goal

pub returns-clause-round : goal.returns-clause-round
returns-clause-round g c =
    let told = g.H.PgWireServerHandlers.told in
    let written = g.K.Sink.written in let faults = g.K.Sink.faults in
    let s = c.args.self.now in
    let n = c.step-step.new.self in
    let last = c.told_behind.new.self in
    let rules = whole_rules (told s.handlers) in
    let w = written c.args.sink.now in
    let u = written c.told_behind.new.sink in
    let desk = g.D.CancelDesk.told c.args.desk.now in
    let new_desk = g.D.CancelDesk.told c.step-step.new.desk in
    let k = desk.calls in
    let l = new_desk.calls in
    subst (λ t. RoundSo rules s.state s.rest t last.rest w u s.unsent last.unsent k l c.told_behind.result) (sym c.told_behind.ensures.same.state)
    (subst (λ r. RoundSo rules s.state s.rest n.state r w u s.unsent last.unsent k l c.told_behind.result) (sym c.told_behind.ensures.same.rest)
    (round_sent written faults g.K.Sink.origin told s.rest s n c.args.sink.now c.step-step.new.sink desk new_desk c.args.turns.now
    c.step-step.new.turns last.unsent c.told_behind.new.sink c.told_behind.result c.step-step.result c.step-step.ensures
    c.told_behind.ensures.sent c.told_behind.ensures.cause))

pub returns-clause-sent : goal.returns-clause-sent
returns-clause-sent g c = nothing_waits _ _ _ _ c.step-step.result c.told_behind.result c.told_behind.ensures.sent

pub returns-clause-shorter : goal.returns-clause-shorter
returns-clause-shorter g c =
    let r = c.step-step in
    let s = c.args.self.now in
    subst (λ r. IfNone c.told_behind.result (length r < length c.args.self.now.rest)) (sym c.told_behind.ensures.same.rest)
    (shorter_behind _ _ _ _ _ r.result c.told_behind.result c.told_behind.ensures.sent
    (sent_shorter g.K.Sink.written g.K.Sink.faults g.K.Sink.origin g.H.PgWireServerHandlers.told s.rest s r.new.self c.args.sink.now
    r.new.sink (g.D.CancelDesk.told c.args.desk.now) (g.D.CancelDesk.told r.new.desk) c.args.turns.now r.new.turns r.result r.ensures))

pub returns-clause-handlers : goal.returns-clause-handlers
returns-clause-handlers g c =
    let r = c.step-step in
    let s = c.args.self.now in
    c.told_behind.ensures.same.handlers
    ∙ sent_handlers g.K.Sink.written g.K.Sink.faults g.K.Sink.origin g.H.PgWireServerHandlers.told s.rest s r.new.self c.args.sink.now
    r.new.sink (g.D.CancelDesk.told c.args.desk.now) (g.D.CancelDesk.told r.new.desk) c.args.turns.now r.new.turns r.result r.ensures

pub returns-clause-causes : goal.returns-clause-causes
returns-clause-causes g c =
    let r = c.step-step in
    let s = c.args.self.now in
    let written = g.K.Sink.written in let faults = g.K.Sink.faults in let origin = g.K.Sink.origin in
    let told = g.H.PgWireServerHandlers.told in
    let desk = g.D.CancelDesk.told c.args.desk.now in let new_desk = g.D.CancelDesk.told r.new.desk in
    let before = c.args.turns.now in
    let sink = c.args.sink.now in
    record {
      cause = cause_sent written faults origin told s.rest s r.new.self sink r.new.sink desk new_desk before r.new.turns
          c.told_behind.new.self.unsent c.told_behind.new.sink c.told_behind.result r.result r.ensures c.told_behind.ensures.sent
          c.told_behind.ensures.cause;
      turns = spent_behind _ _ _ _ r.result c.told_behind.result _ _ before r.new.turns _ c.told_behind.ensures.sent
          c.told_behind.ensures.cause
          (sent_turns written faults origin told s.rest s r.new.self sink r.new.sink desk new_desk before r.new.turns r.result r.ensures);
      bounded = sent_bounded written faults origin told s.rest s r.new.self sink r.new.sink desk new_desk before r.new.turns r.result
          r.ensures;
      registration = sent_registration written faults origin told s.rest s r.new.self sink r.new.sink desk new_desk before r.new.turns
          r.result r.ensures;
      same = c.told_behind.ensures.sink
          ∙ sent_origin written faults origin told s.rest s r.new.self sink r.new.sink desk new_desk before r.new.turns r.result r.ensures;
    }

pub returns-clause-open : goal.returns-clause-open
returns-clause-open g c = λ more.
    let r = c.step-step in
    let s = c.args.self.now in
    c.told_behind.ensures.same.opened
    ∙ open_behind _ _ _ _ r.result c.told_behind.result c.told_behind.ensures.sent
    (sent_opened g.K.Sink.written g.K.Sink.faults g.K.Sink.origin g.H.PgWireServerHandlers.told s.rest s r.new.self c.args.sink.now
    r.new.sink (g.D.CancelDesk.told c.args.desk.now) (g.D.CancelDesk.told r.new.desk) c.args.turns.now r.new.turns r.result r.ensures)
    more
