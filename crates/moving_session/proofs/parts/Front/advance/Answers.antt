use Rattle.std.proofs.Common.{sym, subst}
use Rattle.moving_runs.specs.Steps.{IsMetRound}
use Rattle.moving_runs.proofs.Served.{round_met}
use Rattle.moving_session.proofs.parts.Front.advance.Goals as goal

pub returns-clause-round : goal.returns-clause-round
returns-clause-round g c =
    let meets = g.C.MetSession.meets in
    let old = g.C.MetSession.seen c.args.self.now.inner in
    let mid = g.C.MetSession.seen c.step-step.new.self.inner in
    let last = g.C.MetSession.seen c.told_behind.new.inner in
    let text = c.args.self.now.rest.items in
    let rest = c.step-step.new.self.rest.items in
    let a = g.K.Sink.written c.args.sink.now in
    let b = g.K.Sink.written c.told_behind.new.sink in
    let desk = g.D.CancelDesk.told c.args.desk.now in
    let new_desk = g.D.CancelDesk.told c.step-step.new.desk in
    let result = c.told_behind.result in
    let same = c.told_behind.ensures.same in
    subst (λ w. IsMetRound meets old.world w old.state last.state text rest a b old.unsent last.unsent desk.calls new_desk.calls result)
    (sym same.world)
    (subst (λ s. IsMetRound meets old.world mid.world old.state s text rest a b old.unsent last.unsent desk.calls new_desk.calls result)
    (sym same.state)
    (round_met meets old mid text rest desk new_desk c.args.turns.now c.step-step.new.turns c.step-step.result result a b last.unsent
    (g.K.Sink.faults c.args.sink.now) (g.K.Sink.faults c.told_behind.new.sink) c.step-step.ensures c.told_behind.ensures.sent
    c.told_behind.ensures.cause))
