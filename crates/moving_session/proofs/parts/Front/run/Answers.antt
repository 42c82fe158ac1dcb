use Rattle.std.proofs.Common.{Ok, refl, subst, ◌∙◌}
use Rattle.pg_client.proofs.Desks.{goes_on_none, goes_on_then}
use Rattle.conversation_runs.specs.Streams.{HasSinkCause}
use Rattle.conversation_runs.specs.declared.ends.Progress.TheVariants.{More}
use Rattle.conversation_runs.proofs.Spending.{no_turn, fed_then}
use Rattle.moving_runs.proofs.Served.{none_served, served_then, told_met}
use Rattle.moving_session.proofs.parts.Front.run.Goals as goal

pub messages-init : goal.messages-init
messages-init g c =
    let first = g.C.MetSession.seen c.args.self.now.inner in
    record {
      served = none_served g.C.MetSession.meets first.world first.state c.args.self.now.rest.items (g.K.Sink.written c.args.sink.now)
          first.unsent (g.D.CancelDesk.told c.args.desk.now).calls;
      opened = c.requires;
      faults = refl;
      turns = no_turn c.args.turns.now (g.D.CancelDesk.told c.args.desk.now).calls;
      bounded = λ h. h;
      registration = goes_on_none _;
      origin = refl;
    }

pub returns-in-Some-clause-fed : goal.returns-in-Some-clause-fed
returns-in-Some-clause-fed g c =
    let first = g.C.MetSession.seen c.args.self.now.inner in
    let before = g.C.MetSession.seen c.messages.self.inner in
    let after = g.C.MetSession.seen c.advance.new.self.inner in
    let a = g.K.Sink.written c.args.sink.now in
    let b = g.K.Sink.written c.messages.sink in
    let d = g.K.Sink.written c.advance.new.sink in
    let k = (g.D.CancelDesk.told c.args.desk.now).calls in
    let l = (g.D.CancelDesk.told c.messages.desk).calls in
    let m = (g.D.CancelDesk.told c.advance.new.desk).calls in
    told_met g.C.MetSession.meets first.world before.world after.world first.state before.state after.state c.args.self.now.rest.items
    c.messages.self.rest.items c.advance.new.self.rest.items a b d first.unsent before.unsent after.unsent k l m c.messages.invariant.served
    c.in-Some.told c.in-Some.ensures.round

pub returns-in-Some-clause-causes : goal.returns-in-Some-clause-causes
returns-in-Some-clause-causes g c =
    let k = (g.D.CancelDesk.told c.args.desk.now).calls in
    let l = (g.D.CancelDesk.told c.messages.desk).calls in
    let m = (g.D.CancelDesk.told c.advance.new.desk).calls in
    let so_far = c.messages.invariant in
    let told = c.in-Some.ensures.causes in
    let round = c.in-Some.ensures.round in
    record {
      cause = subst (λ faults. HasSinkCause faults (g.K.Sink.faults c.advance.new.sink) c.in-Some.told) so_far.faults told.cause;
      turns = fed_then c.args.turns.now c.messages.turns c.advance.new.turns k l m so_far.served.made round.made c.in-Some.told
          so_far.served.grown round.grown so_far.turns told.turns;
      bounded = λ within. told.bounded (so_far.bounded within);
      registration = goes_on_then _ _ _ so_far.registration told.registration;
      same = told.same ∙ so_far.origin;
    }

pub messages-preserved : goal.messages-preserved
messages-preserved g c =
    let first = g.C.MetSession.seen c.args.self.now.inner in
    let before = g.C.MetSession.seen c.messages.self.inner in
    let after = g.C.MetSession.seen c.advance.new.self.inner in
    let a = g.K.Sink.written c.args.sink.now in
    let b = g.K.Sink.written c.messages.sink in
    let d = g.K.Sink.written c.advance.new.sink in
    let k = (g.D.CancelDesk.told c.args.desk.now).calls in
    let l = (g.D.CancelDesk.told c.messages.desk).calls in
    let m = (g.D.CancelDesk.told c.advance.new.desk).calls in
    let so_far = c.messages.invariant in
    let told = c.in-None.ensures in
    record {
      served = served_then g.C.MetSession.meets first.world before.world after.world first.state before.state after.state
          c.args.self.now.rest.items c.messages.self.rest.items c.advance.new.self.rest.items a b d first.unsent before.unsent after.unsent
          k l m so_far.served told.round;
      opened = told.«open» refl;
      faults = told.causes.cause.calm ∙ so_far.faults;
      turns = fed_then c.args.turns.now c.messages.turns c.advance.new.turns k l m so_far.served.made told.round.made (Ok More)
          so_far.served.grown told.round.grown so_far.turns told.causes.turns;
      bounded = λ within. told.causes.bounded (so_far.bounded within);
      registration = goes_on_then _ _ _ so_far.registration told.causes.registration;
      origin = told.causes.same ∙ so_far.origin;
    }
