use Rattle.std.proofs.Common.{Ok, refl, subst, ◌∙◌}
use Rattle.pg_client.proofs.Desks.{goes_on_none, goes_on_then}
use Rattle.pg_client.specs.Answer.{Goes}
use Rattle.conversation_runs.specs.Session.{whole_rules}
use Rattle.conversation_runs.specs.Steps.{IsServed, WasFed}
use Rattle.conversation_runs.specs.Streams.{HasSinkCause}
use Rattle.conversation_runs.specs.declared.ends.Progress.TheVariants.{More}
use Rattle.conversation_runs.proofs.Answering.{whole_lawful}
use Rattle.conversation_runs.proofs.Rounds.{told_then, turns_then}
use Rattle.conversation_runs.proofs.Spending.{no_turn, fed_then}
use Rattle.conversation_runs.proofs.Stepping.{serves_none, serves_then}
use Rattle.pg_session.proofs.session.Session.run.Goals as goal

pub messages-init : goal.messages-init
messages-init g c =
    let x = c.args.self.now.handlers in
    let rules = whole_rules (g.H.PgWireServerHandlers.told x) in
    record {
      served = serves_none rules c.args.self.now.state c.args.self.now.rest c.args.self.now.rest
          (g.K.Sink.written c.args.sink.now) c.args.self.now.unsent
          (g.D.CancelDesk.told c.args.desk.now).calls refl;
      opened = c.requires;
      handlers = refl;
      faults = refl;
      turns = no_turn c.args.turns.now (g.D.CancelDesk.told c.args.desk.now).calls;
      bounded = λ h. h;
      registration = goes_on_none _;
      origin = refl;
    }

pub returns-in-Some-clause-fed : goal.returns-in-Some-clause-fed
returns-in-Some-clause-fed g c =
    let at = λ (x : g.row.H.Denot). whole_rules (g.H.PgWireServerHandlers.told x) in
    let first = c.args.self.now in
    let before = c.messages.self in
    let after = c.advance.new.self in
    let written = g.K.Sink.written c.messages.sink in
    let now = g.K.Sink.written c.advance.new.sink in
    let l = (g.D.CancelDesk.told c.messages.desk).calls in
    let m = (g.D.CancelDesk.told c.advance.new.desk).calls in
    let so_far = c.messages.invariant in
    told_then (at first.handlers) (whole_lawful (g.H.PgWireServerHandlers.told first.handlers)) first.state before.state after.state
    first.rest before.rest after.rest (g.K.Sink.written c.args.sink.now) written now first.unsent before.unsent
    (g.D.CancelDesk.told c.args.desk.now).calls l m so_far.served c.in-Some.told
    (subst (λ y. WasFed (at y) before.state before.rest after.state after.rest written now before.unsent l m c.in-Some.told)
    so_far.handlers c.in-Some.ensures.round)

pub returns-in-Some-clause-causes : goal.returns-in-Some-clause-causes
returns-in-Some-clause-causes g c =
    let at = λ (x : g.row.H.Denot). whole_rules (g.H.PgWireServerHandlers.told x) in
    let first = c.args.self.now in
    let before = c.messages.self in
    let after = c.advance.new.self in
    let written = g.K.Sink.written c.messages.sink in
    let now = g.K.Sink.written c.advance.new.sink in
    let l = (g.D.CancelDesk.told c.messages.desk).calls in
    let m = (g.D.CancelDesk.told c.advance.new.desk).calls in
    let so_far = c.messages.invariant in
    let told = c.in-Some.ensures.causes in
    record {
      cause = subst (λ faults. HasSinkCause faults (g.K.Sink.faults c.advance.new.sink) c.in-Some.told) so_far.faults told.cause;
      turns = turns_then (at first.handlers) (whole_lawful (g.H.PgWireServerHandlers.told first.handlers)) first.state before.state
          after.state first.rest before.rest after.rest (g.K.Sink.written c.args.sink.now) written now first.unsent before.unsent
          (g.D.CancelDesk.told c.args.desk.now).calls l m so_far.served c.in-Some.told c.args.turns.now c.messages.turns
          c.advance.new.turns
          (subst (λ y. WasFed (at y) before.state before.rest after.state after.rest written now before.unsent l m c.in-Some.told)
          so_far.handlers c.in-Some.ensures.round) so_far.turns told.turns;
      bounded = λ within. told.bounded (so_far.bounded within);
      registration = goes_on_then _ _ _ so_far.registration told.registration;
      same = told.same ∙ so_far.origin;
    }

pub messages-preserved : goal.messages-preserved
messages-preserved g c =
    let at = λ (x : g.row.H.Denot). whole_rules (g.H.PgWireServerHandlers.told x) in
    let x = c.args.self.now.handlers in
    let before = c.messages.self in
    let after = c.advance.new.self in
    let written = g.K.Sink.written c.messages.sink in
    let now = g.K.Sink.written c.advance.new.sink in
    let k = (g.D.CancelDesk.told c.args.desk.now).calls in
    let l = (g.D.CancelDesk.told c.messages.desk).calls in
    let m = (g.D.CancelDesk.told c.advance.new.desk).calls in
    let so_far = c.messages.invariant in
    let told = c.in-None.ensures in
    let round = subst (λ y. IsServed (at y) before.state before.rest after.rest (Goes after.state) written now before.unsent after.unsent l m)
    so_far.handlers told.round in
    record {
      served = serves_then (at x) (whole_lawful (g.H.PgWireServerHandlers.told x)) so_far.served round;
      opened = told.«open» refl;
      handlers = told.handlers ∙ so_far.handlers;
      faults = told.causes.cause.calm ∙ so_far.faults;
      turns = fed_then c.args.turns.now c.messages.turns c.advance.new.turns k l m so_far.served.called round.called (Ok More)
          so_far.served.grown round.grown so_far.turns told.causes.turns;
      bounded = λ within. told.causes.bounded (so_far.bounded within);
      registration = goes_on_then _ _ _ so_far.registration told.causes.registration;
      origin = told.causes.same ∙ so_far.origin;
    }
