use Rattle.std.proofs.Common.{◌≡◌, ◌++◌, [], ap, subst, ◌∙◌, append-nil, OnOk}
use Rattle.conversation_runs.specs.Session.{whole_rules, is_more}
use Rattle.conversation_runs.specs.Steps.{WasFed}
use Rattle.cursor_session.specs.Fronts.{around}
use Rattle.cursor_session.proofs.Steps.{pass_takes, pass_stands}
use Rattle.cursor_session.proofs.parts.Front.pass.Goals as goal

pub returns : goal.returns
returns g c =
    let old = g.C.FrontedSession.seen c.args.self.now.inner in
    let new = g.C.FrontedSession.seen c.feed.new.self in
    let held = c.args.self.now.held.items in
    let text = old.rest ++ c.args.bytes.now in
    let a = around g.K.Sink.written g.K.Sink.faults g.K.Sink.origin g.D.CancelDesk.told c.args.sink.now c.args.desk.now c.args.turns.now in
    let b = around g.K.Sink.written g.K.Sink.faults g.K.Sink.origin g.D.CancelDesk.told c.feed.new.sink c.feed.new.desk c.feed.new.turns in
    let rules = whole_rules (g.C.FrontedSession.told old.handlers) in
    let f = c.feed.ensures in
    record {
      took = pass_takes (g.C.FrontedSession.told old.handlers) old.state text c.args.owed new.state new.rest (new.rest ++ held) old.unsent a b
          c.feed.result c.requires.begun c.requires.quiet.sent (ap (λ l. new.rest ++ l) c.requires.held ∙ append-nil new.rest) f.fed
          f.causes.cause f.causes.turns f.causes.bounded f.causes.registration f.causes.same;
      stands = λ more.
          pass_stands (g.C.FrontedSession.told old.handlers) old.state text (record { inner = new; held = held; owed = c.args.owed })
          a.written b.written old.unsent a.desk.calls b.desk.calls c.requires.begun c.requires.held
          (record {
            opened = f.open ∙ ap is_more more;
            sent = subst (λ r. OnOk r (new.unsent ≡ [])) more f.sent;
          })
          (subst (λ r. WasFed rules old.state text new.state new.rest a.written b.written old.unsent a.desk.calls b.desk.calls r) more f.fed);
      handlers = f.handlers;
    }
