use Rattle.std.proofs.Common.{◌++◌, sym, subst}
use Rattle.std.specs.Arc.{arc_value}
use Rattle.pg_client.specs.State.{state_of}
use Rattle.conversation_runs.specs.Session.{whole_rules}
use Rattle.conversation_runs.specs.Steps.{WasFed}
use Rattle.conversation_runs.proofs.Stepping.{cut_none}
use Rattle.pg_session.proofs.session.Session.feed.Goals as goal

pub returns-after-self-clause-fed : goal.returns-after-self-clause-fed
returns-after-self-clause-fed g c =
    let at = λ (x : g.row.H.Denot). whole_rules (g.H.PgWireServerHandlers.told x) in
    let maps = g.St.PortalStore.maps in
    let inside = c.self.inside in
    let new = c.self-in-Ok.inside in
    let w = g.K.Sink.written c.args.sink.now in
    let u = g.K.Sink.written c.run-outcome.new.sink in
    let k = (g.D.CancelDesk.told c.args.desk.now).calls in
    let l = (g.D.CancelDesk.told c.run-outcome.new.desk).calls in
    let result = c.run-outcome.result in
    subst (λ v. WasFed (at v.handlers) v.state (v.rest ++ c.args.piece.now) (state_of maps new.client) new.rest.items w u v.unsent k l result)
    c.self.view_is
    (subst (λ r. WasFed (at (arc_value inside.handlers)) (state_of maps inside.client) r (state_of maps new.client) new.rest.items w u
    inside.client.outbox k l result) c.in-Ok.ensures.ok
    (subst (λ v. WasFed (at (arc_value inside.handlers)) (state_of maps inside.client) c.extend_from_slice.new.self.items v.state v.rest w u
    inside.client.outbox k l result) (sym c.self-in-Ok.view_is) c.run-outcome.ensures.fed))

pub returns-in-Err-clause-fed : goal.returns-in-Err-clause-fed
returns-in-Err-clause-fed g c =
    let x = c.args.self.now.handlers in
    cut_none (whole_rules (g.H.PgWireServerHandlers.told x))
    c.args.self.now.state (c.args.self.now.rest ++ c.args.piece.now) (g.K.Sink.written c.args.sink.now) c.args.self.now.unsent
    (g.D.CancelDesk.told c.args.desk.now).calls
