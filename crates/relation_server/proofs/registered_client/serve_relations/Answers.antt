use Rattle.std.proofs.Common.{subst}
use Rattle.conversation_runs.specs.Session.{whole_rules}
use Rattle.pg_engine.specs.Around.{Serves, ServesSession, around}
use Rattle.pg_engine.specs.Serving.{WentSo}
use Rattle.relation_handlers.proofs.EvenRows.{even}
use Rattle.relation_tables.specs.RelationHandler.{relation_handlers}
use Rattle.pg_client.specs.State.{first_state}
use Rattle.pg_serve.specs.Desk.{desk_calls, desk_of}
use Rattle.relation_serving.proofs.CoreServing.{went_by_tables}
use Rattle.many_clients.proofs.Handles.{calls_are_made, made_since}
use Rattle.relation_server.proofs.registered_client.serve_relations.Given.{Over}
use Rattle.relation_server.proofs.registered_client.serve_relations.Goals as goal

-- as a session over these relations serves
served : (g : Over) (c : goal.After-serve_registered g) → let round = around g.S.Source.left g.S.Source.reads g.S.Source.faults
    g.S.Source.origin g.K.Sink.written g.K.Sink.faults g.K.Sink.origin desk_of in
    ServesSession (relation_handlers c.args.relations.now) c.args.turn_limit c.serve_registered.result
    (round c.args.source.now c.args.sink.now c.args.handle.now)
    (round c.serve_registered.new.source c.serve_registered.new.sink c.serve_registered.new.handle)
served g c =
    let round = around g.S.Source.left g.S.Source.reads g.S.Source.faults g.S.Source.origin g.K.Sink.written g.K.Sink.faults
    g.K.Sink.origin desk_of in
    let told = c.serve_registered.ensures.served in
    subst (λ at. Serves (whole_rules (relation_handlers c.args.relations.now)) at c.args.turn_limit c.serve_registered.result
    (round c.args.source.now c.args.sink.now c.args.handle.now)
    (round c.serve_registered.new.source c.serve_registered.new.sink c.serve_registered.new.handle)) told.begun told.serves

pub returns-clause-went : goal.returns-clause-went
returns-clause-went g c =
    let relations = c.args.relations.now in
    let old = c.args.handle.now in
    let new = c.serve_registered.new.handle in
    let went = (served g c).went in
    let made = made_since old.mine new.mine c.serve_registered.ensures.grown in (
      made.0,
      made.1,
      went_by_tables relations (old.pid, old.key) c.relations-valid.ensures.within
          (even relations c.relations-valid.ensures.valid) c.serve_registered.result (g.S.Source.left c.args.source.now)
          (g.S.Source.left c.serve_registered.new.source) (g.K.Sink.written c.args.sink.now)
          (g.K.Sink.written c.serve_registered.new.sink) (desk_calls made.0)
          (subst (λ calls. WentSo (whole_rules (relation_handlers relations)) (first_state old.pid old.key) c.serve_registered.result
          (g.S.Source.left c.args.source.now) (g.S.Source.left c.serve_registered.new.source) (g.K.Sink.written c.args.sink.now)
          (g.K.Sink.written c.serve_registered.new.sink) calls)
          (calls_are_made old.mine new.mine made.0 went.0 made.1 went.1) went.2),
    )

pub returns-clause-serves : goal.returns-clause-serves
returns-clause-serves g c = served g c

pub returns-clause-complete : goal.returns-clause-complete
returns-clause-complete g c = c.serve_registered.ensures.served.promised
