use Rattle.std.proofs.Common.{rules, ◌∙◌, subst, w32, FitsSigned}
use Rattle.std.proofs.lemmas.Int.{to_z-of_z}
use Rattle.std.specs.Arc.{arc_value}
use Rattle.pg_client.specs.State.{first_state}
use Rattle.conversation_runs.specs.Session.{whole_rules}
use Rattle.pg_engine.specs.Serving.{WentSo}
use Rattle.handler_serving.proofs.one_client.serve_client.Goals as goal

pub returns-clause-went : goal.returns-clause-went
returns-clause-went g c =
    let table = whole_rules (g.H.PgWireServerHandlers.told (arc_value c.args.handlers)) in
    let fits : FitsSigned w32 c.args.pid = search rules in
    let went = c.serve_connection.ensures.went in (
      went.0,
      subst (λ pid. WentSo table (first_state pid c.args.key) c.serve_connection.result
          (g.S.Source.left c.args.source.now) (g.S.Source.left c.serve_connection.new.source)
          (g.K.Sink.written c.args.sink.now) (g.K.Sink.written c.serve_connection.new.sink) went.0) (c.new-desk.ensures.pid ∙ to_z-of_z w32 c.args.pid fits)
          (subst (λ key. WentSo table (first_state c.new-desk.result.pid key) c.serve_connection.result
          (g.S.Source.left c.args.source.now) (g.S.Source.left c.serve_connection.new.source)
          (g.K.Sink.written c.args.sink.now) (g.K.Sink.written c.serve_connection.new.sink) went.0) c.new-desk.ensures.key went.2),
    )

pub returns-clause-calm : goal.returns-clause-calm
returns-clause-calm g c = c.serve_connection.ensures.serves.calm
