use Rattle.std.proofs.Common.{◌≡◌, refl, subst}
use Rattle.client_services.specs.Served.{IsServedBy}
use Rattle.cursor_table.specs.CursorTable.{cursor_rules}
use Rattle.pg_client.specs.State.{first_state}
use Rattle.pg_engine.specs.Around.{around}
use Rattle.relation_serving.specs.Completeness.{IsComplete}
use Rattle.relation_tables.specs.RelationHandler.{relation_handlers}
use Rattle.cursor_serving.proofs.service.CursorServiceService.serve.Goals as goal

-- the relations that clients share are those that the client was served over
pub returns : goal.returns
returns g c =
    let round = around g.S.Source.left g.S.Source.reads g.S.Source.faults g.S.Source.origin g.K.Sink.written g.K.Sink.faults
    g.K.Sink.origin g.D.CancelDesk.told in
    let registration = (g.D.CancelDesk.told c.args.desk.now).registration in
    let served = c.serve_cursors_on in
    let went = served.ensures.serves.went in
    subst (λ relations. IsServedBy (cursor_rules (relation_handlers relations)) (λ at. at ≡ first_state registration.0 registration.1)
    (λ first turns answer left new_left calls before after. IsComplete relations turns answer left before after) c.args.turn_limit
    served.result (round c.args.source.now c.args.sink.now c.args.desk.now) (round served.new.source served.new.sink served.new.desk))
    c.deref.ensures
    (record {
      first = first_state registration.0 registration.1;
      begun = refl;
      serves = served.ensures.serves;
      calls = went.0;
      grown = went.1;
      promised = served.ensures.complete;
    })
