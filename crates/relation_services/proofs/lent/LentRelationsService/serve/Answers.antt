use Rattle.std.proofs.Common.{refl}
use Rattle.pg_client.specs.State.{first_state}
use Rattle.relation_services.proofs.lent.LentRelationsService.serve.Goals as goal

pub returns : goal.returns
returns g c =
    let registration = (g.D.CancelDesk.told c.args.desk.now).registration in
    let went = c.serve_relations_on.ensures.serves.went in
    record {
      first = first_state registration.0 registration.1;
      begun = refl;
      serves = c.serve_relations_on.ensures.serves;
      calls = went.0;
      grown = went.1;
      promised = c.serve_relations_on.ensures.complete;
    }
