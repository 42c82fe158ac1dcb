use Rattle.std.proofs.Common.{ap}
use Rattle.std.specs.Arc.{arc_value}
use Rattle.conversation_runs.proofs.GoodStates.{good_new}
use Rattle.pg_session.proofs.session.Session.with_outbox.Goals as goal

pub invariant_of-result : goal.invariant_of-result
invariant_of-result g c = λ _. good_new (g.H.PgWireServerHandlers.told (arc_value c.args.handlers)).extended.parser
    c.first_info-info.result (g.St.PortalStore.maps c.args.store).statements (g.St.PortalStore.maps c.args.store).portals
    (ap (λ info. info.metadata) c.first_info-info.ensures) (ap (λ m. m.statements) c.requires.empty) (ap (λ m. m.portals) c.requires.empty)
