use Rattle.std.proofs.Common.{ap}
use Rattle.std.proofs.Common.{refl}
use Rattle.pg_client.specs.State.{state_of, without_portal}
use Rattle.conversation_table.proofs.GoodStores.{good_parts, good_without_portal}
use Rattle.pg_handlers.proofs.query.extended.ExtendedQueryHandler.on_sync.Goals as goal

pub returns-clause-good : goal.returns-clause-good
returns-clause-good g c =
    let parser = (g.Self.ExtendedQueryHandler.told c.args.self.now).parser in
    let s = state_of g.St.PortalStore.maps c.args.client.now in
    good_parts parser (without_portal s _) _ _ _ refl (ap (λ m. m.statements) c.rm_portal.ensures) (ap (λ m. m.portals) c.rm_portal.ensures)
    (good_without_portal parser s _ c.requires.good)
