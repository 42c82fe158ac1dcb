use Rattle.conversation_table.proofs.GoodStores.{good_closed}
use Rattle.pg_handlers.proofs.query.extended.ExtendedQueryHandler.on_close.Goals as goal

pub returns-clause-good : goal.returns-clause-good
returns-clause-good g c =
    good_closed (g.Self.ExtendedQueryHandler.told c.args.self.now).parser c.args.client.now.info
    (g.St.PortalStore.maps c.args.client.now.store) (g.St.PortalStore.maps c.close.new.store) c.args.message c.close.ensures
    c.requires.good
