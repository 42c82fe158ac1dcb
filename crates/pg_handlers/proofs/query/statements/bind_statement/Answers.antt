use Rattle.std.proofs.Common.{refl}
use Rattle.std.specs.Arc.{arc_value}
use Rattle.pg_portal.specs.Told.{portal_of}
use Rattle.pg_portal.specs.declared.store.Entry.TheVariants as entry
use Rattle.conversation_table.specs.Good.{IsGoodPortal, IsGoodState}
use Rattle.pg_client.specs.State.{state_of}
use Rattle.pg_client.proofs.Before.{state_before}
use Rattle.conversation_table.proofs.Binds.{bound_is_good}
use Rattle.conversation_table.proofs.GoodStores.{good_with_portal, one_value, put_or_kept}
use Rattle.pg_handlers.proofs.query.statements.bind_statement.Goals as goal

pub returns-clause-good : goal.returns-clause-good
returns-clause-good g c = λ parser statement enough good.
    let s = state_of g.St.PortalStore.maps c.args.client.now in
    let portal = portal_of g.St.Rows.RowSource.items c.portal_for.result in
    let bound : IsGoodPortal parser portal = bound_is_good parser c.args.message (arc_value c.args.statement) (arc_value c.args.statement)
    _ portal refl refl c.portal_for.ensures.bound c.portal_for.ensures.unstarted statement enough in
    put_or_kept c.store_portal.result (IsGoodState parser) s (state_of g.St.PortalStore.maps c.store_portal.new.client) _
    c.store_portal.ensures.ok
    (state_before g.St.PortalStore.maps c.args.client.now c.store_portal.new.client c.store_portal.result c.store_portal.ensures.kept)
    (good_with_portal parser s _ (entry.Value portal) (one_value (IsGoodPortal parser) portal bound) good) good
