use Rattle.std.proofs.Common.{rules, ◌≡◌, ◌==◌, ◌∙◌, true, length, ap}
use Rattle.std.proofs.lemmas.Result.{on_ok_weaker}
use Rattle.std.specs.Arc.{arc_value}
use Rattle.named_entries.specs.Names.{map_values}
use Rattle.pg_portal.specs.declared.store.Entry.TheVariants.{Value}
use Rattle.pg_portal.specs.Told.{entry_map, portal_of}
use Rattle.pg_portal.proofs.StoreMaps.{maps_of}
use Rattle.named_entries.proofs.UnnamedEntries.{unnamed-insert}
use Rattle.pg_portal.proofs.mem_store.MemPortalStorePortalStore.put_statement.Goals as goal

pub returns-then-is_empty-clause-ok : goal.returns-then-is_empty-clause-ok
returns-then-is_empty-clause-ok g c =
    let portals = map_values (entry_map (portal_of g.R.RowSource.items)) c.args.self.now.portals in
    let unnamed : (length (arc_value c.args.statement).id == 0) ≡ true = search rules in
    on_ok_weaker c.put_unnamed.result (λ e. ap (λ statements. maps_of statements portals)
    (ap (map_values (entry_map arc_value)) e
    ∙ unnamed-insert (entry_map arc_value) c.args.self.now.statements (arc_value c.args.statement).id (Value c.args.statement) unnamed))
    c.put_unnamed.ensures.ok
