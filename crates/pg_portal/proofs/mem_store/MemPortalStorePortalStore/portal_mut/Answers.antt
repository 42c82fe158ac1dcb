use Rattle.std.proofs.Common.{◌∙◌, ap, sym, refl}
use Rattle.std.specs.Arc.{arc_value}
use Rattle.std.specs.Option.{option_map}
use Rattle.named_entries.specs.Names.{map_values}
use Rattle.pg_portal.specs.declared.store.Entry.TheVariants.{Value}
use Rattle.pg_portal.specs.Told.{entry_map, portal_of, value_under}
use Rattle.named_entries.proofs.NameMaps.{get-map_values, map_values-insert, insert-same, on_some, at_some}
use Rattle.pg_portal.proofs.StoreMaps.{value_of-map, maps_of}
use Rattle.pg_portal.proofs.mem_store.MemPortalStorePortalStore.portal_mut.Goals as goal

pub returns-in-Some : goal.returns-in-Some
returns-in-Some g c =
    let m = c.args.self.now.portals in
    let statements = map_values (entry_map arc_value) c.args.self.now.statements in
    let told = portal_of g.R.RowSource.items in (
      (
        refl,
        (λ w. on_some c.value_mut.result (ap (maps_of statements) (
            ap (map_values (entry_map told)) (at_some c.get_mut.result c.in-Some.entry c.in-Some.is (c.get_mut.follows.holds (Value w)))
            ∙ map_values-insert (entry_map told) m c.args.name.now (Value w)
            ))),
        ap (maps_of statements) (
            ap (map_values (entry_map told)) (at_some c.get_mut.result c.in-Some.entry c.in-Some.is
            (c.get_mut.follows.holds c.in-Some.entry.now)
            ∙ insert-same m c.args.name.now c.in-Some.entry.now (sym c.in-Some.ensures.value))
            ),
      ),
      ap (option_map told) c.value_mut.ensures.value ∙ value_of-map told c.in-Some.entry.now
          ∙ ap value_under (ap (option_map (entry_map told)) c.in-Some.ensures.value
          ∙ sym (get-map_values (entry_map told) m c.args.name.now)),
    )

pub returns-in-None : goal.returns-in-None
returns-in-None g c =
    let m = c.args.self.now.portals in
    let statements = map_values (entry_map arc_value) c.args.self.now.statements in
    let told = portal_of g.R.RowSource.items in (
      (refl, (λ w. tt), ap (maps_of statements) (ap (map_values (entry_map told)) c.get_mut.follows.holds-at-none)),
      ap value_under (ap (option_map (entry_map told)) c.in-None.ensures.value ∙ sym (get-map_values (entry_map told) m c.args.name.now)),
    )
