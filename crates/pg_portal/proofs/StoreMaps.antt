-- What a store tells of an entry of the code.
use Rattle.std.proofs.Common.{◌≡◌, refl}
use Rattle.std.specs.Option.{option_map}
use Rattle.pg_results.specs.declared.stmt.StoredStatement.{StoredStatement}
use Rattle.pg_portal.specs.declared.store.Entry.{Entry}
use Rattle.pg_portal.specs.declared.store.Entry.TheVariants.{Empty, Value}
use Rattle.pg_portal.specs.Maps.{Maps}
use Rattle.named_entries.specs.Names.{NameMap}
use Rattle.pg_portal.specs.Told.{TablePortal, entry_map, value_of}

pub value_of-map : {X Y : Type 0} (f : X → Y) (x : Entry X) → option_map f (value_of x) ≡ value_of (entry_map f x)
value_of-map f Empty = refl
value_of-map f (Value x) = refl

-- the maps of these statements and portals
abbrev pub maps_of : {S : Type 0} → NameMap (Entry (StoredStatement S)) → NameMap (Entry (TablePortal S)) → Maps S
maps_of statements portals = record { statements = statements; portals = portals }
