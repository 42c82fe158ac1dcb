-- The statements and the portals of a session, under their names: two finite maps, as one value.
use Rattle.std.specs.Prelude.{List, ℕ}
use Rattle.std.specs.FinMap as fin
use Rattle.pg_results.specs.declared.stmt.StoredStatement.{StoredStatement}
use Rattle.pg_portal.specs.declared.store.Entry.{Entry}
use Rattle.named_entries.specs.Names.{NameMap}
use Rattle.pg_portal.specs.Told.{TablePortal}

pub record Maps (S : Type 0) : Type 0 where
  pub statements : NameMap (Entry (StoredStatement S))
  pub portals : NameMap (Entry (TablePortal S))

-- nothing is stored
abbrev pub no_maps : {S : Type 0} → Maps S
no_maps = record { statements = fin.empty; portals = fin.empty }

-- a statement stands under a name, in the place of one that is there
abbrev pub maps_with_statement : {S : Type 0} → Maps S → List ℕ → Entry (StoredStatement S) → Maps S
maps_with_statement m name e = record { statements = fin.insert m.statements name e; portals = m.portals }

abbrev pub maps_without_statement : {S : Type 0} → Maps S → List ℕ → Maps S
maps_without_statement m name = record { statements = fin.remove m.statements name; portals = m.portals }

-- a portal stands under a name, in the place of one that is there
abbrev pub maps_with_portal : {S : Type 0} → Maps S → List ℕ → Entry (TablePortal S) → Maps S
maps_with_portal m name e = record { statements = m.statements; portals = fin.insert m.portals name e }

abbrev pub maps_without_portal : {S : Type 0} → Maps S → List ℕ → Maps S
maps_without_portal m name = record { statements = m.statements; portals = fin.remove m.portals name }

abbrev pub maps_without_portals : {S : Type 0} → Maps S → Maps S
maps_without_portals m = record { statements = m.statements; portals = fin.empty }
