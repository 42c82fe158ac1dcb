use Rattle.std.proofs.Common.{rules}
use Rattle.named_entries.proofs.NameMaps.{get-map_values}
use Rattle.pg_portal.proofs.mem_store.MemPortalStorePortalStore.get_statement.Goals as goal

pub returns-in-Some-Value : goal.returns-in-Some-Value
returns-in-Some-Value g c = search (rules, get-map_values)

pub returns-in-Some-Empty : goal.returns-in-Some-Empty
returns-in-Some-Empty g c = search (rules, get-map_values)

pub returns-in-None : goal.returns-in-None
returns-in-None g c = search (rules, get-map_values)
