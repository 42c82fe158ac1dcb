use Rattle.std.proofs.Common.{rules}
use Rattle.named_entries.proofs.NameMaps.{map_values-insert}
use Rattle.pg_portal.proofs.mem_store.MemPortalStorePortalStore.put_empty_statement.Goals as goal

pub returns-clause-ok : goal.returns-clause-ok
returns-clause-ok g c = search (rules, map_values-insert)
