use Rattle.std.proofs.Common.{rules}
use Rattle.named_entries.proofs.NameMaps.{map_values-remove}
use Rattle.pg_portal.proofs.mem_store.MemPortalStorePortalStore.rm_statement.Goals as goal

pub returns : goal.returns
returns g c = search (rules, map_values-remove)
