use Rattle.named_entries.proofs.UnnamedEntries.{none-left}
use Rattle.named_entries.proofs.names.Named.clear.Goals as goal

pub returns : goal.returns
returns g c = none-left c.clear.new.self.items c.clear-2.new.self.entries c.clear.ensures.items c.clear-2.ensures.empty
