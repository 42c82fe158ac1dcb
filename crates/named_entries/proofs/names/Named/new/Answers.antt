use Rattle.named_entries.proofs.UnnamedEntries.{none-left}
use Rattle.named_entries.proofs.names.Named.new.Goals as goal

pub returns : goal.returns
returns g c = none-left c.new.result.items c.new-2.result.entries c.new.ensures.items c.new-2.ensures.empty
