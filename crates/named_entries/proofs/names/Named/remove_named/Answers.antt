use Rattle.std.proofs.Common.{sym, refl, false, slice_get}
use Rattle.named_entries.proofs.UnnamedEntries.{remove-else}
use Rattle.named_entries.proofs.names.Named.remove_named.Goals as goal

pub returns : goal.returns
returns g c = remove-else (slice_get c.self.inside.unnamed.items 0) c.self.inside.others c.args.self.now c.self.view_is
    c.args.name.now false (sym c.requires) refl c.remove.new.self c.remove.ensures.updates
