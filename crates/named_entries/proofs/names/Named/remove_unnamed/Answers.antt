use Rattle.std.proofs.Common.{[], ap, ◌∙◌, slice_get}
use Rattle.std.specs.FinMap as map
use Rattle.named_entries.specs.Names.{name_map}
use Rattle.named_entries.specs.Unnamed.{with_unnamed}
use Rattle.named_entries.proofs.UnnamedEntries.{with_unnamed-remove}
use Rattle.named_entries.proofs.names.Named.remove_unnamed.Goals as goal

pub returns : goal.returns
returns g c =
    ap (λ xs. with_unnamed (slice_get xs 0) (name_map c.self.inside.others.entries)) c.clear.ensures.items
    ∙ with_unnamed-remove (slice_get c.self.inside.unnamed.items 0) (name_map c.self.inside.others.entries)
    ∙ ap (λ s. map.remove s []) c.self.view_is
