use Rattle.std.proofs.Common.{◌∙◌, ap, slice_get}
use Rattle.named_entries.proofs.UnnamedEntries.{get-then, get-else}
use Rattle.named_entries.proofs.names.Named.get.Goals as goal

pub returns-then-is_empty : goal.returns-then-is_empty
returns-then-is_empty g c = c.first.ensures.value ∙ ap (λ xs. slice_get xs 0) c.deref.ensures.value
    ∙ get-then (slice_get c.self.inside.unnamed.items 0) c.self.inside.others c.args.self.now c.self.view_is
    c.args.name.now c.is_empty.result c.is_empty.ensures
    c.if-is_empty.true

pub returns-else-is_empty : goal.returns-else-is_empty
returns-else-is_empty g c = c.get.ensures.value
    ∙ get-else (slice_get c.self.inside.unnamed.items 0) c.self.inside.others c.args.self.now c.self.view_is
    c.args.name.now c.is_empty.result c.is_empty.ensures
    c.if-is_empty.false
