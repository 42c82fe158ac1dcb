use Rattle.std.proofs.Common.{◌∙◌, sym}
use Rattle.named_entries.proofs.UnnamedEntries.{no_item, remove-nothing}
use Rattle.named_entries.proofs.names.Named.remove.Goals as goal

pub returns-else-not-is_empty-2 : goal.returns-else-not-is_empty-2
returns-else-not-is_empty-2 g c =
    let v = c.self.inside.unnamed in
    let nothing = no_item v.items v.len (sym v.ok.0) (sym c.is_empty-else-not-is_empty.ensures ∙ c.if-not-is_empty-2.false) in
    remove-nothing v.items c.self.inside.others c.args.self.now c.self.view_is nothing
    c.args.name.now c.is_empty.result c.is_empty.ensures c.if-not-is_empty.false
