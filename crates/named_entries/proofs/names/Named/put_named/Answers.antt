use Rattle.std.proofs.Common.{◌∙◌, ap, sym, refl, false, length, ◌==◌, slice_get}
use Rattle.std.specs.String.{string_bytes}
use Rattle.std.specs.FinMap as map
use Rattle.named_entries.proofs.UnnamedEntries.{insert-else}
use Rattle.named_entries.proofs.names.Named.put_named.Goals as goal

pub returns-clause-ok : goal.returns-clause-ok
returns-clause-ok g c =
    let key = string_bytes c.into_string.result in
    insert-else (slice_get c.self.inside.unnamed.items 0) c.self.inside.others c.args.self.now c.self.view_is key false
    (sym (ap (λ text. length text == 0) c.into_string.ensures ∙ c.requires)) refl
    c.insert.new.self c.args.entry c.in_ok-insert.ensures.updates
    ∙ ap (λ name. map.insert c.args.self.now name c.args.entry) c.into_string.ensures
