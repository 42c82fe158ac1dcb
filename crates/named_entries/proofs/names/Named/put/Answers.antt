use Rattle.std.proofs.Common.{◌∙◌, ap, sym, length, ◌==◌}
use Rattle.named_entries.proofs.names.Named.put.Goals as goal

pub put_named-requires : goal.put_named-requires
put_named-requires g c = sym (c.is_empty.ensures ∙ ap (λ text. length text == 0) c.as_str.ensures) ∙ c.if-is_empty.false
