use Rattle.std.proofs.Common.{◌∙◌, ◌++◌, ◌∷◌, [], IsSome, ap, sym, subst, refl, slice_get}
use Rattle.named_entries.specs.Names.{name_map}
use Rattle.named_entries.specs.Unnamed.{with_unnamed}
use Rattle.named_entries.proofs.UnnamedEntries.{an_item, get-then, insert-then, no_item}
use Rattle.named_entries.proofs.names.Named.put_unnamed.Goals as goal

pub replace_unnamed-requires : goal.replace_unnamed-requires
replace_unnamed-requires g c =
    let v = c.self.inside.unnamed in
    let found = get-then (slice_get v.items 0) c.self.inside.others c.args.self.now c.self.view_is [] _ refl refl in
    subst IsSome found (an_item v.items v.len (sym v.ok.0) (sym c.is_empty.ensures ∙ c.if-is_empty.false))

pub returns-in_ok-reserve_exact-clause-ok : goal.returns-in_ok-reserve_exact-clause-ok
returns-in_ok-reserve_exact-clause-ok g c =
    let v = c.self.inside.unnamed in
    let empty = no_item v.items v.len (sym v.ok.0) (sym c.is_empty.ensures ∙ c.if-is_empty.true) in
    ap (λ xs. with_unnamed (slice_get xs 0) (name_map c.self.inside.others.entries))
    (c.push_reserved.ensures.items ∙ ap (λ xs. xs ++ c.args.entry ∷ []) (c.reserve_exact.ensures.items ∙ empty))
    ∙ insert-then (slice_get v.items 0) c.self.inside.others c.args.self.now c.self.view_is [] _ refl refl c.args.entry
