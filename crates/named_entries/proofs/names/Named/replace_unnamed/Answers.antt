use Rattle.std.proofs.Common.{◌≡◌, ◌∙◌, [], false, true, IsSome, ap, sym, subst, refl, slice_get}
use Rattle.named_entries.specs.Names.{name_map}
use Rattle.named_entries.specs.Unnamed.{with_unnamed}
use Rattle.named_entries.proofs.UnnamedEntries.{get-then, has_item, insert-then, replaced}
use Rattle.named_entries.proofs.names.Named.replace_unnamed.Goals as goal

pub returns : goal.returns
returns g c =
    let v = c.self.inside.unnamed in
    let found = get-then (slice_get v.items 0) c.self.inside.others c.args.self.now c.self.view_is [] _ refl refl in
    ap (λ o. with_unnamed o (name_map c.self.inside.others.entries)) (replaced v.items (subst IsSome (sym found) c.requires) c.args.entry)
    ∙ insert-then (slice_get v.items 0) c.self.inside.others c.args.self.now c.self.view_is [] _ refl refl c.args.entry

pub unreachable-requires : goal.unreachable-requires
unreachable-requires g c =
    let v = c.self.inside.unnamed in
    let found = get-then (slice_get v.items 0) c.self.inside.others c.args.self.now c.self.view_is [] _ refl refl in
    let some = c.first_mut.ensures.item.2 (has_item v.items (subst IsSome (sym found) c.requires)) in
    let none : false ≡ true = subst IsSome c.in_default.is some in cc
