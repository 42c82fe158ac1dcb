use Rattle.std.proofs.Common.{◌∙◌, ap, refl, slice_get}
use Rattle.named_entries.specs.Names.{name_map}
use Rattle.named_entries.specs.Unnamed.{with_unnamed}
use Rattle.named_entries.proofs.UnnamedEntries.{get-then, get-else, lent-first, written-then, written-else}
use Rattle.named_entries.proofs.names.Named.get_mut.Goals as goal

pub returns-then-is_empty : goal.returns-then-is_empty
returns-then-is_empty g c = (
  (
    refl,
    (λ w.
        written-then (slice_get c.self.inside.unnamed.items 0) c.self.inside.others c.args.self.now c.self.view_is
        c.args.name.now c.is_empty.result c.is_empty.ensures
        c.if-is_empty.true c.self.inside.unnamed.items w c.first_mut.result c.first_mut.ensures.item),
    c.self.view_is,
  ),
  lent-first c.self.inside.unnamed.items c.first_mut.result c.first_mut.ensures.item
      ∙ get-then (slice_get c.self.inside.unnamed.items 0) c.self.inside.others c.args.self.now c.self.view_is
      c.args.name.now c.is_empty.result c.is_empty.ensures
      c.if-is_empty.true,
)

pub returns-else-is_empty : goal.returns-else-is_empty
returns-else-is_empty g c = (
  (
    refl,
    (λ w.
        written-else (slice_get c.self.inside.unnamed.items 0) c.self.inside.others c.args.self.now c.self.view_is
        c.args.name.now c.is_empty.result c.is_empty.ensures
        c.if-is_empty.false (c.get_mut.follows.lender w) w c.get_mut.result c.get_mut.ensures.value (c.get_mut.follows.holds w)),
    ap (λ m. with_unnamed (slice_get c.self.inside.unnamed.items 0) (name_map m.entries)) c.get_mut.follows.holds-at-none ∙ c.self.view_is,
  ),
  c.get_mut.ensures.value
      ∙ get-else (slice_get c.self.inside.unnamed.items 0) c.self.inside.others c.args.self.now c.self.view_is
      c.args.name.now c.is_empty.result c.is_empty.ensures
      c.if-is_empty.false,
)
