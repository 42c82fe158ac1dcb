-- The columns that are shared, at the place of their relation.
use Rattle.std.proofs.Common.{◌≡◌, ℕ, zero, suc, ◌<◌, List, [], ◌∷◌, length, map, get_or, ◌∙◌, ap, arith}
use Rattle.relation_tables.specs.declared.Relation.{Relation}
use Rattle.relation_tables.specs.Relations.{relation_at}
use Rattle.relation_handlers.specs.Shared.{shared_columns}
use Rattle.relation_handlers.specs.declared.shared.SharedColumns.{SharedColumns}

found_at : (rs : List Relation) (place : ℕ) (c d : SharedColumns) → place < length rs → c ≡ get_or (map shared_columns rs) place d
    → c ≡ shared_columns (relation_at rs place)
found_at [] place c d inside is = absurd (omega arith)
found_at (r ∷ rs) zero c d inside is = is
found_at (r ∷ rs) (suc place) c d inside is = found_at rs place c d (omega arith) is

-- what is read at a place
pub columns_read : (rs : List Relation) (cs : List SharedColumns) (place : ℕ) (c : SharedColumns) → cs ≡ map shared_columns rs
    → place < length rs → c ≡ get_or cs place c → c ≡ shared_columns (relation_at rs place)
columns_read rs cs place c same inside is = found_at rs place c c inside (is ∙ ap (λ xs. get_or xs place c) same)
