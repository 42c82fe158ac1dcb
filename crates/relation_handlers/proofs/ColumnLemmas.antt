-- The formats of columns, one after another.
use Rattle.std.proofs.Common.{◌≡◌, ℕ, zero, suc, ◌+◌, ◌≤◌, List, [], ◌∷◌, ◌++◌, length, drop, refl, sym, ap, ◌∙◌, arith}
use Rattle.std.proofs.lemmas.List.{append-nil}
use Rattle.pg_types.specs.declared.field_format.FieldFormat.{FieldFormat}
use Rattle.pg_results.specs.declared.format.Format.{Format}
use Rattle.relation_tables.specs.RelationHandler.{column_formats_from}

-- nothing is left behind the last
pub drop_none : {X : Type 0} (xs : List X) (n : ℕ) → length xs ≤ n → drop n xs ≡ []
drop_none [] zero h = refl
drop_none [] (suc n) h = refl
drop_none (x ∷ xs) zero h = absurd (omega arith)
drop_none (x ∷ xs) (suc n) h = drop_none xs n (omega arith)

pub formats_end : (f : Format) (all whole : List FieldFormat) (names : List (List ℕ)) (i : ℕ) → length names ≤ i
    → all ++ column_formats_from f i (drop i names) ≡ whole → all ≡ whole
formats_end f all whole names i h e =
    sym (append-nil all) ∙ ap (λ ns. all ++ column_formats_from f i ns) (sym (drop_none names i h)) ∙ e

pub formats_len : (f : Format) (i : ℕ) (names : List (List ℕ)) → length (column_formats_from f i names) ≡ length names
formats_len f i [] = refl
formats_len f i (n ∷ names) = let h = formats_len f (i + 1) names in omega arith
