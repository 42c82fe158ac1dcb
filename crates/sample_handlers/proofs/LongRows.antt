-- Many equal rows, and what stands behind them.
use Rattle.std.proofs.Common.{◌≡◌, ◌∙◌, ℕ, ◌+◌, List, [], ◌∷◌, ◌++◌, Ok, Err, ap, replicate, append_assoc}
use Rattle.std.proofs.lemmas.List.{replicate-append-replicate}
use Rattle.std.specs.List.{AllByRecursion}
use Rattle.pg_messages.specs.declared.data.DataRow.{DataRow}
use Rattle.pg_results.specs.declared.error.PgWireError.{PgWireError}
use Rattle.pg_results.specs.Rows.{RowItem}

-- What holds of the items of two lists holds of the list of both.
pub each_append : {A : Type 0} (P : A → Type 0) (xs ys : List A) → AllByRecursion P xs → AllByRecursion P ys → AllByRecursion P (xs ++ ys)
each_append P [] ys front back = back
each_append P (x ∷ xs) ys front back = (front.0, each_append P xs ys front.1 back)

pub row_more : (row same : DataRow) (n : ℕ) (items : List RowItem) → items ≡ replicate n (Ok row) → same ≡ row
    → items ++ Ok same ∷ [] ≡ replicate (n + 1) (Ok row)
row_more row same n items are is = ap (λ l. l ++ Ok same ∷ []) are ∙ ap (λ x. replicate n (Ok row) ++ Ok x ∷ []) is
    ∙ replicate-append-replicate n 1 (Ok row)

pub long_ended : (rows items behind : List RowItem) (e error : PgWireError) (r row : DataRow) → items ≡ rows → behind ≡ items ++ Err e ∷ []
    → e ≡ error → r ≡ row → behind ++ Ok r ∷ [] ≡ rows ++ Err error ∷ Ok row ∷ []
long_ended rows items behind e error r row are grown is_error is_row =
    ap (λ l. l ++ Ok r ∷ []) grown ∙ append_assoc items (Err e ∷ []) (Ok r ∷ []) ∙ ap (λ l. l ++ Err e ∷ Ok r ∷ []) are
    ∙ ap (λ x. rows ++ Err x ∷ Ok r ∷ []) is_error ∙ ap (λ x. rows ++ Err error ∷ Ok x ∷ []) is_row
