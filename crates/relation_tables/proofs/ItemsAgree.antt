-- Binary rows as the items of a relation's handler, and pages of them.
use Rattle.std.proofs.Common.{◌≡◌, ℕ, zero, suc, ◌+◌, ◌==◌, ◌&&◌, ℤ, Bool, true, false, IsTrue, if◌then◌else◌, List, [], ◌∷◌, ◌++◌, None, Result, Ok, refl, ap, ◌∙◌, map, length, take, drop, zip, pos, arith, unsigned_abs}
use Rattle.std.specs.List.{concat, flat_map}
use Rattle.std.proofs.Math.Path.{ap₂}
use Rattle.std.proofs.lemmas.List.{length-map, take-map}
use Rattle.std.proofs.Math.Seq.{drop-length}
use Rattle.pg_interval.specs.declared.pg_interval.Interval.{Interval}
use Rattle.pg_messages.specs.declared.data.DataRow.{DataRow}
use Rattle.pg_types.specs.declared.field_format.FieldFormat.TheVariants as field
use Rattle.pg_text.specs.declared.format.interval_style.IntervalStyle.{IntervalStyle}
use Rattle.pg_results.specs.declared.error.PgWireError.{PgWireError}
use Rattle.pg_results.specs.Page.{Page, page, is_reached, ItemPage, AtLimit, AtEnd, item_page, before_error, first_error}
use Rattle.relation_tables.specs.declared.Relation.{Relation}
use Rattle.relation_tables.specs.Relations.{relation_at, binary_row, binary_value, are_even, HaveEvenRows}
use Rattle.relation_tables.specs.RelationHandler.{in_front, all_or_error, value, row_item, row_of_values}
use Rattle.relation_tables.proofs.Agreement.{binary_item}

-- ---- rows as wide as the columns

pub even_at : (relations : List Relation) → HaveEvenRows relations → (place : ℕ)
    → IsTrue (are_even (length (relation_at relations place).columns) (relation_at relations place).rows)
even_at [] h place = refl
even_at (r ∷ relations) h zero = h.0
even_at (r ∷ relations) h (suc place) = even_at relations h.1 place

-- ---- items of a relation in binary

all_values : (style : Result IntervalStyle PgWireError) (row : List Interval) (names : List (List ℕ)) → length row ≡ length names
    → all_or_error (map (λ p. value style p.0 p.1) (zip (map (λ name. field.Binary) names) row)) ≡ Ok (map binary_value row)
all_values style [] [] e = refl
all_values style [] (name ∷ names) e = absurd (omega (arith, e))
all_values style (i ∷ row) [] e = absurd (omega (arith, e))
all_values style (i ∷ row) (name ∷ names) e = ap (λ r. in_front (Ok (binary_value i)) r) (all_values style row names (omega (arith, e)))

joined_values : (row : List Interval) → concat (map binary_value row) ≡ flat_map binary_value row
joined_values [] = refl
joined_values (i ∷ row) = ap (λ bytes. binary_value i ++ bytes) (joined_values row)

one_item : (style : Result IntervalStyle PgWireError) (row : List Interval) (names : List (List ℕ)) → length row ≡ length names
    → row_item style (map (λ name. field.Binary) names) row ≡ binary_item row
one_item style row names e =
    ap (λ r. row_of_values (length row) r) (all_values style row names e)
    ∙ ap (λ bytes. Ok (let row : DataRow = record { payload = bytes; field_count = pos (length row) } in row)) (joined_values row)

both_true : (a b : Bool) → IsTrue (a && b) → IsTrue a × IsTrue b
both_true true b e = (refl, e)
both_true false b e = cc

same_number : (n k : ℕ) → IsTrue (n == k) → n ≡ k
same_number n k e = grind (arith, e)

pub binary_items : (style : Result IntervalStyle PgWireError) (names : List (List ℕ)) (rows : List (List Interval))
    → IsTrue (are_even (length names) rows) → map (row_item style (map (λ name. field.Binary) names)) rows ≡ map binary_item rows
binary_items style names [] h = refl
binary_items style names (row ∷ rows) h =
    let even = both_true (length row == length names) (are_even (length names) rows) h in
    ap₂ (λ x xs. x ∷ xs) (one_item style row names (same_number (length row) (length names) even.0)) (binary_items style names rows even.1)

-- ---- pages of binary items

rows_of_items : (rows : List (List Interval)) → before_error (map binary_item rows) ≡ map binary_row rows
rows_of_items [] = refl
rows_of_items (row ∷ rows) = ap (λ rs. binary_row row ∷ rs) (rows_of_items rows)

no_error : (rows : List (List Interval)) → first_error (map binary_item rows) ≡ None
no_error [] = refl
no_error (row ∷ rows) = no_error rows

drop_items : (n : ℕ) (rows : List (List Interval)) → drop n (map binary_item rows) ≡ map binary_item (drop n rows)
drop_items zero rows = refl
drop_items (suc n) [] = refl
drop_items (suc n) (row ∷ rows) = drop_items n rows

-- the page over items that such a page is
abbrev pub items_of_page : Page (List Interval) → List (List Interval) → ItemPage DataRow
items_of_page p rows = record {
  rows = map binary_row p.rows;
  ending = if p.suspended then AtLimit (map binary_item (drop (length p.rows) rows)) else AtEnd;
}

page_by : (limit : ℤ) (rows : List (List Interval)) (b : Bool) → is_reached limit (length rows) ≡ b
    → item_page limit (map binary_item rows) ≡ items_of_page (page limit rows) rows
page_by limit rows true e =
    let taken = take (unsigned_abs limit) rows in
    rw (
      rows_of_items rows,
      length-map rows binary_row,
      e,
      take-map binary_row (unsigned_abs limit) rows,
      length-map taken binary_row,
      drop_items (length taken) rows,
    )
    refl
page_by limit rows false e = rw (rows_of_items rows, length-map rows binary_row, e, no_error rows) refl

pub binary_page : (limit : ℤ) (rows : List (List Interval)) → item_page limit (map binary_item rows) ≡ items_of_page (page limit rows) rows
binary_page limit rows = page_by limit rows (is_reached limit (length rows)) refl

-- ---- positions

pub drop-further : {A : Type 0} (n k : ℕ) (xs : List A) → drop (n + k) xs ≡ drop k (drop n xs)
drop-further zero k xs = ap (λ n. drop n xs) (let e : 0 + k ≡ k = omega arith in e)
drop-further (suc n) zero [] = ap (λ m. drop m []) (let e : suc n + 0 ≡ suc n = omega arith in e)
drop-further (suc n) (suc k) [] = ap (λ m. drop m []) (let e : suc n + suc k ≡ suc (n + suc k) = omega arith in e)
drop-further (suc n) k (x ∷ xs) = ap (λ m. drop m (x ∷ xs)) (let e : suc n + k ≡ suc (n + k) = omega arith in e) ∙ drop-further n k xs

-- where a page isn't suspended, no row is behind it
pub page_to_the_end : (limit : ℤ) (rows : List (List Interval)) → (page limit rows).suspended ≡ false
    → drop (length (page limit rows).rows) rows ≡ []
page_to_the_end limit rows e = by_case (is_reached limit (length rows)) refl e
  where
    by_case : (b : Bool) → is_reached limit (length rows) ≡ b → (page limit rows).suspended ≡ false
        → drop (length (page limit rows).rows) rows ≡ []
    by_case true r e = cc
    by_case false r e = rw r (drop-length rows)
