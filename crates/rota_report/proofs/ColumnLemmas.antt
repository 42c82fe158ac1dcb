-- Places of relations and of columns, and the rows of a valid table.
use Rattle.std.proofs.Common.{◌≡◌, ℕ, zero, suc, ◌+◌, ◌<◌, ◌≤◌, Bool, true, false, cond, ◌==◌, List, [], ◌∷◌, Option, Some, None, length, get_or, refl, sym, ap, subst, ◌∙◌, arith}
use Rattle.std.specs.List.{position_from, list_all}
use Rattle.relation_tables.specs.declared.Relation.{Relation}
use Rattle.relation_tables.specs.Relations.{place_of, relation_at}
use Rattle.rota_report.specs.Columns.{column_place, column_at, column_if, column_in, column_of}

by_cond : {X : Type 0} (t : X → Bool) (b : Bool) (i m : ℕ) (xs : List X)
    → ((place : ℕ) → position_from t (i + 1) xs ≡ Some place → (i + 1 ≤ place) × (place < i + 1 + length xs))
    → (place : ℕ) → cond b (Some i) (position_from t (i + 1) xs) ≡ Some place → (i ≤ place) × (place < i + (length xs + 1))
by_cond t true i m xs h place e =
    let same : i ≡ place = cc in
    (omega arith, omega arith)
by_cond t false i m xs h place e =
    let k = h place e in
    let low : i + 1 ≤ place = k.0 in
    let high : place < i + 1 + length xs = k.1 in
    (omega arith, omega arith)

place_from : {X : Type 0} (t : X → Bool) (xs : List X) (i place : ℕ) → position_from t i xs ≡ Some place
    → (i ≤ place) × (place < i + length xs)
place_from t [] i place e = cc
place_from t (x ∷ xs) i place e =
    let k = by_cond t (t x) i 0 xs (λ p h. place_from t xs (i + 1) p h) place e in
    let high : place < i + (length xs + 1) = k.1 in
    (k.0, omega arith)

-- a place that is found is one of the list
pub place_within : {X : Type 0} (t : X → Bool) (xs : List X) (place : ℕ) → position_from t 0 xs ≡ Some place → place < length xs
place_within t xs place e =
    let high : place < 0 + length xs = (place_from t xs 0 place e).1 in
    omega arith

-- what is read at a place is the relation there
pub relation_read : (relations read : List Relation) (place : ℕ) (r : Relation) → read ≡ relations → place < length relations
    → r ≡ get_or read place r → relation_at relations place ≡ r
relation_read relations read place r same within is = read_at relations place r within (is ∙ ap (λ l. get_or l place r) same)
  where
    read_at : (rs : List Relation) (i : ℕ) (x : Relation) → i < length rs → x ≡ get_or rs i x → relation_at rs i ≡ x
    read_at [] i x h e = absurd (let f : i < 0 = h in omega arith)
    read_at (y ∷ rs) zero x h e = sym e
    read_at (y ∷ rs) (suc i) x h e = read_at rs i x (omega arith) e

-- a column that is found, and one that isn't
pub column_found : (relations : List Relation) (relation column : List ℕ) (place : ℕ) (r : Relation) (k : ℕ)
    → place_of relations relation ≡ Some place → relation_at relations place ≡ r → column_place r.columns column ≡ Some k
    → column_of relations relation column ≡ Some (column_at r k)
column_found relations relation column place r k here same there =
    ap (column_in relations column) here ∙ ap (λ x. column_if x (column_place x.columns column)) same ∙ ap (column_if r) there

pub column_missing : (relations : List Relation) (relation column : List ℕ) (place : ℕ) (r : Relation)
    → place_of relations relation ≡ Some place → relation_at relations place ≡ r → column_place r.columns column ≡ None
    → column_of relations relation column ≡ None
column_missing relations relation column place r here same there =
    ap (column_in relations column) here ∙ ap (λ x. column_if x (column_place x.columns column)) same ∙ ap (column_if r) there
