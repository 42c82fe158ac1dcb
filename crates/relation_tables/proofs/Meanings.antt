-- What a query means is a statement that the parser can give, and each of its columns is told.
use Rattle.std.proofs.Common.{◌≡◌, ℕ, suc, ◌+◌, ◌<◌, Bool, true, false, cond, if◌then◌else◌, IsTrue, List, [], ◌∷◌, Option, Some, None, length, map, zip, codes, bytes_eq, nat_lt, refl, ap, subst, arith}
use Rattle.std.specs.List.{position_from}
use Rattle.std.specs.Str.{str_eq_ignore_ascii_case}
use Rattle.pg_results.specs.declared.format.Format.{Format}
use Rattle.relation_tables.specs.declared.Relation.{Relation}
use Rattle.relation_tables.specs.declared.RelationStatement.{RelationStatement}
use Rattle.relation_tables.specs.declared.RelationStatement.TheVariants as statement
use Rattle.relation_tables.specs.Queries.{trimmed}
use Rattle.relation_tables.specs.Relations.{place_of, relation_meaning, meaning, column, columns_of}
use Rattle.relation_tables.specs.RelationHandler.{column_formats_from, fields_of, is_statement_of}

-- ---- places

place_within : (test : Relation → Bool) (from : ℕ) (relations : List Relation) (place : ℕ) → position_from test from relations ≡ Some place
    → place < from + length relations
place_within test from [] place e = cc
place_within test from (r ∷ relations) place e = by_case (test r) e (λ k. place_within test (from + 1) relations place k)
  where
    by_case : (b : Bool) → cond b (Some from) (position_from test (from + 1) relations) ≡ Some place
        → (position_from test (from + 1) relations ≡ Some place → place < from + 1 + length relations)
        → place < from + suc (length relations)
    by_case true k later = let same : from ≡ place = cc in omega (arith, same)
    by_case false k later = omega (arith, later k)

pub place_inside : (relations : List Relation) (name : List ℕ) (place : ℕ) → place_of relations name ≡ Some place → place < length relations
place_inside relations name place e = omega (arith, place_within (λ r. bytes_eq name r.name) 0 relations place e)

-- ---- meanings

is_inside : (place n : ℕ) → place < n → IsTrue (nat_lt place n)
is_inside place n h = grind (arith, h)

found_given : (relations : List Relation) (name : List ℕ) (place : Option ℕ) → place_of relations name ≡ place → (means : RelationStatement)
    → relation_meaning place ≡ Some means → IsTrue (is_statement_of relations means)
found_given relations name None e means k = cc
found_given relations name (Some place) e means k =
    let same : statement.Relation place ≡ means = cc in
    subst (λ m. IsTrue (is_statement_of relations m)) same (is_inside place (length relations) (place_inside relations name place e))

pub meaning_given : (relations : List Relation) (query : List ℕ) (means : RelationStatement) → meaning relations query ≡ Some means
    → IsTrue (is_statement_of relations means)
meaning_given relations query means e =
    by_words (str_eq_ignore_ascii_case (trimmed query) (codes "BEGIN")) (str_eq_ignore_ascii_case (trimmed query) (codes "COMMIT")) e
  where
    by_words : (a b : Bool)
        → (if a then Some statement.Begin else if b then Some statement.Commit
        else relation_meaning (place_of relations (trimmed query))) ≡ Some means
        → IsTrue (is_statement_of relations means)
    by_words true b k = let same : statement.Begin ≡ means = cc in subst (λ m. IsTrue (is_statement_of relations m)) same refl
    by_words false true k = let same : statement.Commit ≡ means = cc in subst (λ m. IsTrue (is_statement_of relations m)) same refl
    by_words false false k = found_given relations (trimmed query) (place_of relations (trimmed query)) refl means k

-- ---- numbers of columns

count_from : (formats : Format) (index : ℕ) (names : List (List ℕ))
    → length (map (λ p. column p.0 p.1) (zip (column_formats_from formats index names) names)) ≡ length names
count_from formats index [] = refl
count_from formats index (name ∷ names) = ap (λ n. suc n) (count_from formats (index + 1) names)

pub field_count : (relations : List Relation) (means : RelationStatement) (formats : Format)
    → length (fields_of relations means formats) ≡ length (columns_of relations means)
field_count relations means formats = count_from formats 0 (columns_of relations means)
