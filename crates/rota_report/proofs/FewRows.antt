-- A relation that a file tells has fewer rows than the file has lines.
use Rattle.std.proofs.Common.{◌≡◌, ◌∙◌, ℕ, zero, suc, ◌+◌, ◌<◌, ◌≤◌, ◌^◌, Bool, true, false, cond, not, List, [], ◌∷◌, Option, Some, None, length, map, filter, slice_index_or, refl, sym, ap, subst, arith}
use Rattle.std.specs.List.{slice_split, onto_first, AllByRecursion}
use Rattle.std.proofs.lemmas.List.{length-map}
use Rattle.relation_tables.specs.declared.Relation.{Relation}
use Rattle.relation_tables.specs.Relations.{place_of, relation_at}
use Rattle.relation_files.specs.Files.{IsToldBy}
use Rattle.relation_files.specs.Lines.{lines_of, blocks, is_empty}
use Rattle.relation_files.specs.Told.{relation_of, relations_of, row_of}
use Rattle.relation_files.proofs.Valid.{length-lines}
use Rattle.pg_interval.specs.declared.pg_interval.Interval.{Interval}
use Rattle.rota_report.specs.Columns.{column_place, column_at, column_if, column_in, column_of, zero_interval}

-- no part is longer than this
abbrev AreShort : ℕ → List (List (List ℕ)) → Type 0
AreShort m parts = AllByRecursion (λ part. length part ≤ m) parts

AreShort-more : (m n : ℕ) (parts : List (List (List ℕ))) → m ≤ n → AreShort m parts → AreShort n parts
AreShort-more m n [] le h = tt
AreShort-more m n (part ∷ parts) le h =
    let first : length part ≤ m = h.0 in
    (omega arith, AreShort-more m n parts le h.1)

AreShort-onto : (m : ℕ) (line : List ℕ) (parts : List (List (List ℕ))) → AreShort m parts → AreShort (suc m) (onto_first line parts)
AreShort-onto m line [] h = (omega arith, tt)
AreShort-onto m line (part ∷ parts) h =
    let first : length part ≤ m = h.0 in
    (omega arith, AreShort-more m (suc m) parts (omega arith) h.1)

AreShort-cond : (b : Bool) (m : ℕ) (line : List ℕ) (parts : List (List (List ℕ))) → AreShort m parts
    → AreShort (suc m) (cond b ([] ∷ parts) (onto_first line parts))
AreShort-cond true m line parts h = (omega arith, AreShort-more m (suc m) parts (omega arith) h)
AreShort-cond false m line parts h = AreShort-onto m line parts h

AreShort-parts : (lines : List (List ℕ)) → AreShort (length lines) (slice_split is_empty lines)
AreShort-parts [] = (omega arith, tt)
AreShort-parts (line ∷ lines) = AreShort-cond (is_empty line) (length lines) line (slice_split is_empty lines) (AreShort-parts lines)

AreShort-kept : (b : Bool) (m : ℕ) (part : List (List ℕ)) (parts : List (List (List ℕ))) → length part ≤ m → AreShort m parts
    → AreShort m (cond b (part ∷ parts) parts)
AreShort-kept true m part parts first others = (first, others)
AreShort-kept false m part parts first others = others

AreShort-filter : (p : List (List ℕ) → Bool) (m : ℕ) (parts : List (List (List ℕ))) → AreShort m parts → AreShort m (filter p parts)
AreShort-filter p m [] h = tt
AreShort-filter p m (part ∷ parts) h = AreShort-kept (p part) m part (filter p parts) h.0 (AreShort-filter p m parts h.1)

rows_of-block : (m : ℕ) (block : List (List ℕ)) → length block ≤ m → length (relation_of block).rows ≤ m
rows_of-block m [] h = omega arith
rows_of-block m (header ∷ lines) h = omega (arith, length-map lines row_of)

rows_at : (m : ℕ) (parts : List (List (List ℕ))) → AreShort m parts → (place : ℕ)
    → length (relation_at (map relation_of parts) place).rows ≤ m
rows_at m [] h place = omega arith
rows_at m (part ∷ parts) h zero = rows_of-block m part h.0
rows_at m (part ∷ parts) h (suc place) = rows_at m parts h.1 place

rows_few : (lines : List (List ℕ)) (place : ℕ) → length (relation_at (relations_of lines) place).rows ≤ length lines
rows_few lines place =
    rows_at (length lines) (blocks lines)
    (AreShort-filter (λ block. not (is_empty block)) (length lines) (slice_split is_empty lines) (AreShort-parts lines)) place

-- a column has as many intervals as the relation has rows
column_at-few : (r : Relation) (m place : ℕ) → length r.rows ≤ m → length (column_at r place) ≤ m
column_at-few r m place h = omega (arith, length-map r.rows (λ row. slice_index_or row place zero_interval))

column_if-few : (r : Relation) (m : ℕ) → length r.rows ≤ m → (place : Option ℕ) (steps : List Interval) → column_if r place ≡ Some steps
    → length steps ≤ m
column_if-few r m h None steps e = cc
column_if-few r m h (Some place) steps e =
    let same : column_at r place ≡ steps = cc in
    subst (λ l. length l ≤ m) same (column_at-few r m place h)

column_in-few : (relations : List Relation) (m : ℕ) → ((place : ℕ) → length (relation_at relations place).rows ≤ m) → (name : List ℕ)
    (place : Option ℕ) (steps : List Interval) → column_in relations name place ≡ Some steps → length steps ≤ m
column_in-few relations m h name None steps e = cc
column_in-few relations m h name (Some place) steps e =
    column_if-few (relation_at relations place) m (h place) (column_place (relation_at relations place).columns name) steps e

-- A column of a relation file has few intervals.
pub few_steps : (left new_left : Option (List ℕ)) (relations : List Relation) → IsToldBy left new_left relations
    → (relation column : List ℕ)
    (steps : List Interval) → column_of relations relation column ≡ Some steps → length steps + 1 < 2 ^ 32
few_steps left new_left relations told relation column steps e =
    let text = told.0 in
    let lines = lines_of text in
    let few : (place : ℕ) → length (relation_at relations place).rows ≤ length lines =
    subst (λ rs. (place : ℕ) → length (relation_at rs place).rows ≤ length lines) (sym told.4) (rows_few lines) in
    let short : length text ≤ 67108864 = told.2 in
    omega (arith, length-lines text, column_in-few relations (length lines) few column (place_of relations relation) steps e)
