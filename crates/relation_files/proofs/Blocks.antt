-- The relations that are read line by line are those that the blocks tell.
use Rattle.std.proofs.Common.{◌≡◌, ℕ, not, List, [], ◌∷◌, ◌++◌, Some, None, map, filter, refl, sym, ap, ◌∙◌, append_assoc}
use Rattle.std.specs.List.{slice_split, onto_first}
use Rattle.std.proofs.lemmas.List.{append-nil}
use Rattle.pg_interval.specs.declared.pg_interval.Interval.{Interval}
use Rattle.relation_tables.specs.declared.Relation.{Relation}
use Rattle.relation_files.specs.Lines.{fields_of, is_empty}
use Rattle.relation_files.specs.Told.{header_of, row_of, relation_of, relations_of}
use Rattle.relation_files.specs.Reader.{all_after, nothing_read, with_row}

-- the first of the parts, and the others
abbrev first_part : List (List (List ℕ)) → List (List ℕ)
first_part [] = []
first_part (part ∷ parts) = part

abbrev later_parts : List (List (List ℕ)) → List (List (List ℕ))
later_parts [] = []
later_parts (part ∷ parts) = parts

onto_first-shape : (line : List ℕ) (parts : List (List (List ℕ))) → onto_first line parts ≡ (line ∷ first_part parts) ∷ later_parts parts
onto_first-shape line [] = refl
onto_first-shape line (part ∷ parts) = refl

-- a relation with these rows
abbrev having : Relation → List (List Interval) → Relation
having r rows = record { name = r.name; unready = r.unready; columns = r.columns; rows = rows }

-- a relation with the rows of more lines
abbrev and_rows : Relation → List (List ℕ) → Relation
and_rows r lines = having r (r.rows ++ map row_of lines)

and_rows-none : (r : Relation) → and_rows r [] ≡ r
and_rows-none r = ap (having r) (append-nil r.rows)

and_rows-more : (r : Relation) (line : List ℕ) (lines : List (List ℕ))
    → and_rows (with_row r (row_of line)) lines ≡ and_rows r (line ∷ lines)
and_rows-more r line lines = ap (having r) (append_assoc r.rows (row_of line ∷ []) (map row_of lines))

-- a header tells no row
header_rows : (fields : List (List ℕ)) → (header_of fields).rows ≡ []
header_rows [] = refl
header_rows (name ∷ []) = refl
header_rows (name ∷ polls ∷ columns) = refl

and_rows-header : (header : List ℕ) (lines : List (List ℕ)) → and_rows (header_of (fields_of header)) lines ≡ relation_of (header ∷ lines)
and_rows-header header lines = ap (λ rows. having (header_of (fields_of header)) (rows ++ map row_of lines))
    (header_rows (fields_of header))

-- the relations that parts tell, empty ones left out
abbrev told_by : List (List (List ℕ)) → List Relation
told_by parts = map relation_of (filter (λ block. not (is_empty block)) parts)

abbrev parts_of : List (List ℕ) → List (List (List ℕ))
parts_of lines = slice_split is_empty lines

-- what lines add where a relation is open, and where none is
abbrev TellWith : List (List ℕ) → Type 0
TellWith lines = (closed : List Relation) (r : Relation) → all_after (record { closed = closed; current = Some r }) lines
    ≡ closed ++ and_rows r (first_part (parts_of lines)) ∷ told_by (later_parts (parts_of lines))

abbrev Tell : List (List ℕ) → Type 0
Tell lines = (closed : List Relation) → all_after (record { closed = closed; current = None }) lines ≡ closed ++ told_by (parts_of lines)

tell : (lines : List (List ℕ)) → TellWith lines × Tell lines
tell [] = (λ closed r. ap (λ x. closed ++ x ∷ []) (sym (and_rows-none r)), λ closed. refl)
tell ([] ∷ lines) =
    let more = tell lines in (
      λ closed r. more.1 (closed ++ r ∷ [])
          ∙ append_assoc closed (r ∷ []) (told_by (parts_of lines))
          ∙ ap (λ x. closed ++ x ∷ told_by (parts_of lines)) (sym (and_rows-none r)),
      λ closed. more.1 (closed ++ []) ∙ ap (λ rs. rs ++ told_by (parts_of lines)) (append-nil closed),
    )
tell ((byte ∷ bytes) ∷ lines) =
    let more = tell lines in
    let line : List ℕ = byte ∷ bytes in
    let shape = onto_first-shape line (parts_of lines) in (
      λ closed r. more.0 closed (with_row r (row_of line))
          ∙ ap (λ x. closed ++ x ∷ told_by (later_parts (parts_of lines))) (and_rows-more r line (first_part (parts_of lines)))
          ∙ ap (λ parts. closed ++ and_rows r (first_part parts) ∷ told_by (later_parts parts)) (sym shape),
      λ closed. more.0 closed (header_of (fields_of line))
          ∙ ap (λ x. closed ++ x ∷ told_by (later_parts (parts_of lines))) (and_rows-header line (first_part (parts_of lines)))
          ∙ ap (λ parts. closed ++ told_by parts) (sym shape),
    )

pub all_after-nothing : (lines : List (List ℕ)) → all_after nothing_read lines ≡ relations_of lines
all_after-nothing lines = (tell lines).1 []
