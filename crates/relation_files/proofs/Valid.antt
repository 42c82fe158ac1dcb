-- Relations in whose lines nothing is refused make a valid table.
use Rattle.std.proofs.Common.{◌≡◌, ℕ, ◌+◌, ◌≤◌, Bool, true, false, not, if◌then◌else◌, ◌||◌, ◌&&◌, ◌==◌, List, [], ◌∷◌, ◌++◌, Option, Some, None, length, map, refl, sym, ap, ◌∙◌, append_assoc, arith, bytes_eq}
use Rattle.std.specs.Option.{is_some}
use Rattle.std.specs.List.{position_from, slice_split}
use Rattle.std.specs.Str.{is_utf8}
use Rattle.std.specs.Str.Lines.{strip_carriage_return}
use Rattle.std.proofs.lemmas.List.{append-nil, length-map}
use Rattle.std.proofs.lemmas.List.Folds.{list_all-append}
use Rattle.std.proofs.lemmas.List.Splits.{length-slice_split}
use Rattle.std.proofs.lemmas.List.Sums.{length-filter, count_by-le-length}
use Rattle.pg_interval.specs.Reading.{reading, Postgres}
use Rattle.pg_interval.specs.declared.pg_interval.Interval.{Interval}
use Rattle.relation_tables.specs.declared.Relation.{Relation}
use Rattle.relation_tables.specs.Relations.{place_of, are_even}
use Rattle.relation_handlers.specs.declared.table.TableError.{TableError}
use Rattle.relation_handlers.specs.declared.table.TableError.TheVariants.{BadName, BadColumn, RaggedRow}
use Rattle.relation_tables.specs.Names.{is_name, are_columns}
use Rattle.relation_handlers.specs.Tables.{IsValid, refusal_at, or_else}
use Rattle.relation_handlers.specs.Tables as table
use Rattle.relation_files.specs.declared.errors.LineReason.{LineReason}
use Rattle.relation_files.specs.declared.errors.LineReason.TheVariants.{Text, Header, Name, Column, Width}
use Rattle.relation_files.specs.Lines.{lines_of, fields_of, is_empty, blocks}
use Rattle.relation_files.specs.Told.{header_of, row_of, polls_of, relation_of, relations_of, interval_or_zero}
use Rattle.relation_files.specs.Refusal.{is_among, header_reason, line_reason, row_reason, cells_reason, first_bad_line}
use Rattle.relation_files.specs.Reader.{SoFar, all_of, names_of, with_row, after, all_after, reason_at, nothing_read, one_or_none}
use Rattle.relation_files.proofs.Steps.{bad_line_after, bad_line_after-step, at_line-none}
use Rattle.relation_files.proofs.Blocks.{all_after-nothing}

-- ---- tables that grow

or_else-assoc : (o p q : Option TableError) → or_else o (or_else p q) ≡ or_else (or_else o p) q
or_else-assoc None p q = refl
or_else-assoc (Some e) p q = refl

or_else-none : (o : Option TableError) → or_else o None ≡ o
or_else-none None = refl
or_else-none (Some e) = refl

neither : (o p : Option TableError) → or_else o p ≡ None → (o ≡ None) × (p ≡ None)
neither None p h = (refl, h)
neither (Some e) p h = (cc, cc)

-- the refusal of one relation more
refusal-push : (earlier rs : List Relation) (r : Relation) → table.refusal_after earlier (rs ++ r ∷ [])
    ≡ or_else (table.refusal_after earlier rs) (refusal_at (length (earlier ++ rs)) (is_some (place_of (earlier ++ rs) r.name)) r)
refusal-push earlier [] r =
    or_else-none (refusal_at (length earlier) (is_some (place_of earlier r.name)) r)
    ∙ ap (λ xs. refusal_at (length xs) (is_some (place_of xs r.name)) r) (sym (append-nil earlier))
refusal-push earlier (s ∷ rs) r =
    let here = refusal_at (length earlier) (is_some (place_of earlier s.name)) s in
    ap (λ o. or_else here o) (refusal-push (earlier ++ s ∷ []) rs r)
    ∙ or_else-assoc here (table.refusal_after (earlier ++ s ∷ []) rs)
    (refusal_at (length ((earlier ++ s ∷ []) ++ rs)) (is_some (place_of ((earlier ++ s ∷ []) ++ rs) r.name)) r)
    ∙ ap (λ xs. or_else (or_else here (table.refusal_after (earlier ++ s ∷ []) rs))
    (refusal_at (length xs) (is_some (place_of xs r.name)) r))
    (append_assoc earlier (s ∷ []) rs)

IsValid-push : (rs : List Relation) (r : Relation) → IsValid rs → refusal_at (length rs) (is_some (place_of rs r.name)) r ≡ None
    → IsValid (rs ++ r ∷ [])
IsValid-push rs r valid good =
    refusal-push [] rs r ∙ ap (λ o. or_else o (refusal_at (length rs) (is_some (place_of rs r.name)) r)) valid ∙ good

IsValid-pushed : (rs : List Relation) (r : Relation) → IsValid (rs ++ r ∷ [])
    → IsValid rs × (refusal_at (length rs) (is_some (place_of rs r.name)) r ≡ None)
IsValid-pushed rs r valid =
    neither (table.refusal_after [] rs) (refusal_at (length rs) (is_some (place_of rs r.name)) r) (sym (refusal-push [] rs r) ∙ valid)

-- ---- names

some-if : (b : Bool) (i : ℕ) (o : Option ℕ) → is_some (if b then Some i else o) ≡ (b || is_some o)
some-if true i o = refl
some-if false i o = refl

is_some-position : (name : List ℕ) (i : ℕ) (rs : List Relation)
    → is_some (position_from (λ r. bytes_eq name r.name) i rs) ≡ is_among (map (λ r. r.name) rs) name
is_some-position name i [] = refl
is_some-position name i (r ∷ rs) =
    some-if (bytes_eq name r.name) i (position_from (λ r. bytes_eq name r.name) (i + 1) rs)
    ∙ ap (λ b. bytes_eq name r.name || b) (is_some-position name (i + 1) rs)

is_some-place : (rs : List Relation) (name : List ℕ) → is_some (place_of rs name) ≡ is_among (map (λ r. r.name) rs) name
is_some-place rs name = is_some-position name 0 rs

-- ---- a relation

-- what a relation is refused for, by what is true of it
abbrev verdict : ℕ → Bool → Bool → Bool → Bool → Option TableError
verdict n taken name columns rows =
    if taken || not name then Some (BadName n) else if not columns then Some (BadColumn n) else if not rows then Some (RaggedRow n)
    else None

verdict-good : (n : ℕ) (taken name columns rows : Bool) → taken ≡ false → name ≡ true → columns ≡ true → rows ≡ true
    → verdict n taken name columns rows ≡ None
verdict-good n taken name columns rows a b c d = rw (a, b, c, d) refl

good_by_verdict : (n : ℕ) (taken name columns rows : Bool) → verdict n taken name columns rows ≡ None
    → (taken ≡ false) × (name ≡ true) × (columns ≡ true) × (rows ≡ true)
good_by_verdict n true name columns rows h = (cc, cc, cc, cc)
good_by_verdict n false false columns rows h = (cc, cc, cc, cc)
good_by_verdict n false true false rows h = (cc, cc, cc, cc)
good_by_verdict n false true true false h = (cc, cc, cc, cc)
good_by_verdict n false true true true h = (refl, refl, refl, refl)

-- ---- a line

text_passed : (utf8 : Bool) (o : Option LineReason) → (if not utf8 then Some Text else o) ≡ None → o ≡ None
text_passed true o h = h
text_passed false o h = cc

header_passed : (polls taken name columns : Bool)
    → (if not polls then Some Header else if taken || not name then Some Name else if not columns then Some Column else None) ≡ None
    → (taken ≡ false) × (name ≡ true) × (columns ≡ true)
header_passed false taken name columns h = (cc, cc, cc)
header_passed true true name columns h = (cc, cc, cc)
header_passed true false false columns h = (cc, cc, cc)
header_passed true false true false h = (cc, cc, cc)
header_passed true false true true h = (refl, refl, refl)

-- a header that is refused for nothing
good_header : (t : List ℕ → Bool) (fields : List (List ℕ)) → header_reason t fields ≡ None
    → (t (header_of fields).name ≡ false) × (is_name (header_of fields).name ≡ true) × (are_columns (header_of fields).columns ≡ true)
    × ((header_of fields).rows ≡ [])
good_header t [] h = (cc, cc, cc, cc)
good_header t (name ∷ []) h = (cc, cc, cc, cc)
good_header t (name ∷ polls ∷ columns) h =
    let p = header_passed (is_some (polls_of polls)) (t name) (is_name name) (are_columns columns) h in (p.0, p.1, p.2, refl)

width_passed : (fits : Bool) (o : Option LineReason) → (if not fits then Some Width else o) ≡ None → fits ≡ true
width_passed true o h = refl
width_passed false o h = cc

-- a row that is refused for nothing is as wide as the relation
good_row : (t : List ℕ → Bool) (width : ℕ) (line : List ℕ) → line_reason t (Some width) line ≡ None
    → (length (row_of line) == width) ≡ true
good_row t width line h =
    ap (λ n. n == width) (length-map (fields_of line) (λ cell. interval_or_zero (reading Postgres cell)))
    ∙ width_passed (length (fields_of line) == width) (cells_reason (fields_of line))
    (text_passed (is_utf8 line) (row_reason width (fields_of line)) h)

both : (a b : Bool) → a ≡ true → b ≡ true → (a && b) ≡ true
both a b p q = rw (p, q) refl

even_more : (width : ℕ) (rows : List (List Interval)) (row : List Interval) → are_even width rows ≡ true
    → (length row == width) ≡ true → are_even width (rows ++ row ∷ []) ≡ true
even_more width rows row even fits =
    list_all-append (λ x. length x == width) rows (row ∷ [])
    ∙ both (are_even width rows) (are_even width (row ∷ [])) even (both (length row == width) true fits refl)

-- ---- lines

valid-step : (closed : List Relation) (current : Option Relation) (line : List ℕ)
    → let s : SoFar = record { closed = closed; current = current } in
    IsValid (all_of s) → reason_at s line ≡ None → IsValid (all_of (after s line))
valid-step closed current [] valid h =
    ap (λ rs. table.refusal rs) (append-nil (closed ++ one_or_none current)) ∙ valid
valid-step closed None (byte ∷ bytes) valid h =
    let fields = fields_of (byte ∷ bytes) in
    let header = header_of fields in
    let names = map (λ r. r.name) (closed ++ []) in
    let good = good_header (is_among names) fields (text_passed (is_utf8 (byte ∷ bytes)) (header_reason (is_among names) fields) h) in
    let fresh : is_some (place_of closed header.name) ≡ false =
    is_some-place closed header.name ∙ ap (λ rs. is_among (map (λ r. r.name) rs) header.name) (sym (append-nil closed)) ∙ good.0 in
    IsValid-push closed header (ap (λ rs. table.refusal rs) (sym (append-nil closed)) ∙ valid)
    (verdict-good (length closed) (is_some (place_of closed header.name)) (is_name header.name) (are_columns header.columns)
    (are_even (length header.columns) header.rows) fresh good.1 good.2 (ap (λ rows. are_even (length header.columns) rows) good.3))
valid-step closed (Some r) (byte ∷ bytes) valid h =
    let line : List ℕ = byte ∷ bytes in
    let old = IsValid-pushed closed r valid in
    let good = good_by_verdict (length closed) (is_some (place_of closed r.name)) (is_name r.name) (are_columns r.columns)
    (are_even (length r.columns) r.rows) old.1 in
    IsValid-push closed (with_row r (row_of line)) old.0
    (verdict-good (length closed) (is_some (place_of closed r.name)) (is_name r.name) (are_columns r.columns)
    (are_even (length r.columns) (r.rows ++ row_of line ∷ [])) good.0 good.1 good.2
    (even_more (length r.columns) r.rows (row_of line) good.3
    (good_row (is_among (names_of (record { closed = closed; current = Some r }))) (length r.columns) line h)))

valid-all : (lines : List (List ℕ)) (number : ℕ) (s : SoFar) → IsValid (all_of s) → bad_line_after number s lines ≡ None
    → IsValid (all_after s lines)
valid-all [] number s valid h = valid
valid-all (line ∷ lines) number s valid h =
    let p = at_line-none number (reason_at s line) (bad_line_after (number + 1) (after s line) lines)
    (sym (bad_line_after-step number s.closed s.current line lines) ∙ h) in
    valid-all lines (number + 1) (after s line) (valid-step s.closed s.current line valid p.0) p.1

-- the relations that lines tell of which none is refused
pub IsValid-told : (lines : List (List ℕ)) → first_bad_line lines ≡ None → IsValid (relations_of lines)
IsValid-told lines h = ap (λ rs. table.refusal rs) (sym (all_after-nothing lines)) ∙ valid-all lines 1 nothing_read refl h

-- ---- how many

pub length-lines : (text : List ℕ) → length (lines_of text) ≤ length text + 1
length-lines text =
    let parts = slice_split (λ byte. byte == 10) text in
    omega (
      arith,
      length-map parts strip_carriage_return,
      length-slice_split (λ byte. byte == 10) text,
      count_by-le-length (λ byte. byte == 10) text,
    )

pub length-relations : (lines : List (List ℕ)) → length (relations_of lines) ≤ length lines + 1
length-relations lines =
    let parts = slice_split is_empty lines in
    let full : List (List ℕ) → Bool = λ block. not (is_empty block) in
    omega (
      arith,
      length-map (blocks lines) relation_of,
      length-filter full parts,
      count_by-le-length full parts,
      length-slice_split (is_empty {X = ℕ}) lines,
      count_by-le-length (is_empty {X = ℕ}) lines,
    )
