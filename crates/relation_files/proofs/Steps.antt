-- The refusal of lines, one line at a time.
use Rattle.std.proofs.Common.{◌≡◌, ℕ, ◌+◌, ◌<◌, Bool, not, if◌then◌else◌, List, [], ◌∷◌, ◌++◌, Option, Some, None, length, drop, get_or, map, refl, sym, ap, ◌∙◌, arith}
use Rattle.std.specs.Str.{is_utf8}
use Rattle.std.specs.Str.Lines.{strip_carriage_return}
use Rattle.std.proofs.lemmas.List.{append-nil, map-append, drop_all}
use Rattle.relation_tables.specs.declared.Relation.{Relation}
use Rattle.relation_files.specs.declared.errors.LineError.{LineError}
use Rattle.relation_files.specs.declared.errors.LineError.TheVariants.{Refused, NoMemory}
use Rattle.relation_files.specs.declared.errors.LineReason.{LineReason}
use Rattle.relation_files.specs.declared.errors.LineReason.TheVariants.{Text}
use Rattle.relation_files.specs.Lines.{fields_of}
use Rattle.relation_files.specs.Told.{header_of, row_of}
use Rattle.relation_files.specs.Refusal.{is_among, header_reason, line_reason, at_line, first_bad_line_from}
use Rattle.relation_files.specs.Reader.{SoFar, all_of, names_of, width_of, with_row, after, all_after, reason_at, error_at, IsReason, IsRefusedFor}
use Rattle.relation_files.proofs.Fields.{next_part}

-- lines from a reader on
abbrev pub bad_line_after : ℕ → SoFar → List (List ℕ) → Option (ℕ × LineReason)
bad_line_after number s lines = first_bad_line_from number (names_of s) (width_of s.current) lines

names-close : (rs : List Relation) → map (λ r. r.name) (rs ++ []) ≡ map (λ r. r.name) rs
names-close rs = ap (λ x. map (λ r. r.name) x) (append-nil rs)

pub names-header : (closed : List Relation) (r : Relation)
    → map (λ x. x.name) (closed ++ []) ++ r.name ∷ [] ≡ map (λ x. x.name) (closed ++ r ∷ [])
names-header closed r = ap (λ xs. xs ++ r.name ∷ []) (names-close closed) ∙ sym (map-append (λ x. x.name) closed (r ∷ []))

names-row : (closed : List Relation) (r s : Relation) → r.name ≡ s.name
    → map (λ x. x.name) (closed ++ r ∷ []) ≡ map (λ x. x.name) (closed ++ s ∷ [])
names-row closed r s e =
    map-append (λ x. x.name) closed (r ∷ []) ∙ ap (λ n. map (λ x. x.name) closed ++ n ∷ []) e
    ∙ sym (map-append (λ x. x.name) closed (s ∷ []))

-- a line is judged, and then those behind it
pub bad_line_after-step : (number : ℕ) (closed : List Relation) (current : Option Relation) (line : List ℕ) (lines : List (List ℕ))
    → let s : SoFar = record { closed = closed; current = current } in
    bad_line_after number s (line ∷ lines) ≡ at_line number (reason_at s line) (bad_line_after (number + 1) (after s line) lines)
bad_line_after-step number closed None [] lines =
    ap (λ names. first_bad_line_from (number + 1) names None lines) (sym (names-close (closed ++ [])))
bad_line_after-step number closed (Some r) [] lines =
    ap (λ names. first_bad_line_from (number + 1) names None lines) (sym (names-close (closed ++ r ∷ [])))
bad_line_after-step number closed None (byte ∷ bytes) lines =
    let header = header_of (fields_of (byte ∷ bytes)) in
    ap (λ names. at_line number (line_reason (is_among (map (λ r. r.name) (closed ++ []))) None (byte ∷ bytes))
    (first_bad_line_from (number + 1) names (Some (length header.columns)) lines)) (names-header closed header)
bad_line_after-step number closed (Some r) (byte ∷ bytes) lines =
    ap (λ names. at_line number (line_reason (is_among (map (λ r. r.name) (closed ++ r ∷ []))) (Some (length r.columns)) (byte ∷ bytes))
    (first_bad_line_from (number + 1) names (Some (length r.columns)) lines)) (names-row closed r (with_row r (row_of (byte ∷ bytes))) refl)

-- where nothing is refused, neither the line nor those behind it are
pub at_line-none : (number : ℕ) (o : Option LineReason) (later : Option (ℕ × LineReason)) → at_line number o later ≡ None
    → (o ≡ None) × (later ≡ None)
at_line-none number None later h = (refl, h)
at_line-none number (Some reason) later h = (cc, cc)

-- a header is judged alike by what tells alike which names are taken
pub header_reason-alike : (t u : List ℕ → Bool) → ((name : List ℕ) → t name ≡ u name) → (fields : List (List ℕ))
    → header_reason t fields ≡ header_reason u fields
header_reason-alike t u h [] = refl
header_reason-alike t u h (name ∷ []) = refl
header_reason-alike t u h (name ∷ polls ∷ columns) = rw (h name) refl

pub line_reason-alike : (t u : List ℕ → Bool) → ((name : List ℕ) → t name ≡ u name) → (line : List ℕ)
    → line_reason t None line ≡ line_reason u None line
line_reason-alike t u h line =
    ap (λ o. if not (is_utf8 line) then Some Text else o) (header_reason-alike t u h (fields_of line))

-- ---- a loop over lines

-- the lines of these parts
abbrev pub lines_in : List (List ℕ) → List (List ℕ)
lines_in parts = map strip_carriage_return parts

-- behind a line that was taken, all relations are what they were to be
pub all_after-taken : (parts : List (List ℕ)) (n m : ℕ) (part : List ℕ) (s t : SoFar) (whole : List Relation)
    → (n < length parts) × (part ≡ get_or parts n part) → m ≡ n + 1 → t ≡ after s (strip_carriage_return part)
    → all_after s (lines_in (drop n parts)) ≡ whole → all_after t (lines_in (drop m parts)) ≡ whole
all_after-taken parts n m part s t whole here count taken told =
    ap (λ x. all_after x (lines_in (drop m parts))) taken
    ∙ ap (λ k. all_after (after s (strip_carriage_return part)) (lines_in (drop k parts))) count
    ∙ ap (λ l. all_after s (lines_in l)) (sym (next_part parts n part here))
    ∙ told

-- the next line is judged
pub bad_line-next : (parts : List (List ℕ)) (n m : ℕ) (part : List ℕ) (s : SoFar) (whole : Option (ℕ × LineReason))
    → (n < length parts) × (part ≡ get_or parts n part) → m ≡ n + 1 → bad_line_after (n + 1) s (lines_in (drop n parts)) ≡ whole
    → at_line (n + 1) (reason_at s (strip_carriage_return part))
    (bad_line_after (m + 1) (after s (strip_carriage_return part)) (lines_in (drop m parts))) ≡ whole
bad_line-next parts n m part s whole here count first =
    let line = strip_carriage_return part in
    ap (λ k. at_line (n + 1) (reason_at s line) (bad_line_after (k + 1) (after s line) (lines_in (drop k parts)))) count
    ∙ sym (bad_line_after-step (n + 1) s.closed s.current line (lines_in (drop (n + 1) parts)))
    ∙ ap (λ l. bad_line_after (n + 1) s (lines_in l)) (sym (next_part parts n part here))
    ∙ first

-- and where it isn't refused, so are those behind it
pub bad_line-taken : (parts : List (List ℕ)) (n m : ℕ) (part : List ℕ) (s t : SoFar) (whole : Option (ℕ × LineReason))
    → (n < length parts) × (part ≡ get_or parts n part) → m ≡ n + 1 → t ≡ after s (strip_carriage_return part)
    → reason_at s (strip_carriage_return part) ≡ None → bad_line_after (n + 1) s (lines_in (drop n parts)) ≡ whole
    → bad_line_after (m + 1) t (lines_in (drop m parts)) ≡ whole
bad_line-taken parts n m part s t whole here count taken good first =
    let line = strip_carriage_return part in
    ap (λ x. bad_line_after (m + 1) x (lines_in (drop m parts))) taken
    ∙ ap (λ o. at_line (n + 1) o (bad_line_after (m + 1) (after s line) (lines_in (drop m parts)))) (sym good)
    ∙ bad_line-next parts n m part s whole here count first

-- the error of a line as that of the file
pub refused-at : (e : LineError) (number n : ℕ) (o : Option LineReason) (later whole : Option (ℕ × LineReason)) → number ≡ n
    → IsReason e o → at_line n o later ≡ whole → IsRefusedFor (error_at number e) whole
refused-at (Refused reason) number n o later whole count is first =
    sym first ∙ ap (λ p. at_line n p later) is ∙ ap (λ k. Some (k, reason)) (sym count)
refused-at NoMemory number n o later whole count is first = tt

-- no line is left
pub all_after-end : (parts : List (List ℕ)) (n : ℕ) (s : SoFar) (whole : List Relation) → n ≡ length parts
    → all_after s (lines_in (drop n parts)) ≡ whole → all_of s ≡ whole
all_after-end parts n s whole count told = ap (λ l. all_after s (lines_in l)) (sym (drop_all n parts (omega arith))) ∙ told

pub bad_line-end : (parts : List (List ℕ)) (n : ℕ) (s : SoFar) (whole : Option (ℕ × LineReason)) → n ≡ length parts
    → bad_line_after (n + 1) s (lines_in (drop n parts)) ≡ whole → whole ≡ None
bad_line-end parts n s whole count first =
    sym first ∙ ap (λ l. bad_line_after (n + 1) s (lines_in l)) (drop_all n parts (omega arith))
