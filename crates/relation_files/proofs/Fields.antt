-- Loops over fields and lines, the reasons of cells, and texts.
use Rattle.std.proofs.Common.{◌≡◌, ◌≢◌, ℕ, ◌+◌, ◌<◌, Bool, true, false, not, if◌then◌else◌, List, [], ◌∷◌, ◌++◌, Option, Some, None, Result, length, drop, get_or, refl, sym, ap, ◌∙◌, append_assoc, arith}
use Rattle.std.specs.Borrow.{Bor}
use Rattle.std.specs.Str.{IsUtf8, is_utf8}
use Rattle.std.proofs.lemmas.List.{append-nil, drop_all, drop_more}
use Rattle.std.proofs.lemmas.Str.{is_utf8-from_IsUtf8, IsUtf8-from_is_utf8}
use Rattle.std.proofs.lemmas.Bool.{eq-eqb, ne_eqb}
use Rattle.pg_interval.specs.Reading.{reading, Postgres}
use Rattle.pg_interval.specs.declared.pg_interval.Interval.{Interval}
use Rattle.interval_errors.specs.declared.ParseError.{ParseError}
use Rattle.relation_files.specs.declared.errors.LineReason.TheVariants.{Text, Header, Width}
use Rattle.relation_files.specs.Lines.{fields_of}
use Rattle.relation_files.specs.Reader.{fields_behind}
use Rattle.relation_files.specs.Refusal.{cell_reason, cells_reason, header_reason, row_reason, fields_reason, line_reason}

-- ---- a loop that takes an item for each of the parts

-- the next of the parts that a `for` goes over
pub next_part : {X : Type 0} (all : List X) (n : ℕ) (x : X) → (n < length all) × (x ≡ get_or all n x) → drop n all ≡ x ∷ drop (n + 1) all
next_part all n x h = drop_more all n x h.0 ∙ ap (λ y. y ∷ drop (n + 1) all) (sym h.1)

pub push-left : {X Y : Type 0} (rest : List X → List Y) (done whole : List Y) (all : List X) (n m : ℕ) (x : X) (y : Y)
    → ((l : List X) → rest (x ∷ l) ≡ y ∷ rest l) → done ++ rest (drop n all) ≡ whole → (n < length all) × (x ≡ get_or all n x) → m ≡ n + 1
    → (done ++ y ∷ []) ++ rest (drop m all) ≡ whole
push-left rest done whole all n m x y more so_far here count =
    append_assoc done (y ∷ []) (rest (drop m all))
    ∙ ap (λ k. done ++ y ∷ rest (drop k all)) count
    ∙ ap (λ l. done ++ l) (sym (more (drop (n + 1) all)))
    ∙ ap (λ l. done ++ rest l) (sym (next_part all n x here))
    ∙ so_far

pub left-all : {X Y : Type 0} (rest : List X → List Y) (done whole : List Y) (all : List X) (n : ℕ) → rest [] ≡ []
    → done ++ rest (drop n all) ≡ whole → n ≡ length all → done ≡ whole
left-all rest done whole all n none so_far count =
    sym (append-nil done)
    ∙ ap (λ l. done ++ l) (sym none)
    ∙ ap (λ l. done ++ rest l) (sym (drop_all n all (omega arith)))
    ∙ so_far

-- ---- cells

pub cells_reason-step : (all : List (List ℕ)) (n m : ℕ) (cell : List ℕ) (r : Result Interval ParseError)
    → (n < length all) × (cell ≡ get_or all n cell) → m ≡ n + 1 → r ≡ reading Postgres cell
    → cells_reason (drop n all) ≡ cell_reason r (cells_reason (drop m all))
cells_reason-step all n m cell r here count read =
    ap cells_reason (next_part all n cell here)
    ∙ ap (λ k. cell_reason (reading Postgres cell) (cells_reason (drop k all))) (sym count)
    ∙ ap (λ o. cell_reason o (cells_reason (drop m all))) (sym read)

pub cells_reason-end : (all : List (List ℕ)) (n : ℕ) → n ≡ length all → cells_reason (drop n all) ≡ None
cells_reason-end all n count = ap cells_reason (drop_all n all (omega arith))

-- ---- rows

pub row_reason-width : (width : ℕ) (cells : List (List ℕ)) (n : ℕ) → n ≡ length cells → n ≢ width → row_reason width cells ≡ Some Width
row_reason-width width cells n count differs =
    ap (λ b. if not b then Some Width else cells_reason cells) (ne_eqb (length cells) width (λ e. differs (count ∙ e)))

pub row_reason-fits : (width : ℕ) (cells : List (List ℕ)) (n : ℕ) → n ≡ length cells → n ≡ width
    → row_reason width cells ≡ cells_reason cells
row_reason-fits width cells n count fits =
    ap (λ b. if not b then Some Width else cells_reason cells) (eq-eqb (length cells) width (sym count ∙ fits))

-- ---- texts

is_false : (b : Bool) → (b ≡ true → ⊥) → b ≡ false
is_false true h = absurd (h refl)
is_false false h = refl

pub line_reason-no_text : (t : List ℕ → Bool) (width : Option ℕ) (line : List ℕ) → ¬ (IsUtf8 line) → line_reason t width line ≡ Some Text
line_reason-no_text t width line fails =
    ap (λ b. if not b then Some Text else fields_reason t width (fields_of line))
    (is_false (is_utf8 line) (λ e. fails (IsUtf8-from_is_utf8 line e)))

pub line_reason-text : (t : List ℕ → Bool) (width : Option ℕ) (line text : List ℕ) → (text ≡ line) × IsUtf8 line
    → line_reason t width line ≡ fields_reason t width (fields_of text)
line_reason-text t width line text h =
    ap (λ b. if not b then Some Text else fields_reason t width (fields_of line)) (is_utf8-from_IsUtf8 line h.1)
    ∙ ap (λ l. fields_reason t width (fields_of l)) (sym h.0)

-- ---- headers

pub header-one : (t : List ℕ → Bool) (line text name : List ℕ) (behind : Option (Bor (List ℕ))) → (text ≡ line) × IsUtf8 line
    → fields_of text ≡ name ∷ fields_behind behind → behind ≡ None → line_reason t None line ≡ Some Header
header-one t line text name behind h first none =
    line_reason-text t None line text h ∙ ap (header_reason t) (first ∙ ap (λ o. name ∷ fields_behind o) none)

pub header-more : (t : List ℕ → Bool) (line text name polls : List ℕ) (behind columns : Option (Bor (List ℕ))) (others : Bor (List ℕ))
    → (text ≡ line) × IsUtf8 line → fields_of text ≡ name ∷ fields_behind behind → behind ≡ Some others
    → fields_of others.now ≡ polls ∷ fields_behind columns
    → line_reason t None line ≡ header_reason t (name ∷ polls ∷ fields_behind columns)
header-more t line text name polls behind columns others h first some second =
    line_reason-text t None line text h
    ∙ ap (header_reason t) (first ∙ ap (λ o. name ∷ fields_behind o) some ∙ ap (λ fs. name ∷ fs) second)
