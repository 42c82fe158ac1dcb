-- A row and a line of a relation's handler show the row: each cell stands for its interval.
use Rattle.std.proofs.Common.{◌≡◌, ◌∙◌, ℕ, ◌<◌, zero, suc, ◌==◌, ◌&&◌, Bool, true, false, IsTrue, List, [], ◌∷◌, ◌++◌, Option, Some, None, Result, Ok, Err, length, map, zip, refl, sym, ap, arith}
use Rattle.std.specs.List.{AllByRecursion, AllZip, Contains, concat}
use Rattle.std.proofs.lemmas.List.{take_all}
use Rattle.std.proofs.lemmas.List.Elements.{All-contains, All-from_recursion}
use Rattle.pg_interval.specs.declared.pg_interval.Interval.{Interval}
use Rattle.pg_interval.specs.Cell.{IsInterval, interval_cell}
use Rattle.pg_interval.specs.Printed.{printed}
use Rattle.pg_interval.specs.Reading.{StandsForOnly, Postgres, PostgresVerbose, Iso8601, SqlStandard}
use Rattle.pg_interval.proofs.CellLemmas.{length-interval_cell}
use Rattle.pg_interval.proofs.IsoReads.{iso_stands}
use Rattle.pg_interval.proofs.PostgresReads.{postgres_stands}
use Rattle.pg_interval.proofs.SqlReads.{sql_stands}
use Rattle.pg_interval.proofs.Stands.{stands_from}
use Rattle.pg_interval.proofs.VerboseReads.{verbose_stands}
use Rattle.pg_messages.specs.declared.copy.CopyData.{CopyData}
use Rattle.pg_messages.specs.declared.data.DataRow.{DataRow}
use Rattle.pg_messages.specs.Fields.{count32}
use Rattle.pg_types.specs.declared.field_format.FieldFormat.{FieldFormat}
use Rattle.pg_types.specs.declared.field_format.FieldFormat.TheVariants as field
use Rattle.pg_text.specs.declared.format.interval_style.IntervalStyle.{IntervalStyle}
use Rattle.pg_text.specs.declared.format.interval_style.IntervalStyle.TheVariants as style
use Rattle.pg_text.specs.Intervals.{read_interval}
use Rattle.pg_text.specs.Words.{printed_style}
use Rattle.pg_text.proofs.Cells.{read_some}
use Rattle.pg_results.specs.declared.error.PgWireError.{PgWireError}
use Rattle.pg_results.specs.declared.format.Format.{Format}
use Rattle.pg_results.specs.Copying.{CopyItem}
use Rattle.pg_results.specs.Rows.{RowItem}
use Rattle.relation_tables.specs.declared.Relation.{Relation}
use Rattle.relation_tables.specs.Relations.{relation_at, are_even, HaveEvenRows}
use Rattle.relation_tables.specs.RelationHandler.{or_refused, in_front, all_or_error, text_of, as_value as as_text_value, value, row_of_values, row_item, line_of_texts, line_item, column_formats}
use Rattle.relation_tables.proofs.ItemsAgree.{even_at}
use Rattle.relation_handlers.specs.Tables.{HoldIntervals}
use Rattle.relation_handlers.proofs.ColumnLemmas.{formats_len}
use Rattle.cell_laws.specs.ShownCells.{TextStands, CellStands, CellsStand, as_value, ShowsRow, ShowsLine, IsRowAt, ShowsStoredRow, ShowsStoredLine, IsPlain}
use Rattle.cell_laws.proofs.PlainTexts.{printed_plain}
use Rattle.cell_laws.proofs.CellsPaged.{ItemIs, ItemsAre}

-- ---- one interval

printed_stands : (style : IntervalStyle) (i : Interval) → IsInterval i
    → StandsForOnly (printed_style style) (printed (printed_style style) i) i
printed_stands style.Postgres i is = stands_from Postgres (printed Postgres i) i (postgres_stands i is) refl
printed_stands style.ISO8601 i is = stands_from Iso8601 (printed Iso8601 i) i (iso_stands i is) refl
printed_stands style.SQLStandard i is = stands_from SqlStandard (printed SqlStandard i) i (sql_stands i is) refl
printed_stands style.PostgresVerbose i is = stands_from PostgresVerbose (printed PostgresVerbose i) i (verbose_stands i is) refl

not_short : (cell : List ℕ) → length cell ≡ 16 → ¬ (length cell < 16)
not_short cell e h = omega (arith, e, h)

binary_stands : (i : Interval) → IsInterval i → (length (interval_cell i) ≡ 16) × (read_interval (interval_cell i) ≡ Ok i)
binary_stands i is =
    let cell = interval_cell i in
    let n = length-interval_cell i in
    (n, sym (read_some cell i (not_short cell n) is (take_all 16 cell (omega (arith, n)))))

abbrev TextShown : Option IntervalStyle → Interval → Result (List ℕ) PgWireError → Type 0
TextShown style i (Ok text) = TextStands style text i
TextShown style i (Err e) = Unit {0}

text_shown : (named : List ℕ) (style : Option IntervalStyle) (i : Interval) → IsInterval i
    → TextShown style i (text_of (or_refused named style) i)
text_shown named None i is = tt
text_shown named (Some style) i is = printed_stands style i is

abbrev ValueShown : Option IntervalStyle → FieldFormat → Interval → Result (List ℕ) PgWireError → Type 0
ValueShown style format i (Ok bytes) = (cell : List ℕ) × (bytes ≡ as_value cell) × CellStands style format cell i
ValueShown style format i (Err e) = Unit {0}

text_value_shown : (style : Option IntervalStyle) (i : Interval) (r : Result (List ℕ) PgWireError) → TextShown style i r
    → ValueShown style field.Text i (as_text_value r)
text_value_shown style i (Ok text) h = (text, refl, h)
text_value_shown style i (Err e) h = tt

value_shown : (named : List ℕ) (style : Option IntervalStyle) (format : FieldFormat) (i : Interval) → IsInterval i
    → ValueShown style format i (value (or_refused named style) format i)
value_shown named style field.Text i is =
    text_value_shown style i (text_of (or_refused named style) i) (text_shown named style i is)
value_shown named style field.Binary i is =
    (interval_cell i, ap (λ n. count32 n ++ interval_cell i) (sym (length-interval_cell i)), binary_stands i is)

-- ---- a row

abbrev ValuesShown : Option IntervalStyle → List FieldFormat → List Interval → Result (List (List ℕ)) PgWireError → Type 0
ValuesShown style formats row (Ok values) = (cells : List (List ℕ)) × (values ≡ map as_value cells) × CellsStand style formats cells row
ValuesShown style formats row (Err e) = Unit {0}

front_shown : (style : Option IntervalStyle) (format : FieldFormat) (formats : List FieldFormat) (i : Interval) (row : List Interval)
    (v : Result (List ℕ) PgWireError) (vs : Result (List (List ℕ)) PgWireError)
    → ValueShown style format i v → ValuesShown style formats row vs → ValuesShown style (format ∷ formats) (i ∷ row) (in_front v vs)
front_shown style format formats i row (Err e) vs h hs = tt
front_shown style format formats i row (Ok v) (Err e) h hs = tt
front_shown style format formats i row (Ok v) (Ok vs) h hs =
    (h.0 ∷ hs.0, ap (λ x. x ∷ vs) h.1 ∙ ap (λ xs. as_value h.0 ∷ xs) hs.1, (h.2, hs.2))

values_shown : (named : List ℕ) (style : Option IntervalStyle) (formats : List FieldFormat) (row : List Interval)
    → length formats ≡ length row → AllByRecursion IsInterval row
    → ValuesShown style formats row (all_or_error (map (λ p. value (or_refused named style) p.0 p.1) (zip formats row)))
values_shown named style [] [] e is = ([], refl, tt)
values_shown named style [] (i ∷ row) e is = absurd (omega (arith, e))
values_shown named style (format ∷ formats) [] e is = absurd (omega (arith, e))
values_shown named style (format ∷ formats) (i ∷ row) e is =
    front_shown style format formats i row (value (or_refused named style) format i) _ (value_shown named style format i is.0)
    (values_shown named style formats row (omega (arith, e)) is.1)

abbrev RowShown : Option IntervalStyle → List FieldFormat → List Interval → RowItem → Type 0
RowShown style formats row (Ok d) = ShowsRow style formats row d
RowShown style formats row (Err e) = Unit {0}

row_from : (style : Option IntervalStyle) (formats : List FieldFormat) (row : List Interval) (vs : Result (List (List ℕ)) PgWireError)
    → ValuesShown style formats row vs → RowShown style formats row (row_of_values (length row) vs)
row_from style formats row (Ok values) h = record { cells = h.0; count = refl; payload = ap concat h.1; stand = h.2 }
row_from style formats row (Err e) h = tt

row_shown : (named : List ℕ) (style : Option IntervalStyle) (formats : List FieldFormat) (row : List Interval)
    → length formats ≡ length row → AllByRecursion IsInterval row
    → RowShown style formats row (row_item (or_refused named style) formats row)
row_shown named style formats row e is = row_from style formats row _ (values_shown named style formats row e is)

-- ---- a line

abbrev PlainTextShown : Option IntervalStyle → Interval → Result (List ℕ) PgWireError → Type 0
PlainTextShown style i (Ok text) = IsPlain text × TextStands style text i
PlainTextShown style i (Err e) = Unit {0}

plain_text_shown : (named : List ℕ) (style : Option IntervalStyle) (i : Interval) → IsInterval i
    → PlainTextShown style i (text_of (or_refused named style) i)
plain_text_shown named None i is = tt
plain_text_shown named (Some style) i is = (printed_plain (printed_style style) i is, printed_stands style i is)

abbrev TextsShown : Option IntervalStyle → List Interval → Result (List (List ℕ)) PgWireError → Type 0
TextsShown style row (Ok texts) = AllZip (λ text i. IsPlain text × TextStands style text i) texts row
TextsShown style row (Err e) = Unit {0}

front_text_shown : (style : Option IntervalStyle) (i : Interval) (row : List Interval) (v : Result (List ℕ) PgWireError)
    (vs : Result (List (List ℕ)) PgWireError)
    → PlainTextShown style i v → TextsShown style row vs → TextsShown style (i ∷ row) (in_front v vs)
front_text_shown style i row (Err e) vs h hs = tt
front_text_shown style i row (Ok v) (Err e) h hs = tt
front_text_shown style i row (Ok v) (Ok vs) h hs = (h, hs)

texts_shown : (named : List ℕ) (style : Option IntervalStyle) (row : List Interval) → AllByRecursion IsInterval row
    → TextsShown style row (all_or_error (map (text_of (or_refused named style)) row))
texts_shown named style [] is = tt
texts_shown named style (i ∷ row) is =
    front_text_shown style i row (text_of (or_refused named style) i) _ (plain_text_shown named style i is.0)
    (texts_shown named style row is.1)

abbrev LineShown : Option IntervalStyle → List Interval → CopyItem → Type 0
LineShown style row (Ok d) = ShowsLine style row d
LineShown style row (Err e) = Unit {0}

line_from : (style : Option IntervalStyle) (row : List Interval) (vs : Result (List (List ℕ)) PgWireError)
    → TextsShown style row vs → LineShown style row (line_of_texts vs)
line_from style row (Ok texts) h = record { texts = texts; payload = refl; stand = h }
line_from style row (Err e) h = tt

line_shown : (named : List ℕ) (style : Option IntervalStyle) (row : List Interval) → AllByRecursion IsInterval row
    → LineShown style row (line_item (or_refused named style) row)
line_shown named style row is = line_from style row _ (texts_shown named style row is)

-- ---- all rows of a relation

here : {A : Type 0} (x : A) (xs : List A) → Contains (x ∷ xs) x
here x xs = (0, omega arith, refl)

there : {A : Type 0} (x y : A) (xs : List A) → Contains xs y → Contains (x ∷ xs) y
there x y xs h = (suc h.0, omega (arith, h.1), h.2)

-- each element of a list that holds what is told of its elements
pub each_of : {A : Type 0} (P : A → Type 0) (xs : List A) → ((x : A) → Contains xs x → P x) → AllByRecursion P xs
each_of P [] h = tt
each_of P (x ∷ xs) h = (h x (here x xs), each_of P xs (λ y is. h y (there x y xs is)))

pub element_of : {A : Type 0} (P : A → Type 0) (xs : List A) → AllByRecursion P xs → (x : A) → Contains xs x → P x
element_of P xs h x is = All-contains P xs x (All-from_recursion P xs h) is

all_map : {A B : Type 0} (P : B → Type 0) (f : A → B) (xs : List A) → AllByRecursion (λ x. P (f x)) xs → AllByRecursion P (map f xs)
all_map P f [] h = tt
all_map P f (x ∷ xs) h = (h.0, all_map P f xs h.1)

intervals_at : (relations : List Relation) → HoldIntervals relations → (place : ℕ)
    → AllByRecursion (λ row. AllByRecursion IsInterval row) (relation_at relations place).rows
intervals_at [] h place = tt
intervals_at (r ∷ relations) h zero = h.0
intervals_at (r ∷ relations) h (suc place) = intervals_at relations h.1 place

both_true : (a b : Bool) → IsTrue (a && b) → IsTrue a × IsTrue b
both_true true b e = (refl, e)
both_true false b e = cc

same_number : (n k : ℕ) → IsTrue (n == k) → n ≡ k
same_number n k e = grind (arith, e)

even_rows : (width : ℕ) (rows : List (List Interval)) → IsTrue (are_even width rows) → AllByRecursion (λ row. length row ≡ width) rows
even_rows width [] h = tt
even_rows width (row ∷ rows) h =
    let both = both_true (length row == width) (are_even width rows) h in
    (same_number (length row) width both.0, even_rows width rows both.1)

module _ (relations : List Relation) (within : HoldIntervals relations) (even : HaveEvenRows relations) (named : List ℕ)
    (style : Option IntervalStyle) (IsFormat : Format → Type 0) where
  abbrev IsRow : DataRow → Type 0
  IsRow d = ShowsStoredRow relations style IsFormat d

  abbrev IsLine : CopyData → Type 0
  IsLine d = ShowsStoredLine relations style d

  stored_row : (place : ℕ) (chosen : Format) → IsFormat chosen → (row : List Interval) → IsRowAt relations place row → (item : RowItem)
      → RowShown style (column_formats chosen (relation_at relations place).columns) row item → ItemIs IsRow item
  stored_row place chosen is row stored (Ok d) h =
      record { place = place; row = row; stored = stored; chosen = chosen; is_chosen = is; shown = h }
  stored_row place chosen is row stored (Err e) h = tt

  pub rows_show : (place : ℕ) (chosen : Format) → IsFormat chosen
      → ItemsAre IsRow
      (map (row_item (or_refused named style) (column_formats chosen (relation_at relations place).columns))
      (relation_at relations place).rows)
  rows_show place chosen is =
      let r = relation_at relations place in
      let formats = column_formats chosen r.columns in
      let item = row_item (or_refused named style) formats in
      all_map (ItemIs IsRow) item r.rows
      (each_of (λ row. ItemIs IsRow (item row)) r.rows (λ row stored.
      stored_row place chosen is row stored (item row) (row_shown named style formats row
      (formats_len chosen 0 r.columns ∙ sym (element_of (λ row. length row ≡ length r.columns) r.rows
      (even_rows (length r.columns) r.rows (even_at relations even place)) row stored))
      (element_of (λ row. AllByRecursion IsInterval row) r.rows (intervals_at relations within place) row stored))))

  stored_line : (place : ℕ) (row : List Interval) → IsRowAt relations place row → (item : CopyItem)
      → LineShown style row item → ItemIs IsLine item
  stored_line place row stored (Ok d) h = record { place = place; row = row; stored = stored; shown = h }
  stored_line place row stored (Err e) h = tt

  pub lines_show : (place : ℕ) → ItemsAre IsLine
      (map (line_item (or_refused named style)) (relation_at relations place).rows)
  lines_show place =
      let r = relation_at relations place in
      let item = line_item (or_refused named style) in
      all_map (ItemIs IsLine) item r.rows
      (each_of (λ row. ItemIs IsLine (item row)) r.rows (λ row stored.
      stored_line place row stored (item row) (line_shown named style row
      (element_of (λ row. AllByRecursion IsInterval row) r.rows (intervals_at relations within place) row stored))))
