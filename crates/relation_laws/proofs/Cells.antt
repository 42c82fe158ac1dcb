-- A row of intervals is refused exactly where it has a text cell and the session's style text is none of the four.
use Rattle.std.proofs.Common.{arith, ◌≡◌, ◌<◌, ℕ, zero, suc, List, [], ◌∷◌, Option, Some, None, Result, Ok, Err, map, zip, length, get_or, refl, ap, sym}
use Rattle.std.specs.List.{Contains}
use Rattle.pg_interval.specs.declared.pg_interval.Interval.{Interval}
use Rattle.pg_types.specs.declared.field_format.FieldFormat.{FieldFormat}
use Rattle.pg_types.specs.declared.field_format.FieldFormat.TheVariants as field
use Rattle.pg_text.specs.declared.format.interval_style.IntervalStyle.{IntervalStyle}
use Rattle.pg_results.specs.declared.error.PgWireError.{PgWireError}
use Rattle.pg_results.specs.declared.error.PgWireError.TheVariants as wire
use Rattle.relation_tables.specs.RelationHandler.{or_refused, in_front, all_or_error, value, text_of, row_of_values, row_item, line_of_texts, line_item}

-- why values are refused: there is no style
pub record IsStyleError (text : List ℕ) (style : Option IntervalStyle) (e : PgWireError) : Type 0 where
  pub no_style : style ≡ None
  pub tells : e ≡ wire.InvalidOptionValue text

module _ (text : List ℕ) where
  abbrev Values : Option IntervalStyle → List (FieldFormat × Interval) → Result (List (List ℕ)) PgWireError
  Values style cells = all_or_error (map (λ p. value (or_refused text style) p.0 p.1) cells)

  abbrev HasText : List (FieldFormat × Interval) → Type 0
  HasText cells = (i : Interval) × Contains cells (field.Text, i)

  later_text : (cell : FieldFormat × Interval) (cells : List (FieldFormat × Interval)) → HasText cells → HasText (cell ∷ cells)
  later_text cell cells (i, at) = (i, (suc at.0, omega (arith, at.1), at.2))

  behind : (style : Option IntervalStyle) (cell : FieldFormat × Interval) (cells : List (FieldFormat × Interval)) (e : PgWireError)
      (bytes : List ℕ) (others : Result (List (List ℕ)) PgWireError) → in_front (Ok bytes) others ≡ Err e
      → (others ≡ Err e → IsStyleError text style e × HasText cells) → IsStyleError text style e × HasText (cell ∷ cells)
  behind style cell cells e bytes (Ok values) h later = cc
  behind style cell cells e bytes (Err w) h later =
      let same : w ≡ e = cc in let found = later (ap Err same) in (found.0, later_text cell cells found.1)

  values_refused : (style : Option IntervalStyle) (cells : List (FieldFormat × Interval)) (e : PgWireError) → Values style cells ≡ Err e
      → IsStyleError text style e × HasText cells
  values_refused style [] e h = cc
  values_refused None ((field.Text, i) ∷ cells) e h =
      let same : wire.InvalidOptionValue text ≡ e = cc in (record { no_style = refl; tells = sym same }, (i, (0, omega arith, refl)))
  values_refused (Some style) ((field.Text, i) ∷ cells) e h =
      behind (Some style) (field.Text, i) cells e _ (Values (Some style) cells) h (values_refused (Some style) cells e)
  values_refused style ((field.Binary, i) ∷ cells) e h =
      behind style (field.Binary, i) cells e _ (Values style cells) h (values_refused style cells e)

  text_refuses : (cells : List (FieldFormat × Interval)) (i : Interval) (k : ℕ) → k < length cells
      → get_or cells k (field.Text, i) ≡ (field.Text, i)
      → Values None cells ≡ Err (wire.InvalidOptionValue text)
  text_refuses [] i k inside at = absurd (omega (arith, inside))
  text_refuses ((field.Text, j) ∷ cells) i k inside at = refl
  text_refuses ((field.Binary, j) ∷ cells) i zero inside at =
      let other : field.Binary ≡ field.Text = ap (λ p. p.0) at in let f : ⊥ = cc in absurd f
  text_refuses ((field.Binary, j) ∷ cells) i (suc k) inside at = ap (in_front (Ok _)) (text_refuses cells i k (omega (arith, inside)) at)

  -- ---- rows

  row_error : (count : ℕ) (values : Result (List (List ℕ)) PgWireError) (e : PgWireError) → row_of_values count values ≡ Err e
      → values ≡ Err e
  row_error count (Ok values) e h = cc
  row_error count (Err w) e h = let same : w ≡ e = cc in ap Err same

  pub row_refused : (style : Option IntervalStyle) (formats : List FieldFormat) (row : List Interval) (e : PgWireError)
      → row_item (or_refused text style) formats row ≡ Err e → IsStyleError text style e × HasText (zip formats row)
  row_refused style formats row e h =
      values_refused style (zip formats row) e (row_error (length row) (Values style (zip formats row)) e h)

  pub row_refuses : (formats : List FieldFormat) (row : List Interval) → HasText (zip formats row)
      → row_item (or_refused text None) formats row ≡ Err (wire.InvalidOptionValue text)
  row_refuses formats row (i, at) = ap (row_of_values (length row)) (text_refuses (zip formats row) i at.0 at.1 at.2)

  -- ---- lines of a COPY

  abbrev Texts : Option IntervalStyle → List Interval → Result (List (List ℕ)) PgWireError
  Texts style row = all_or_error (map (text_of (or_refused text style)) row)

  texts_told : (style : IntervalStyle) (row : List Interval) (e : PgWireError) → Texts (Some style) row ≡ Err e → ⊥
  texts_told style [] e h = cc
  texts_told style (i ∷ row) e h = by_others (Texts (Some style) row) h (texts_told style row)
    where
      by_others : (x : Result (List (List ℕ)) PgWireError) → in_front (text_of (or_refused text (Some style)) i) x ≡ Err e
          → ((w : PgWireError) → x ≡ Err w → ⊥) → ⊥
      by_others (Ok values) h later = cc
      by_others (Err w) h later = later w refl

  line_error : (texts : Result (List (List ℕ)) PgWireError) (e : PgWireError) → line_of_texts texts ≡ Err e → texts ≡ Err e
  line_error (Ok texts) e h = cc
  line_error (Err w) e h = let same : w ≡ e = cc in ap Err same

  pub line_refused : (style : Option IntervalStyle) (row : List Interval) (e : PgWireError)
      → line_item (or_refused text style) row ≡ Err e → IsStyleError text style e × (row ≡ [] → ⊥)
  line_refused (Some style) row e h = absurd (texts_told style row e (line_error (Texts (Some style) row) e h))
  line_refused None [] e h = cc
  line_refused None (i ∷ row) e h =
      let same : wire.InvalidOptionValue text ≡ e = cc in (record { no_style = refl; tells = sym same }, λ none. let f : ⊥ = cc in f)

  pub line_refuses : (row : List Interval) → (row ≡ [] → ⊥) → line_item (or_refused text None) row ≡ Err (wire.InvalidOptionValue text)
  line_refuses [] ne = absurd (ne refl)
  line_refuses (i ∷ row) ne = refl
