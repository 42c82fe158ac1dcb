-- Rows and lines where the session's style is refused.
use Rattle.std.proofs.Common.{◌≡◌, ◌<◌, true, false, List, [], ◌∷◌, Result, Ok, Err, length, map, refl, ap, arith}
use Rattle.std.specs.List.{list_any, zip}
use Rattle.pg_interval.specs.declared.pg_interval.Interval.{Interval}
use Rattle.pg_types.specs.declared.field_format.FieldFormat.{FieldFormat}
use Rattle.pg_types.specs.declared.field_format.FieldFormat.TheVariants as field
use Rattle.pg_text.specs.declared.format.interval_style.IntervalStyle.{IntervalStyle}
use Rattle.pg_results.specs.declared.error.PgWireError.{PgWireError}
use Rattle.pg_results.specs.Formats.{is_text}
use Rattle.relation_tables.specs.RelationHandler.{all_or_error, line_item, row_item, row_of_values, value}
use Rattle.relation_tables.specs.Relations.{binary_value}

refused : (e : PgWireError) (formats : List FieldFormat) (row : List Interval) → length formats ≡ length row
    → list_any is_text formats ≡ true → all_or_error (map (λ p. value (Err e) p.0 p.1) (zip formats row)) ≡ Err e
refused e [] row same any = cc
refused e (f ∷ formats) [] same any = absurd (omega (arith, same))
refused e (field.Text ∷ formats) (i ∷ row) same any = refl
refused e (field.Binary ∷ formats) (i ∷ row) same any = rw (refused e formats row (omega (arith, same)) any) refl

-- a row with a text is refused
pub refused_row : (e : PgWireError) (formats : List FieldFormat) (row : List Interval) → length formats ≡ length row
    → list_any is_text formats ≡ true → row_item (Err e) formats row ≡ Err e
refused_row e formats row same any = rw (refused e formats row same any) refl

without_text : (s t : Result IntervalStyle PgWireError) (formats : List FieldFormat) (row : List Interval)
    → list_any is_text formats ≡ false
    → map (λ p. value s p.0 p.1) (zip formats row) ≡ map (λ p. value t p.0 p.1) (zip formats row)
without_text s t [] row none = refl
without_text s t (f ∷ formats) [] none = refl
without_text s t (field.Text ∷ formats) (i ∷ row) none = cc
without_text s t (field.Binary ∷ formats) (i ∷ row) none =
    ap (λ values. Ok (binary_value i) ∷ values) (without_text s t formats row none)

-- a row without a text is the same in any style, and so are rows
pub row_without_text : (s t : Result IntervalStyle PgWireError) (formats : List FieldFormat) (row : List Interval)
    → list_any is_text formats ≡ false → row_item s formats row ≡ row_item t formats row
row_without_text s t formats row none =
    ap (λ values. row_of_values (length row) (all_or_error values)) (without_text s t formats row none)

pub rows_without_text : (s t : Result IntervalStyle PgWireError) (formats : List FieldFormat) (rows : List (List Interval))
    → list_any is_text formats ≡ false → map (row_item s formats) rows ≡ map (row_item t formats) rows
rows_without_text s t formats [] none = refl
rows_without_text s t formats (row ∷ rows) none =
    rw (row_without_text s t formats row none, rows_without_text s t formats rows none) refl

-- a line with a text is refused, and one without is the same in any style
pub refused_line : (e : PgWireError) (row : List Interval) → 0 < length row → line_item (Err e) row ≡ Err e
refused_line e [] some = absurd (omega (arith, some))
refused_line e (i ∷ row) some = refl

pub line_without_text : (e : PgWireError) (style : IntervalStyle) (row : List Interval) → length row ≡ 0
    → line_item (Err e) row ≡ line_item (Ok style) row
line_without_text e style [] none = refl
line_without_text e style (i ∷ row) none = absurd (omega (arith, none))
