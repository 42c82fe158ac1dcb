-- Rows that are made one by one: their places and their formats.
use Rattle.std.proofs.Common.{◌≡◌, ℕ, suc, ◌+◌, ◌<◌, IsTrue, is_some, List, [], ◌∷◌, Some, ℤ, pos, Result, Ok, length, map, get_or, slice_get, refl, sym, ap, ◌∙◌, arith}
use Rattle.std.specs.List.{zip}
use Rattle.std.specs.Option.{option_map}
use Rattle.std.proofs.lemmas.Option.{slice_get-get_or, slice_get-map}
use Rattle.pg_interval.specs.declared.pg_interval.Interval.{Interval}
use Rattle.pg_types.specs.declared.field_format.FieldFormat.{FieldFormat}
use Rattle.pg_text.specs.declared.format.interval_style.IntervalStyle.{IntervalStyle}
use Rattle.pg_types.specs.Formats.{format_of_code}
use Rattle.pg_results.specs.declared.error.PgWireError.{PgWireError}
use Rattle.pg_results.specs.declared.format.Format.{Format}
use Rattle.pg_results.specs.declared.format.Format.TheVariants as format
use Rattle.pg_results.specs.Fields.{Field}
use Rattle.conversation_table.specs.Good.{HasCodes}
use Rattle.relation_tables.specs.Relations.{column}
use Rattle.relation_tables.specs.RelationHandler.{column_formats, column_formats_from, columns_in, row_item}
use Rattle.relation_handlers.specs.Made.{ToldMaker, GivesFormats, relation_of, row_items, style_in}
use Rattle.relation_handlers.proofs.ColumnLemmas.{formats_len}

-- an item that is made of another at its place
pub made_at : {A B : Type 0} (f : A → B) (xs : List A) (index : ℕ) (x : A) → slice_get xs index ≡ Some x
    → slice_get (map f xs) index ≡ Some (f x)
made_at f xs index x h = slice_get-map f xs index ∙ ap (option_map f) h

-- a row item is made of the row at its place, by what is kept
pub row_made : (m : ToldMaker) (formats : List FieldFormat) (style : Result IntervalStyle PgWireError) (index : ℕ) (row : List Interval)
    → formats ≡ column_formats m.formats (relation_of m).columns → style ≡ style_in m.options
    → slice_get (relation_of m).rows index ≡ Some row → slice_get (row_items m) index ≡ Some (row_item style formats row)
row_made m formats style index row e s h =
    rw (e, s) (made_at (row_item (style_in m.options) (column_formats m.formats (relation_of m).columns)) (relation_of m).rows index row h)

-- what is read of the rows that are kept is a row of the relation
pub row_kept : (m : ToldMaker) (kept : List (List Interval)) (index : ℕ) (item row : List Interval) → kept ≡ (relation_of m).rows
    → index < length (relation_of m).rows → item ≡ get_or kept index item → row ≡ item → slice_get (relation_of m).rows index ≡ Some row
row_kept m kept index item row e inside is same = slice_get-get_or (relation_of m).rows index item inside
    ∙ ap Some (sym (same ∙ is ∙ ap (λ rows. get_or rows index item) e))

-- there are as many formats as values
pub as_many : (m : ToldMaker) (formats : List FieldFormat) (row : List Interval)
    → formats ≡ column_formats m.formats (relation_of m).columns
    → length row ≡ length (relation_of m).columns → length formats ≡ length row
as_many m formats row e wide = ap length e ∙ formats_len m.formats 0 (relation_of m).columns ∙ sym wide

-- ---- formats

columns_from-length : (formats : Format) (index : ℕ) (names : List (List ℕ))
    → length (map (λ p. column p.0 p.1) (zip (column_formats_from formats index names) names)) ≡ length names
columns_from-length formats index [] = refl
columns_from-length formats index (name ∷ names) = ap suc (columns_from-length formats (index + 1) names)

code_at : (codes : List ℤ) (index : ℕ) → index < length codes → IsTrue (is_some (option_map format_of_code (slice_get codes index)))
code_at codes index inside = rw (slice_get-get_or codes index (pos 0) inside) refl

given : (formats : Format) (fields : List Field) (count : ℕ) → length fields ≡ count → HasCodes formats (Ok fields)
    → GivesFormats formats count
given format.UnifiedText fields count e h index inside = refl
given format.UnifiedBinary fields count e h index inside = refl
given (format.Individual codes) fields count e h index inside = code_at codes index (omega (arith, e, h, inside))

-- codes for each column, as a good portal has them
pub gives_formats : (formats : Format) (names : List (List ℕ)) → HasCodes formats (Ok (columns_in format.UnifiedText names))
    → GivesFormats formats (length names)
gives_formats formats names h =
    given formats (columns_in format.UnifiedText names) (length names) (columns_from-length format.UnifiedText 0 names) h
