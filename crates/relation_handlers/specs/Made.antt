-- The rows of a relation, and its lines, as they are made on demand.
use Rattle.std.specs.Prelude.{ℕ, ◌≡◌, ◌<◌, ⊤, IsTrue, is_some, List, Result, map, drop, length}
use Rattle.pg_interval.specs.declared.pg_interval.Interval.{Interval}
use Rattle.pg_types.specs.declared.field_format.FieldFormat.{FieldFormat}
use Rattle.pg_types.specs.declared.format.FormatOptions.{FormatOptions}
use Rattle.pg_text.specs.declared.format.interval_style.IntervalStyle.{IntervalStyle}
use Rattle.pg_types.specs.Options.{default_options}
use Rattle.pg_text.specs.Words.{interval_style_of}
use Rattle.pg_results.specs.declared.client.ClientInfo.{ClientInfo}
use Rattle.pg_results.specs.declared.error.PgWireError.{PgWireError}
use Rattle.pg_results.specs.declared.format.Format.{Format}
use Rattle.pg_results.specs.declared.format.Format.TheVariants as format
use Rattle.pg_results.specs.Copying.{CopyItem}
use Rattle.pg_results.specs.Formats.{format_for}
use Rattle.pg_results.specs.Rows.{RowItem}
use Rattle.pg_results.specs.Texts.{IsShortText}
use Rattle.relation_tables.specs.declared.Relation.{Relation}
use Rattle.relation_tables.specs.Relations.{relation_at}
use Rattle.relation_tables.specs.RelationHandler.{column_formats, line_item, or_refused, row_item, style_text}
use Rattle.relation_handlers.specs.Tables.{IsSound}
use Rattle.pg_results.specs.declared.on_demand.OnDemand.{OnDemand}

-- the maker of a relation's rows: the table and the relation's place in it, the formats of a row, and the options of a
-- text
pub record ToldMaker : Type 0 where
  pub relations : List Relation
  pub relation : ℕ
  pub formats : Format
  pub options : FormatOptions

-- the relation whose rows are made
abbrev pub relation_of : ToldMaker → Relation
relation_of m = relation_at m.relations m.relation

-- the style of options, or the error with the text that names none
abbrev pub style_in : FormatOptions → Result IntervalStyle PgWireError
style_in options = or_refused options.interval_style (interval_style_of options.interval_style)

-- all rows, and all lines of a COPY
abbrev pub row_items : ToldMaker → List RowItem
row_items m = map (row_item (style_in m.options) (column_formats m.formats (relation_of m).columns)) (relation_of m).rows

abbrev pub line_items : ToldMaker → List CopyItem
line_items m = map (line_item (style_in m.options)) (relation_of m).rows

-- the rows that are still to come, and the lines that are still to come
abbrev pub rows_left : OnDemand ToldMaker → List RowItem
rows_left source = drop source.position (row_items source.maker)

abbrev pub lines_left : OnDemand ToldMaker → List CopyItem
lines_left source = drop source.position (line_items source.maker)

-- each of this many columns has a format
abbrev pub GivesFormats : Format → ℕ → Type 0
GivesFormats formats count = (index : ℕ) → index < count → IsTrue (is_some (format_for formats index))

-- What is true of each maker: its relation is in the table and sound, each column has a format, and the style's text is
-- short. It also keeps the relation's rows, the formats of the columns and the style.
pub record IsMaker (m : ToldMaker) (kept_rows : List (List Interval)) (kept_formats : List FieldFormat)
    (kept_style : Result IntervalStyle PgWireError) : Type 0 where
  pub place : m.relation < length m.relations
  pub sound : IsSound (relation_of m)
  pub formats : GivesFormats m.formats (length (relation_of m).columns)
  pub short_style : IsShortText m.options.interval_style
  pub rows : kept_rows ≡ (relation_of m).rows
  pub each_format : kept_formats ≡ column_formats m.formats (relation_of m).columns
  pub style : kept_style ≡ style_in m.options

-- The options of a session: of its startup parameters only the interval style tells how intervals are written.
abbrev pub session_options : ClientInfo → FormatOptions
session_options client = record default_options { interval_style = style_text client }

-- The options of a query in these formats are those of its session. Where all results are binary they may be any, since
-- nothing is written as text.
abbrev pub IsSettled : Format → ClientInfo → FormatOptions → Type 0
IsSettled format.UnifiedText client options = options ≡ session_options client
IsSettled format.UnifiedBinary client options = ⊤
IsSettled (format.Individual codes) client options = options ≡ session_options client
