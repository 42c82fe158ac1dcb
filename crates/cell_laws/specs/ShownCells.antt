-- What the server shows of relations: cells that stand for the stored intervals, each in its column's format and in the session's style.
use Rattle.std.specs.Prelude.{ℕ, pos, List, [], ◌∷◌, ◌++◌, ◌≡◌, ◌⊎◌, ◌==◌, ◌||◌, not, Bool, IsTrue, Option, Some, None, Ok, map, length, codes, unwrap_or}
use Rattle.std.specs.List.{AllByRecursion, AllZip, Contains, concat, join_with_byte}
use Rattle.std.specs.FinMap as fin
use Rattle.pg_interval.specs.declared.pg_interval.Interval.{Interval}
use Rattle.pg_interval.specs.Reading.{StandsForOnly}
use Rattle.pg_messages.specs.declared.copy.CopyData.{CopyData}
use Rattle.pg_messages.specs.declared.data.DataRow.{DataRow}
use Rattle.pg_messages.specs.declared.extendedquery.Bind.{Bind}
use Rattle.pg_messages.specs.declared.frontend.PgWireFrontendMessage.{PgWireFrontendMessage}
use Rattle.pg_messages.specs.declared.frontend.PgWireFrontendMessage.TheVariants as client
use Rattle.pg_messages.specs.declared.backend.PgWireBackendMessage.{PgWireBackendMessage}
use Rattle.pg_messages.specs.declared.backend.PgWireBackendMessage.TheVariants as server
use Rattle.pg_messages.specs.Fields.{count32}
use Rattle.pg_types.specs.declared.field_format.FieldFormat.{FieldFormat}
use Rattle.pg_types.specs.declared.field_format.FieldFormat.TheVariants as field
use Rattle.pg_text.specs.declared.format.interval_style.IntervalStyle.{IntervalStyle}
use Rattle.pg_text.specs.Intervals.{read_interval}
use Rattle.pg_text.specs.Words.{interval_style_of, printed_style}
use Rattle.pg_results.specs.declared.format.Format.{Format}
use Rattle.pg_results.specs.declared.format.Format.TheVariants as format
use Rattle.pg_results.specs.Formats.{format_of}
use Rattle.pg_portal.specs.Told.{TablePortal, value_under}
use Rattle.pg_client.specs.StartupRows.{with_parameters}
use Rattle.pg_client.specs.State.{State}
use Rattle.relation_tables.specs.declared.Relation.{Relation}
use Rattle.relation_tables.specs.declared.RelationStatement.{RelationStatement}
use Rattle.relation_tables.specs.Relations.{relation_at}
use Rattle.relation_tables.specs.RelationHandler.{column_formats}

-- ---- what the client chose

-- the parameters of the startup packet
abbrev pub startup_parameters : List PgWireFrontendMessage → List (List ℕ × List ℕ)
startup_parameters [] = []
startup_parameters (client.Startup m ∷ messages) = m.parameters
startup_parameters (m ∷ messages) = startup_parameters messages

-- the session's style: the one that the startup parameter `intervalstyle` names, `postgres` without one, and None where its text names none
abbrev pub style_of : List PgWireFrontendMessage → Option IntervalStyle
style_of messages = interval_style_of
    (unwrap_or (fin.get (with_parameters fin.empty (startup_parameters messages)) (codes "intervalstyle")) (codes "postgres"))

-- a format of results that the messages choose: that of one of their Binds, or text
abbrev pub IsChosen : List PgWireFrontendMessage → Format → Type 0
IsChosen messages chosen = (chosen ≡ format.UnifiedText)
    ⊎ ((m : Bind) × Contains messages (client.Bind m) × (chosen ≡ format_of m.result_column_format_codes))

-- the format of the results that a message asks for in a state: for an Execute the one that its portal's Bind chose,
-- for any other message text
abbrev pub IsOwnFormat : State RelationStatement → PgWireFrontendMessage → Format → Type 0
IsOwnFormat s (client.Execute m) chosen = (p : TablePortal RelationStatement) × (value_under (fin.get s.portals m.name) ≡ Some p)
    × (chosen ≡ p.bound.result_column_format)
IsOwnFormat s _ chosen = chosen ≡ format.UnifiedText

-- ---- cells, rows and lines

-- the text stands for the interval in the style, and for no other; without a style none does
abbrev pub TextStands : Option IntervalStyle → List ℕ → Interval → Type 0
TextStands (Some style) text i = StandsForOnly (printed_style style) text i
TextStands None text i = ⊥

-- the cell stands for the interval: a text cell by its text, a binary cell by its sixteen bytes, which are read as the
-- interval
abbrev pub CellStands : Option IntervalStyle → FieldFormat → List ℕ → Interval → Type 0
CellStands style field.Text cell i = TextStands style cell i
CellStands style field.Binary cell i = (length cell ≡ 16) × (read_interval cell ≡ Ok i)

-- as many cells as formats and intervals, each of which stands for its interval in its format
abbrev pub CellsStand : Option IntervalStyle → List FieldFormat → List (List ℕ) → List Interval → Type 0
CellsStand style [] [] [] = Unit {0}
CellsStand style (format ∷ formats) (cell ∷ cells) (i ∷ row) = CellStands style format cell i × CellsStand style formats cells row
CellsStand style _ _ _ = ⊥

-- a cell as a value of a row: Int32 length, and its bytes
abbrev pub as_value : List ℕ → List ℕ
as_value cell = count32 (length cell) ++ cell

-- no byte is a tab, a newline or a backslash, which mean something else in a line (PostgreSQL: COPY, Text Format)
abbrev pub is_plain : ℕ → Bool
is_plain byte = not (byte == 9 || byte == 10 || byte == 92)

abbrev pub IsPlain : List ℕ → Type 0
IsPlain text = AllByRecursion (λ byte. IsTrue (is_plain byte)) text

-- a DataRow shows a row of intervals: their number, and a cell for each, one after another (protocol: Message Formats, DataRow)
pub record ShowsRow (style : Option IntervalStyle) (formats : List FieldFormat) (row : List Interval) (d : DataRow) : Type 0 where
  pub cells : List (List ℕ)
  pub count : d.field_count ≡ pos (length row)
  pub payload : d.payload ≡ concat (map as_value cells)
  pub stand : CellsStand style formats cells row

-- a CopyData shows a row of intervals: a line of plain texts, separated by tabs and ended by a newline (protocol: COPY
-- Operations)
pub record ShowsLine (style : Option IntervalStyle) (row : List Interval) (d : CopyData) : Type 0 where
  pub texts : List (List ℕ)
  pub payload : d.payload ≡ join_with_byte 9 texts ++ 10 ∷ []
  pub stand : AllZip (λ text i. IsPlain text × TextStands style text i) texts row

-- ---- replies

-- a row of the relation at a place
abbrev pub IsRowAt : List Relation → ℕ → List Interval → Type 0
IsRowAt relations place row = Contains (relation_at relations place).rows row

-- the DataRow shows a row of one of the relations, in chosen formats of its columns
pub record ShowsStoredRow (relations : List Relation) (style : Option IntervalStyle) (IsFormat : Format
    → Type 0) (d : DataRow) : Type 0 where
  pub place : ℕ
  pub row : List Interval
  pub stored : IsRowAt relations place row
  pub chosen : Format
  pub is_chosen : IsFormat chosen
  pub shown : ShowsRow style (column_formats chosen (relation_at relations place).columns) row d

-- the CopyData shows a row of one of the relations
pub record ShowsStoredLine (relations : List Relation) (style : Option IntervalStyle) (d : CopyData) : Type 0 where
  pub place : ℕ
  pub row : List Interval
  pub stored : IsRowAt relations place row
  pub shown : ShowsLine style row d

-- Rows and data of a COPY show stored rows; no other reply has cells.
abbrev pub ShowsReply : List Relation → Option IntervalStyle → (Format → Type 0) → PgWireBackendMessage → Type 0
ShowsReply relations style IsFormat (server.DataRow d) = ShowsStoredRow relations style IsFormat d
ShowsReply relations style IsFormat (server.CopyData d) = ShowsStoredLine relations style d
ShowsReply relations style IsFormat _ = Unit {0}

-- Each row and line among the replies to these messages shows a stored row: each of its cells stands for the interval,
-- in the format that a Bind chose, or in text without a Bind and in a COPY, and in the session's style.
abbrev pub ShowStored : List Relation → List PgWireFrontendMessage → List PgWireBackendMessage → Type 0
ShowStored relations messages replies = AllByRecursion (ShowsReply relations (style_of messages) (IsChosen messages)) replies

-- Each row and line among the replies to a message in a state shows a stored row, in the format of this message's own results.
abbrev pub ShowInOwnFormat : List Relation → Option IntervalStyle → State RelationStatement → PgWireFrontendMessage
    → List PgWireBackendMessage
    → Type 0
ShowInOwnFormat relations style s m replies = AllByRecursion (ShowsReply relations style (IsOwnFormat s m)) replies
