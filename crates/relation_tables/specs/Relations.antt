-- Relations: what a query's text means among them, their columns, and their rows in binary.
use Rattle.std.specs.Prelude.{ℕ, pos, negsuc, Bool, List, [], ◌++◌, ◌==◌, Option, Some, None, IsTrue, if◌then◌else◌, length, slice_get, codes, bytes_eq}
use Rattle.std.specs.List.{flat_map, list_all, position_from, AllByRecursion}
use Rattle.std.specs.Str.{str_eq_ignore_ascii_case}
use Rattle.pg_interval.specs.declared.pg_interval.Interval.{Interval}
use Rattle.pg_interval.specs.Cell.{interval_cell}
use Rattle.pg_messages.specs.declared.data.DataRow.{DataRow}
use Rattle.pg_messages.specs.Fields.{count32}
use Rattle.pg_types.specs.declared.field_format.FieldFormat.{FieldFormat}
use Rattle.pg_types.specs.declared.pg_type.PgType.TheVariants as type
use Rattle.pg_types.specs.Options.{default_options}
use Rattle.pg_results.specs.Fields.{Field}
use Rattle.relation_tables.specs.declared.Relation.{Relation}
use Rattle.relation_tables.specs.declared.RelationStatement.{RelationStatement}
use Rattle.relation_tables.specs.declared.RelationStatement.TheVariants as statement
use Rattle.relation_tables.specs.Queries.{trimmed}

-- ---- what a text means

-- the place of the first relation of this name
abbrev pub place_of : List Relation → List ℕ → Option ℕ
place_of relations name = position_from (λ r. bytes_eq name r.name) 0 relations

abbrev pub relation_meaning : Option ℕ → Option RelationStatement
relation_meaning None = None
relation_meaning (Some place) = Some (statement.Relation place)

-- the meaning of a trimmed text: BEGIN and COMMIT in any ASCII case, or a relation by its exact name
abbrev pub meaning_of : List Relation → List ℕ → Option RelationStatement
meaning_of relations text =
    if str_eq_ignore_ascii_case text (codes "BEGIN") then Some statement.Begin
    else if str_eq_ignore_ascii_case text (codes "COMMIT") then Some statement.Commit
    else relation_meaning (place_of relations text)

-- the meaning of a query, whose whitespace and semicolons at both ends are ignored
abbrev pub meaning : List Relation → List ℕ → Option RelationStatement
meaning relations query = meaning_of relations (trimmed query)

-- ---- the relation at a place; where there is none, it has no column and no row

abbrev pub no_relation : Relation
no_relation = record { name = []; unready = 0; columns = []; rows = [] }

abbrev pub or_none : Option Relation → Relation
or_none None = no_relation
or_none (Some r) = r

abbrev pub relation_at : List Relation → ℕ → Relation
relation_at relations place = or_none (slice_get relations place)

-- the names of a statement's columns; BEGIN and COMMIT have none
abbrev pub columns_of : List Relation → RelationStatement → List (List ℕ)
columns_of relations statement.Begin = []
columns_of relations statement.Commit = []
columns_of relations (statement.Relation place) = (relation_at relations place).columns

-- a relation's column, which holds intervals
abbrev pub column : FieldFormat → List ℕ → Field
column format name = record {
  name = name;
  table_id = None;
  column_id = None;
  datatype = type.Interval;
  format = format;
  format_options = default_options;
  type_size = pos 16;
  type_modifier = negsuc 0;
}

-- even rows: each is as wide as the columns
abbrev pub are_even : ℕ → List (List Interval) → Bool
are_even width rows = list_all (λ row. length row == width) rows

-- each relation's rows are as wide as its columns
abbrev pub HaveEvenRows : List Relation → Type 0
HaveEvenRows relations = AllByRecursion (λ r. IsTrue (are_even (length r.columns) r.rows)) relations

-- ---- values and rows

-- a binary value of a row: Int32 16, and the sixteen bytes of the interval
abbrev pub binary_value : Interval → List ℕ
binary_value i = count32 16 ++ interval_cell i

-- a text as a value of a row: Int32 length, and its bytes
abbrev pub text_value : List ℕ → List ℕ
text_value text = count32 (length text) ++ text

-- Binary row: a value for each interval.
abbrev pub binary_row : List Interval → DataRow
binary_row row = record { payload = flat_map binary_value row; field_count = pos (length row) }
