-- The handlers of the relation server, as contracts see them: the parser, the answers to extended and to simple
-- queries, and the refusal of COPY from the client.
use Rattle.std.specs.Prelude.{ℕ, pos, Bool, true, false, List, [], ◌∷◌, ◌++◌, ◌+◌, Option, Some, None, Result, Ok, Err, map, length, zip, codes, nat_lt, unwrap_or}
use Rattle.std.specs.List.{concat, join_with_byte}
use Rattle.std.specs.FinMap as fin
use Rattle.pg_interval.specs.declared.pg_interval.Interval.{Interval}
use Rattle.pg_interval.specs.Printed.{printed}
use Rattle.pg_types.specs.declared.field_format.FieldFormat.{FieldFormat}
use Rattle.pg_types.specs.declared.field_format.FieldFormat.TheVariants as field
use Rattle.pg_text.specs.declared.format.interval_style.IntervalStyle.{IntervalStyle}
use Rattle.pg_types.specs.declared.pg_type.PgType.{PgType}
use Rattle.pg_types.specs.declared.pg_type.PgType.TheVariants as type
use Rattle.pg_text.specs.Words.{interval_style_of, printed_style}
use Rattle.pg_results.specs.declared.client.ClientInfo.{ClientInfo}
use Rattle.pg_results.specs.declared.error.PgWireError.{PgWireError}
use Rattle.pg_results.specs.declared.error.PgWireError.TheVariants as wire
use Rattle.pg_results.specs.declared.format.Format.{Format}
use Rattle.pg_results.specs.declared.format.Format.TheVariants as format
use Rattle.pg_results.specs.declared.describe.DescribePortalResponse.{DescribePortalResponse}
use Rattle.pg_results.specs.declared.describe.DescribeStatementResponse.{DescribeStatementResponse}
use Rattle.pg_results.specs.declared.stmt.StoredStatement.{StoredStatement}
use Rattle.pg_results.specs.Copying.{CopyItem}
use Rattle.pg_results.specs.Fields.{Field}
use Rattle.pg_results.specs.Formats.{format_for}
use Rattle.pg_results.specs.Responses as response
use Rattle.pg_results.specs.Responses.{ToldResponse}
use Rattle.pg_results.specs.Rows.{RowItem}
use Rattle.pg_results.specs.Tags.{tag_of}
use Rattle.pg_results.specs.Told.{ParserTold}
use Rattle.pg_portal.specs.Told.{BoundPortal}
use Rattle.conversation_table.specs.Handlers.{ExtendedTold, SimpleTold, Handlers, ToldQuery}
use Rattle.conversation_table.specs.Noop.{noop_copy}
use Rattle.relation_tables.specs.declared.Relation.{Relation}
use Rattle.relation_tables.specs.declared.RelationStatement.{RelationStatement}
use Rattle.relation_tables.specs.declared.RelationStatement.TheVariants as statement
use Rattle.relation_tables.specs.Errors.{unknown_relation}
use Rattle.relation_tables.specs.Queries.{trimmed, words, copied_name}
use Rattle.relation_tables.specs.Relations.{meaning, place_of, relation_at, columns_of, column, binary_value, text_value}

-- ---- the session's interval style

-- the text that names the session's interval style
abbrev pub style_text : ClientInfo → List ℕ
style_text client = unwrap_or (fin.get client.metadata (codes "intervalstyle")) (codes "postgres")

-- the style, or the error with the text that names none
abbrev pub or_refused : List ℕ → Option IntervalStyle → Result IntervalStyle PgWireError
or_refused text None = Err (wire.InvalidOptionValue text)
or_refused text (Some style) = Ok style

abbrev pub session_style : ClientInfo → Result IntervalStyle PgWireError
session_style client = or_refused (style_text client) (interval_style_of (style_text client))

-- ---- rows and COPY data

-- all of these, or the first error among them
abbrev pub in_front : {A : Type 0} → Result A PgWireError → Result (List A) PgWireError → Result (List A) PgWireError
in_front (Err e) others = Err e
in_front (Ok x) (Err e) = Err e
in_front (Ok x) (Ok xs) = Ok (x ∷ xs)

abbrev pub all_or_error : {A : Type 0} → List (Result A PgWireError) → Result (List A) PgWireError
all_or_error [] = Ok []
all_or_error (x ∷ xs) = in_front x (all_or_error xs)

-- an interval's text in the session's style, or the error where there is no style
abbrev pub text_of : Result IntervalStyle PgWireError → Interval → Result (List ℕ) PgWireError
text_of (Ok style) i = Ok (printed (printed_style style) i)
text_of (Err e) i = Err e

abbrev pub as_value : Result (List ℕ) PgWireError → Result (List ℕ) PgWireError
as_value (Ok text) = Ok (text_value text)
as_value (Err e) = Err e

-- an interval as a value of a row
abbrev pub value : Result IntervalStyle PgWireError → FieldFormat → Interval → Result (List ℕ) PgWireError
value style field.Text i = as_value (text_of style i)
value style field.Binary i = Ok (binary_value i)

abbrev pub row_of_values : ℕ → Result (List (List ℕ)) PgWireError → RowItem
row_of_values count (Ok values) = Ok (record { payload = concat values; field_count = pos count })
row_of_values count (Err e) = Err e

-- a row in these formats, one for each column; it is an error where the session has no style and a column is text
abbrev pub row_item : Result IntervalStyle PgWireError → List FieldFormat → List Interval → RowItem
row_item style formats row = row_of_values (length row) (all_or_error (map (λ p. value style p.0 p.1) (zip formats row)))

abbrev pub line_of_texts : Result (List (List ℕ)) PgWireError → CopyItem
line_of_texts (Ok texts) = Ok (record { payload = join_with_byte 9 texts ++ 10 ∷ [] })
line_of_texts (Err e) = Err e

-- a row as a line of texts, separated by tabs; a row without a column has no text, and needs no style
abbrev pub line_item : Result IntervalStyle PgWireError → List Interval → CopyItem
line_item style row = line_of_texts (all_or_error (map (text_of style) row))

-- ---- columns

-- the format of a column; there is one for each column of a portal
abbrev pub column_format : Format → ℕ → FieldFormat
column_format formats index = unwrap_or (format_for formats index) field.Text

abbrev pub column_formats_from : Format → ℕ → List (List ℕ) → List FieldFormat
column_formats_from formats index [] = []
column_formats_from formats index (name ∷ names) = column_format formats index ∷ column_formats_from formats (index + 1) names

abbrev pub column_formats : Format → List (List ℕ) → List FieldFormat
column_formats formats names = column_formats_from formats 0 names

abbrev pub columns_in : Format → List (List ℕ) → List Field
columns_in formats names = map (λ p. column p.0 p.1) (zip (column_formats formats names) names)

abbrev pub fields_of : List Relation → RelationStatement → Format → List Field
fields_of relations means formats = columns_in formats (columns_of relations means)

-- ---- the parser

abbrev pub or_unknown : List ℕ → Option RelationStatement → Result (Option RelationStatement) PgWireError
or_unknown text None = Err (wire.UserError (unknown_relation text))
or_unknown text (Some means) = Ok (Some means)

-- BEGIN, COMMIT, or one of the relations
abbrev pub is_statement_of : List Relation → RelationStatement → Bool
is_statement_of relations statement.Begin = true
is_statement_of relations statement.Commit = true
is_statement_of relations (statement.Relation place) = nat_lt place (length relations)

-- Statements have no parameters of their own, and without formats columns are text.
abbrev pub told_parser : List Relation → ParserTold RelationStatement
told_parser relations = record {
  gives = is_statement_of relations;
  parse = λ client query types. or_unknown (trimmed query) (meaning relations query);
  parameter_types = λ means. Ok [];
  columns = λ means formats. Ok (fields_of relations means (unwrap_or formats format.UnifiedText));
}

-- ---- extended queries

-- the types of parameters as they were given, and `unknown` where they weren't
abbrev pub given_types : List (Option PgType) → List PgType
given_types types = map (λ given. unwrap_or given type.Unknown) types

-- what there is to describe of a statement: the types of its parameters, and its columns as text
abbrev pub statement_described : List Relation → StoredStatement RelationStatement → DescribeStatementResponse
statement_described relations s = record {
  parameters = given_types s.parameter_types;
  fields = fields_of relations s.statement format.UnifiedText;
}

-- what there is to describe of a portal: its columns in its formats
abbrev pub portal_described : List Relation → BoundPortal RelationStatement → DescribePortalResponse
portal_described relations p = record { fields = fields_of relations p.statement.statement p.result_column_format }

-- the response to a query of a relation: its columns in the formats, and its rows in their order
abbrev pub rows_response : ClientInfo → Format → Relation → ToldResponse
rows_response client formats r = response.Query (record {
  command_tag = codes "SELECT";
  fields = columns_in formats r.columns;
  items = map (row_item (session_style client) (column_formats formats r.columns)) r.rows;
})

-- the query of a statement: for BEGIN and COMMIT it owes no poll, for a relation it owes the relation's polls
abbrev pub query_of : List Relation → ClientInfo → Format → RelationStatement → ToldQuery ToldResponse
query_of relations client formats statement.Begin = record { owes = 0; outcome = Ok (response.TransactionStart (tag_of (codes "BEGIN"))) }
query_of relations client formats statement.Commit = record { owes = 0; outcome = Ok (response.TransactionEnd (tag_of (codes "COMMIT"))) }
query_of relations client formats (statement.Relation place) =
    let r = relation_at relations place in
    record { owes = r.unready; outcome = Ok (rows_response client formats r) }

abbrev pub told_extended : List Relation → ExtendedTold RelationStatement
told_extended relations = record {
  parser = told_parser relations;
  query = λ client p limit. query_of relations client p.result_column_format p.statement.statement;
  describe_statement = λ client s. Ok (statement_described relations s);
  describe_portal = λ client p. Ok (portal_described relations p);
}

-- ---- simple queries

-- the response to the COPY of a relation: as many columns, all text, and its rows as lines in their order
abbrev pub copy_response : ClientInfo → Relation → ToldResponse
copy_response client r = response.CopyOut (record {
  format = pos 0;
  columns = length r.columns;
  items = map (line_item (session_style client)) r.rows;
  trailer_left = false;
})

-- a query of a relation that doesn't exist is refused at once
abbrev pub refused_query : List ℕ → ToldQuery (List ToldResponse)
refused_query name = record { owes = 0; outcome = Err (wire.UserError (unknown_relation name)) }

-- the query of a COPY of a name, by the place of its relation
abbrev pub copy_of : List Relation → ClientInfo → List ℕ → Option ℕ → ToldQuery (List ToldResponse)
copy_of relations client name None = refused_query name
copy_of relations client name (Some place) =
    let r = relation_at relations place in
    record { owes = r.unready; outcome = Ok (copy_response client r ∷ []) }

-- the query of a text that is a COPY of a name, or is unknown
abbrev pub copy_or_unknown : List Relation → ClientInfo → List ℕ → Option (List ℕ) → ToldQuery (List ToldResponse)
copy_or_unknown relations client text None = refused_query text
copy_or_unknown relations client text (Some name) = copy_of relations client name (place_of relations name)

-- the one response of a query
abbrev pub alone : Result ToldResponse PgWireError → Result (List ToldResponse) PgWireError
alone (Ok r) = Ok (r ∷ [])
alone (Err e) = Err e

abbrev pub simple_of : List Relation → ClientInfo → List ℕ → Option RelationStatement → ToldQuery (List ToldResponse)
simple_of relations client text None = copy_or_unknown relations client text (copied_name (words text))
simple_of relations client text (Some means) =
    let q = query_of relations client format.UnifiedText means in
    record { owes = q.owes; outcome = alone q.outcome }

-- A query is a statement or `COPY name TO STDOUT`, and its results are text.
abbrev pub told_simple : List Relation → SimpleTold
told_simple relations client query = simple_of relations client (trimmed query) (meaning relations query)

-- ---- all: COPY from the client is refused

abbrev pub relation_handlers : List Relation → Handlers RelationStatement
relation_handlers relations = record { extended = told_extended relations; simple = told_simple relations; copying = noop_copy }
