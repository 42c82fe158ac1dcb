-- What the sample handlers tell: a few statements, and the response to each.
use Rattle.std.specs.Prelude.{ℕ, zero, suc, ℤ, pos, negsuc, true, List, [], ◌∷◌, ◌++◌, Option, Some, None, Result, Ok, Err, if◌then◌else◌, map, length, codes, bytes_eq, replicate, unwrap_or}
use Rattle.std.specs.List.{flat_map}
use Rattle.pg_messages.specs.declared.codec.ProtocolVersion.{ProtocolVersion}
use Rattle.pg_messages.specs.declared.codec.ProtocolVersion.TheVariants as protocol
use Rattle.pg_messages.specs.declared.data.DataRow.{DataRow}
use Rattle.pg_types.specs.declared.field_format.FieldFormat.{FieldFormat}
use Rattle.pg_types.specs.declared.field_format.FieldFormat.TheVariants as field
use Rattle.pg_types.specs.declared.pg_type.PgType.TheVariants as type
use Rattle.pg_results.specs.declared.client.ClientInfo.{ClientInfo}
use Rattle.pg_results.specs.declared.error.PgWireError.{PgWireError}
use Rattle.pg_results.specs.declared.error.PgWireError.TheVariants as wire
use Rattle.pg_results.specs.declared.format.Format.{Format}
use Rattle.pg_results.specs.declared.format.Format.TheVariants as format
use Rattle.pg_results.specs.declared.tag.Tag.{Tag}
use Rattle.pg_results.specs.Copying.{CopyItem, has_trailer}
use Rattle.pg_portal.specs.Encoding.{cell_bytes}
use Rattle.pg_results.specs.Errors.{error}
use Rattle.pg_results.specs.Fields.{Field, plain_field}
use Rattle.pg_results.specs.Formats.{format_for}
use Rattle.pg_results.specs.Responses as response
use Rattle.pg_results.specs.Responses.{ToldCopy, ToldResponse}
use Rattle.pg_results.specs.Rows.{RowItem}
use Rattle.pg_results.specs.Tags.{tag_of, tag_with_oid, tag_with_rows}
use Rattle.pg_results.specs.Told.{ParserTold, ToldRows}
use Rattle.pg_client.specs.Errors.{copy_given_up}
use Rattle.conversation_table.specs.Handlers.{CopyStep, CopyTold, ExtendedTold, Handlers, SimpleTold, ToldQuery, handlers_of}
use Rattle.conversation_table.specs.Noop.{noop_copy}
use Rattle.sample_handlers.specs.declared.copying.SampleCopying.{SampleCopying}
use Rattle.sample_handlers.specs.declared.copying.SampleCopying.TheVariants as copying
use Rattle.sample_handlers.specs.declared.meaning.SampleStatement.{SampleStatement}
use Rattle.sample_handlers.specs.declared.meaning.SampleStatement.TheVariants as statement
use Rattle.sample_handlers.specs.Meanings.{meaning, meaning_of, trimmed}

-- ---- columns: `name` of type text, `span` of type interval

-- the format of a column; text where there is none
abbrev pub column_format : Format → ℕ → FieldFormat
column_format formats index = unwrap_or (format_for formats index) field.Text

abbrev pub name_column : FieldFormat → Field
name_column f = record (plain_field (codes "name") None None type.Text f) { type_size = negsuc 0 }

abbrev pub span_column : FieldFormat → Field
span_column f = record (plain_field (codes "span") None None type.Interval f) { type_size = pos 16 }

abbrev pub columns : Format → List Field
columns formats = name_column (column_format formats 0) ∷ span_column (column_format formats 1) ∷ []

-- statements without rows have no column
abbrev pub columns_of : SampleStatement → Format → List Field
columns_of statement.Pair formats = columns formats
columns_of statement.Broken formats = columns formats
columns_of statement.Long formats = columns formats
columns_of statement.Late formats = columns formats
columns_of _ formats = []

-- ---- rows

abbrev pub row_of : List (Option (List ℕ)) → DataRow
row_of cells = record { payload = flat_map cell_bytes cells; field_count = pos (length cells) }

-- one day: as text, and as Int64 microseconds, Int32 days and Int32 months
abbrev pub day : FieldFormat → List ℕ
day field.Text = codes "1 day"
day field.Binary = replicate 8 0 ++ (0 ∷ 0 ∷ 0 ∷ 1 ∷ []) ++ replicate 4 0

abbrev pub first_row : FieldFormat → DataRow
first_row f = row_of (Some (codes "a") ∷ Some (day f) ∷ [])

abbrev pub second_row : DataRow
second_row = row_of (Some (codes "b") ∷ None ∷ [])

abbrev pub pair_items : FieldFormat → List RowItem
pair_items f = Ok (first_row f) ∷ Ok second_row ∷ []

abbrev pub division_by_zero : PgWireError
division_by_zero = wire.UserError (error (codes "22012") (codes "division by zero"))

abbrev pub broken_items : FieldFormat → List RowItem
broken_items f = Ok (first_row f) ∷ Err division_by_zero ∷ Ok second_row ∷ Ok second_row ∷ []

-- `count` rows, an error, and another row
abbrev pub long_items : ℕ → FieldFormat → List RowItem
long_items count f = replicate count (Ok (first_row f)) ++ Err division_by_zero ∷ Ok second_row ∷ []

abbrev pub rows_told : Format → List RowItem → ToldRows
rows_told formats items = record { command_tag = codes "SELECT"; fields = columns formats; items = items }

-- ---- COPY

-- each of the data is one byte: how many are left, itself included
abbrev pub data_left : ℕ → List CopyItem
data_left zero = []
data_left (suc n) = Ok (record { payload = suc n ∷ [] }) ∷ data_left n

-- a COPY of one column
abbrev pub copy_told : ℤ → ℕ → ToldCopy
copy_told code count = record { format = code; columns = 1; items = data_left count; trailer_left = has_trailer code }

-- ---- responses

abbrev pub done_tag : Tag
done_tag = tag_with_rows 1 (tag_with_oid 0 (tag_of (codes "INSERT")))

abbrev pub response_of : Format → SampleStatement → ToldResponse
response_of formats statement.Pair = response.Query (rows_told formats (pair_items (column_format formats 1)))
response_of formats statement.Broken = response.Query (rows_told formats (broken_items (column_format formats 1)))
response_of formats statement.Long = response.Query (rows_told formats (long_items 20000 (column_format formats 1)))
response_of formats statement.CopyIn = response.CopyIn (copy_told (pos 0) 0)
response_of formats statement.CopyOut = response.CopyOut (copy_told (pos 1) 2)
response_of formats statement.CopyBoth = response.CopyBoth (copy_told (pos 0) 1)
response_of formats statement.Failed = response.Error (error (codes "22023") (codes "refused"))
response_of formats statement.Done = response.Execution done_tag
response_of formats statement.Late = response.Query (rows_told formats (pair_items (column_format formats 1)))
response_of formats statement.Nothing = response.EmptyQuery

-- the polls that find a statement's query unready
abbrev pub polls_of : SampleStatement → ℕ
polls_of statement.Late = 1
polls_of _ = 0

-- ---- the parser and extended queries

abbrev pub not_known : PgWireError
not_known = wire.UserError (error (codes "42601") (codes "not known"))

abbrev pub or_not_known : Option SampleStatement → Result (Option SampleStatement) PgWireError
or_not_known None = Err not_known
or_not_known (Some s) = Ok (Some s)

-- statements have no parameters, and without formats columns are text
abbrev pub told_parser : ParserTold SampleStatement
told_parser = record {
  gives = λ s. true;
  parse = λ client query types. or_not_known (meaning query);
  parameter_types = λ s. Ok [];
  columns = λ s formats. Ok (columns_of s (unwrap_or formats format.UnifiedText));
}

abbrev pub told_extended : ExtendedTold SampleStatement
told_extended = record {
  parser = told_parser;
  query = λ client p limit. let s = p.statement.statement in
      record { owes = polls_of s; outcome = Ok (response_of p.result_column_format s) };
  describe_statement = λ client s. Ok (record { parameters = []; fields = columns_of s.statement format.UnifiedText });
  describe_portal = λ client p. Ok (record { fields = columns_of p.statement.statement p.result_column_format });
}

-- ---- simple queries

-- several statements, whose rows are text
abbrev pub listed : ℕ → List SampleStatement → ToldQuery (List ToldResponse)
listed polls statements = record { owes = polls; outcome = Ok (map (response_of format.UnifiedText) statements) }

abbrev pub alone_or_not_known : Option SampleStatement → ToldQuery (List ToldResponse)
alone_or_not_known None = record { owes = 0; outcome = Err not_known }
alone_or_not_known (Some s) = listed (polls_of s) (s ∷ [])

-- what `version` stands for: a command where the client speaks version 3.0, and two rows where it speaks 3.2
abbrev pub version_statement : ProtocolVersion → SampleStatement
version_statement protocol.PROTOCOL3_0 = statement.Done
version_statement protocol.PROTOCOL3_2 = statement.Pair

-- a statement, one of two lists of statements, or what `version` stands for
abbrev pub simple_of : ClientInfo → List ℕ → ToldQuery (List ToldResponse)
simple_of client text =
    if bytes_eq text (codes "pair; done") then listed 0 (statement.Pair ∷ statement.Done ∷ [])
    else if bytes_eq text (codes "done; broken; pair") then listed 0 (statement.Done ∷ statement.Broken ∷ statement.Pair ∷ [])
    else if bytes_eq text (codes "version") then listed 0 (version_statement client.protocol ∷ [])
    else alone_or_not_known (meaning_of text)

abbrev pub told_simple : SimpleTold
told_simple client query = simple_of client (trimmed query)

-- ---- COPY from the client

-- without a reply and without a refusal
abbrev pub taken : CopyStep
taken = record { replies = []; refusal = None }

-- all data are taken, or the handler that implements nothing answers
abbrev pub told_copying : SampleCopying → CopyTold
told_copying copying.Noop = noop_copy
told_copying copying.Taken = record {
  on_data = λ client bytes. taken;
  on_done = λ client. taken;
  on_fail = λ client message. wire.UserError (copy_given_up message);
}

-- all that the sample handlers tell, by what they do with a COPY from the client
abbrev pub sample_handlers : SampleCopying → Handlers SampleStatement
sample_handlers copying = handlers_of told_extended told_simple (told_copying copying)
