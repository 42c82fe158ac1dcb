-- What is told by handlers that answer each query with rows.
use Rattle.std.specs.Prelude.{ℕ, true, List, [], ◌∷◌, Option, Some, None, Result, Ok, Err, unwrap_or, codes}
use Rattle.pg_results.specs.Fields.{Field}
use Rattle.pg_results.specs.Responses as response
use Rattle.pg_results.specs.Responses.{ToldResponse}
use Rattle.pg_results.specs.Rows.{RowItem}
use Rattle.pg_results.specs.Told.{ParserTold}
use Rattle.pg_results.specs.declared.error.PgWireError.{PgWireError}
use Rattle.pg_results.specs.declared.format.Format.{Format}
use Rattle.pg_results.specs.declared.format.Format.TheVariants as format
use Rattle.conversation_table.specs.Handlers.{ExtendedTold, Handlers, SimpleTold, ToldQuery, handlers_of}
use Rattle.conversation_table.specs.Noop.{noop_copy}
use Rattle.row_handlers.specs.Answers.{AnswersTold}

-- a query that owes no poll
abbrev pub ready_with : {A : Type 0} → Result A PgWireError → ToldQuery A
ready_with outcome = record { owes = 0; outcome = outcome }

-- rows under their columns and the tag SELECT
abbrev pub rows_under : List Field → List RowItem → ToldResponse
rows_under fields items = response.Query (record { command_tag = codes "SELECT"; fields = fields; items = items })

-- the same, or the error in place of the rows
abbrev pub answered : List Field → Result (List RowItem) PgWireError → Result ToldResponse PgWireError
answered fields (Ok items) = Ok (rows_under fields items)
answered fields (Err error) = Err error

-- what a statement is answered
abbrev pub answer_of : {S : Type 0} → AnswersTold S → S → List (Option (List ℕ)) → Format → Format → Result ToldResponse PgWireError
answer_of told s parameters parameter_format formats =
    answered (told.columns s formats) (told.rows s parameters parameter_format formats)

-- ---- extended queries

abbrev pub parsed : {S : Type 0} → Result S PgWireError → Result (Option S) PgWireError
parsed (Ok s) = Ok (Some s)
parsed (Err error) = Err error

-- without formats columns are text
abbrev pub told_parser : {S : Type 0} → AnswersTold S → ParserTold S
told_parser told = record {
  gives = λ s. true;
  parse = λ client query types. parsed (told.parse query (Some types));
  parameter_types = λ s. Ok (told.parameter_types s);
  columns = λ s formats. Ok (told.columns s (unwrap_or formats format.UnifiedText));
}

abbrev pub told_extended : {S : Type 0} → AnswersTold S → ExtendedTold S
told_extended told = record {
  parser = told_parser told;
  query = λ client p limit. ready_with
      (answer_of told p.statement.statement p.parameters p.parameter_format p.result_column_format);
  describe_statement = λ client s. Ok (record {
    parameters = told.parameter_types s.statement;
    fields = told.columns s.statement format.UnifiedText;
  });
  describe_portal = λ client p. Ok (record { fields = told.columns p.statement.statement p.result_column_format });
}

-- ---- simple queries, which have no parameters, and whose rows are text

abbrev pub alone : Result ToldResponse PgWireError → Result (List ToldResponse) PgWireError
alone (Ok response) = Ok (response ∷ [])
alone (Err error) = Err error

abbrev pub simple_answer : {S : Type 0} → AnswersTold S → Result S PgWireError → Result ToldResponse PgWireError
simple_answer told (Ok s) = answer_of told s [] format.UnifiedText format.UnifiedText
simple_answer told (Err error) = Err error

abbrev pub told_simple : {S : Type 0} → AnswersTold S → SimpleTold
told_simple told client query = ready_with (alone (simple_answer told (told.parse query None)))

-- all that the handlers tell: COPY is refused
abbrev pub row_handlers : {S : Type 0} → AnswersTold S → Handlers S
row_handlers told = handlers_of (told_extended told) (told_simple told) noop_copy
