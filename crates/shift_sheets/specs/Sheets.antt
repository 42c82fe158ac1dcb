-- What a sheet tells: the handlers of one message, by which each query is answered alike.
use Rattle.std.specs.Prelude.{true, List, [], ◌∷◌, Option, Result, Ok, Err, unwrap_or}
use Rattle.pg_results.specs.Fields.{Field}
use Rattle.pg_results.specs.Told.{ParserTold}
use Rattle.pg_results.specs.declared.error.PgWireError.{PgWireError}
use Rattle.pg_results.specs.declared.format.Format.{Format}
use Rattle.pg_results.specs.declared.format.Format.TheVariants as format
use Rattle.conversation_table.specs.Handlers.{ExtendedTold, Handlers, SimpleTold, handlers_of}
use Rattle.conversation_table.specs.Noop.{noop_copy}
use Rattle.row_handlers.specs.Told.{alone, parsed, ready_with}
use Rattle.shift_orders.specs.Statements.{meaning_of, parameter_types}
use Rattle.shift_orders.specs.declared.statement.ShiftStatement.{ShiftStatement}
use Rattle.shift_orders.specs.declared.statement.ShiftStatement.TheVariants as statement
use Rattle.shift_rows.specs.ShiftRows.{columns}
use Rattle.shift_transactions.specs.declared.outcome.Outcome.{Outcome}
use Rattle.shift_sheets.specs.Answers.{response_in}

-- SHIFTS and SHIFTS OF have rows
abbrev pub columns_of : ShiftStatement → Format → List Field
columns_of statement.Shifts formats = columns formats
columns_of (statement.ShiftsOf name) formats = columns formats
columns_of _ formats = []

-- the parser of all sheets
abbrev pub shift_parser : ParserTold ShiftStatement
shift_parser = record {
  gives = λ s. true;
  parse = λ client query types. parsed (meaning_of query);
  parameter_types = λ s. Ok (parameter_types s);
  columns = λ s formats. Ok (columns_of s (unwrap_or formats format.UnifiedText));
}

abbrev pub told_extended : Result Outcome PgWireError → ExtendedTold ShiftStatement
told_extended o = record {
  parser = shift_parser;
  query = λ client p limit. ready_with (response_in p.result_column_format o);
  describe_statement = λ client s. Ok (record {
    parameters = parameter_types s.statement;
    fields = columns_of s.statement format.UnifiedText;
  });
  describe_portal = λ client p. Ok (record { fields = columns_of p.statement.statement p.result_column_format });
}

-- the rows of a simple query are text
abbrev pub told_simple : Result Outcome PgWireError → SimpleTold
told_simple o client query = ready_with (alone (response_in format.UnifiedText o))

-- the sheet of a message whose query comes to this; COPY is refused
abbrev pub shift_sheet : Result Outcome PgWireError → Handlers ShiftStatement
shift_sheet o = handlers_of (told_extended o) (told_simple o) noop_copy
