-- Portals as Bind makes them (protocol: Extended Query).
use Rattle.std.specs.Prelude.{ℕ, List, []}
use Rattle.pg_messages.specs.declared.extendedquery.Bind.{Bind}
use Rattle.pg_results.specs.declared.format.Format.TheVariants.{UnifiedText}
use Rattle.pg_results.specs.declared.stmt.StoredStatement.{StoredStatement}
use Rattle.pg_results.specs.Formats.{format_of}
use Rattle.pg_portal.specs.Told.{BoundPortal}

-- the portal that a Bind makes of a statement
abbrev pub bound_by : {S : Type 0} → Bind → StoredStatement S → BoundPortal S
bound_by message statement = record {
  name = message.portal_name;
  statement = statement;
  parameter_format = format_of message.parameter_format_codes;
  parameters = message.parameters;
  result_column_format = format_of message.result_column_format_codes;
}

-- the portal of a cursor: no parameter, and text results
abbrev pub cursor_of : {S : Type 0} → List ℕ → StoredStatement S → BoundPortal S
cursor_of name statement = record {
  name = name;
  statement = statement;
  parameter_format = UnifiedText;
  parameters = [];
  result_column_format = UnifiedText;
}
