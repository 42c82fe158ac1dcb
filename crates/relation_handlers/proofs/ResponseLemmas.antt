-- What is answered can be sent.
use Rattle.std.proofs.Common.{◌≡◌, ◌≤◌, subst, List, Option, Result, Ok, Err, IfOk, map, codes, length, unwrap_or, refl, arith}
use Rattle.std.specs.Arc.{arc_value}
use Rattle.std.proofs.lemmas.List.{length-map}
use Rattle.pg_messages.specs.Replies.{IsEncodable}
use Rattle.pg_types.specs.declared.pg_type.PgType.{PgType}
use Rattle.pg_types.specs.declared.pg_type.PgType.TheVariants as type
use Rattle.pg_results.specs.declared.client.ClientInfo.{ClientInfo}
use Rattle.pg_results.specs.declared.format.Format.{Format}
use Rattle.pg_results.specs.declared.response.QueryResponse.{QueryResponse}
use Rattle.pg_results.specs.Responses as response
use Rattle.pg_results.specs.Rows.{RowItem}
use Rattle.pg_results.specs.Told.{told_rows}
use Rattle.conversation_table.specs.Good.{IsSendableResponse}
use Rattle.pg_replies.specs.Replies.{parameter_description, row_description}
use Rattle.pg_replies.proofs.Encodable.{select_is_tag}
use Rattle.relation_tables.specs.declared.Relation.{Relation}
use Rattle.relation_tables.specs.RelationHandler.{column_formats, columns_in, given_types, row_item, rows_response, session_style}
use Rattle.relation_tables.proofs.GoodColumns.{good_columns}
use Rattle.relation_tables.proofs.Sendable.{columns_sendable, types_sendable}
use Rattle.relation_handlers.specs.Shared.{told_columns}
use Rattle.relation_handlers.specs.Tables.{IsSound}
use Rattle.relation_handlers.specs.Told.{ToldColumns}

pub sendable_columns : (formats : Format) (r : Relation) → IsSound r → IsEncodable (row_description (columns_in formats r.columns))
sendable_columns formats r sound = columns_sendable formats r.columns (good_columns r.columns sound.columns)

pub sendable_rows : (client : ClientInfo) (formats : Format) (r : Relation) (columns : ToldColumns)
    → columns ≡ told_columns formats r.columns
    → IsEncodable (row_description columns.fields) → IsSendableResponse (rows_response client formats r)
sendable_rows client formats r columns e encodable =
    (subst (λ (c : ToldColumns). IsEncodable (row_description c.fields)) e encodable, select_is_tag)

-- rows of these columns, in the session's style
pub told_query : {R E : Type 0} (left : R → List RowItem) (made : Result (QueryResponse R) E) (client : ClientInfo) (formats : Format)
    (r : Relation) → IfOk made (λ m. m.command_tag ≡ codes "SELECT") → IfOk made (λ m. arc_value m.row_schema ≡ columns_in formats r.columns)
    → IfOk made (λ m. left m.data_rows ≡ map (row_item (session_style client) (column_formats formats r.columns)) r.rows)
    → IfOk made (λ m. response.Query (told_rows left m) ≡ rows_response client formats r)
told_query left (Ok m) client formats r tag fields rows = rw (tag, fields, rows) refl
told_query left (Err e) client formats r tag fields rows = tt

pub sendable_types : (types : List (Option PgType)) → length types ≤ 32767 → IsEncodable (parameter_description (given_types types))
sendable_types types few =
    types_sendable (given_types types) (omega (arith, length-map types (λ given. unwrap_or given type.Unknown), few))
