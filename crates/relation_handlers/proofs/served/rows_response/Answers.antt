use Rattle.std.proofs.Common.{◌≡◌, ◌∙◌, map, codes, ap}
use Rattle.std.specs.Arc.{arc_value}
use Rattle.std.proofs.lemmas.Result.{IfOk-weaker}
use Rattle.pg_results.specs.declared.format.Format.{Format}
use Rattle.conversation_table.specs.Good.{IsSendableResponse}
use Rattle.relation_tables.specs.RelationHandler.{column_formats, columns_in, row_item, rows_response, session_style}
use Rattle.relation_tables.specs.Relations.{relation_at}
use Rattle.relation_handlers.specs.Made.{rows_left, style_in}
use Rattle.relation_handlers.specs.Told.{ToldColumns}
use Rattle.relation_handlers.proofs.ResponseLemmas.{sendable_rows, told_query}
use Rattle.relation_handlers.proofs.SettingsLemmas.{rows_settled}
use Rattle.relation_handlers.proofs.served.rows_response.Goals as goal

pub returns-clause-told : goal.returns-clause-told
returns-clause-told c =
    let client = c.args.client.now in
    let formats = c.args.formats.now in
    let r = relation_at c.args.relations.now c.args.place in
    let settings = c.in_ok-settings.settings in
    let columns_are = rw c.named.ensures at c.in_ok-columns.ensures.columns in
    let rows_are : rows_left c.rows_from_first-rows.result
    ≡ map (row_item (session_style client) (column_formats formats r.columns)) r.rows =
    c.rows_from_first-rows.ensures.rows
    ∙ ap (λ (f : Format). map (row_item (style_in settings) (column_formats f r.columns)) r.rows) c.in_ok-formats.ensures
    ∙ rows_settled formats client settings r.columns r.rows c.in_ok-settings.ensures in
    told_query rows_left c.new.result client formats r c.new.ensures.tag
    (IfOk-weaker c.new.result (λ m. m.row_schema ≡ c.into_parts-fields.result.0) (λ m. arc_value m.row_schema ≡ columns_in formats r.columns)
    (λ m e. ap arc_value e ∙ c.into_parts-fields.ensures.fields
    ∙ ap (λ (columns : ToldColumns). columns.fields) columns_are) c.new.ensures.columns)
    (IfOk-weaker c.new.result (λ m. m.data_rows ≡ c.rows_from_first-rows.result)
    (λ m. rows_left m.data_rows ≡ map (row_item (session_style client) (column_formats formats r.columns)) r.rows)
    (λ m e. ap rows_left e ∙ rows_are) c.new.ensures.rows)

pub returns-clause-sendable : goal.returns-clause-sendable
returns-clause-sendable c =
    let r = relation_at c.args.relations.now c.args.place in
    let columns_are = rw c.named.ensures at c.in_ok-columns.ensures.columns in
    IfOk-weaker c.new.result (λ response. response.command_tag ≡ codes "SELECT")
    (λ response. IsSendableResponse (rows_response c.args.client.now c.args.formats.now r))
    (λ response e. sendable_rows c.args.client.now c.args.formats.now r c.in_ok-columns.columns columns_are
    c.in_ok-columns.ensures.encodable)
    c.new.ensures.tag
