use Rattle.std.proofs.Common.{◌≡◌, ◌∙◌, pos, false, List, map, length, refl, ap}
use Rattle.pg_types.specs.declared.format.FormatOptions.{FormatOptions}
use Rattle.pg_results.specs.declared.client.ClientInfo.{ClientInfo}
use Rattle.pg_results.specs.declared.copy.CopyResponse.{CopyResponse}
use Rattle.pg_results.specs.Copying.{CopyItem}
use Rattle.pg_results.specs.Responses.{CopyOut, told_copy}
use Rattle.relation_tables.specs.declared.Relation.{Relation}
use Rattle.relation_tables.specs.RelationHandler.{copy_response, line_item, session_style}
use Rattle.relation_tables.specs.Relations.{relation_at}
use Rattle.relation_handlers.specs.Made.{style_in}
use Rattle.relation_handlers.proofs.served.copy_response.Goals as goal

copied : (copy : CopyResponse (List CopyItem)) (client : ClientInfo) (r : Relation) → copy.format ≡ pos 0
    → copy.columns ≡ length r.columns → copy.data_stream ≡ map (line_item (session_style client)) r.rows → copy.trailer_left ≡ false
    → CopyOut (told_copy (λ items. items) copy) ≡ copy_response client r
copied copy client r format columns items trailer = rw (format, columns, items, trailer) refl

pub returns : goal.returns
returns c =
    let r = relation_at c.args.relations.now c.args.place in
    let at = c.at.ensures.relation ∙ ap (λ (relations : List Relation). relation_at relations c.args.place) c.named-named.ensures in
    copied c.new.result c.args.client.now r c.new.ensures.format
    (c.new.ensures.columns ∙ c.len.ensures ∙ ap (λ (r : Relation). length r.columns) at)
    (c.new.ensures.data ∙ c.new-lines.ensures ∙ c.rows_from_first-lines.ensures.lines
    ∙ ap (λ (options : FormatOptions). map (line_item (style_in options)) r.rows) c.in_ok-settings.ensures)
    c.new.ensures.trailer
