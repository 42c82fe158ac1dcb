use Rattle.std.proofs.Common.{◌≡◌, ap, subst, sym, ◌∙◌}
use Rattle.std.proofs.lemmas.Result.{IfOk-weaker}
use Rattle.pg_messages.specs.Replies.{IsEncodable}
use Rattle.pg_replies.specs.Replies.{row_description}
use Rattle.relation_tables.specs.RelationHandler.{columns_in}
use Rattle.relation_handlers.proofs.ResponseLemmas.{sendable_columns}
use Rattle.relation_handlers.proofs.columns.fields_of.Goals as goal

pub returns-in-Relation-clause-encodable : goal.returns-in-Relation-clause-encodable
returns-in-Relation-clause-encodable c =
    let formats = c.args.formats.now in
    let names = c.as_slice-names.result.now in
    let r = c.at.result.now in
    IfOk-weaker c.fields_in.result (λ fields. fields ≡ columns_in formats names)
    (λ fields. IsEncodable (row_description fields))
    (λ fields e. subst (λ fs. IsEncodable (row_description fs))
    (sym (e ∙ ap (columns_in formats) c.as_slice-names.ensures)) (sendable_columns formats r c.at.ensures.sound)) c.fields_in.ensures
