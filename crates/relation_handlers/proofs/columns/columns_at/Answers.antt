use Rattle.std.proofs.Common.{◌≡◌, ap, length, subst, sym, ◌∙◌}
use Rattle.std.proofs.lemmas.Result.{IfOk-weaker}
use Rattle.pg_messages.specs.Replies.{IsEncodable}
use Rattle.pg_replies.specs.Replies.{row_description}
use Rattle.relation_tables.specs.declared.Relation.{Relation}
use Rattle.relation_tables.specs.Relations.{relation_at}
use Rattle.relation_handlers.specs.Shared.{told_columns}
use Rattle.relation_handlers.specs.Told.{ToldColumns}
use Rattle.relation_handlers.proofs.ResponseLemmas.{sendable_columns}
use Rattle.relation_handlers.proofs.ColumnLemmas.{formats_len}
use Rattle.relation_handlers.proofs.columns.columns_at.Goals as goal

pub returns-clause-length : goal.returns-clause-length
returns-clause-length c =
    let formats = c.args.formats.now in
    let names = c.as_slice-names.result.now in
    IfOk-weaker c.columns_in.result (λ columns. columns ≡ told_columns formats names)
    (λ columns. length columns.formats ≡ length (relation_at c.args.relations.now c.args.place).columns)
    (λ columns e. ap (λ (t : ToldColumns). length t.formats) e ∙ formats_len formats 0 names ∙ ap length c.as_slice-names.ensures
    ∙ ap (λ (r : Relation). length r.columns) c.at.ensures.relation) c.columns_in.ensures

pub returns-clause-encodable : goal.returns-clause-encodable
returns-clause-encodable c =
    let formats = c.args.formats.now in
    let names = c.as_slice-names.result.now in
    let r = c.at.result.now in
    IfOk-weaker c.columns_in.result (λ columns. columns ≡ told_columns formats names)
    (λ columns. IsEncodable (row_description columns.fields))
    (λ columns e. subst (λ (t : ToldColumns). IsEncodable (row_description t.fields))
    (sym (e ∙ ap (told_columns formats) c.as_slice-names.ensures)) (sendable_columns formats r c.at.ensures.sound)) c.columns_in.ensures
