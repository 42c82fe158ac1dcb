use Rattle.std.proofs.Common.{◌≡◌, sym, subst, None, IfOk, IfErr}
use Rattle.relation_files.specs.Lines.{fields_of}
use Rattle.relation_files.specs.Reader.{IsReason}
use Rattle.relation_files.proofs.Fields.{row_reason-fits}
use Rattle.relation_files.proofs.row.read_fields.Goals as goal

pub returns-clause-good : goal.returns-clause-good
returns-clause-good c =
    subst (λ o. IfOk c.read_cells.result (λ _. o ≡ None))
    (sym (row_reason-fits c.args.width (fields_of c.args.text.now) c.field_count.result c.field_count.ensures c.if-field_count-width.false))
    c.read_cells.ensures.good

pub returns-clause-refused : goal.returns-clause-refused
returns-clause-refused c =
    subst (λ o. IfErr c.read_cells.result (λ error. IsReason error o))
    (sym (row_reason-fits c.args.width (fields_of c.args.text.now) c.field_count.result c.field_count.ensures c.if-field_count-width.false))
    c.read_cells.ensures.refused
