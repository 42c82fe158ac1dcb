use Rattle.std.proofs.Common.{◌≡◌, sym, subst, None, Some, IfOk, IfErr}
use Rattle.relation_files.specs.Told.{row_of}
use Rattle.relation_files.specs.Reader.{IsReason, never}
use Rattle.relation_files.proofs.Fields.{line_reason-text, line_reason-no_text}
use Rattle.relation_files.proofs.row.read_row.Goals as goal

pub returns-in_default-clause-refused : goal.returns-in_default-clause-refused
returns-in_default-clause-refused c =
    line_reason-no_text never (Some c.args.width) c.args.line.now c.in_default.ensures.cases.0

pub returns-clause-good : goal.returns-clause-good
returns-clause-good c =
    subst (λ o. IfOk c.read_fields.result (λ _. o ≡ None))
    (sym (line_reason-text never (Some c.args.width) c.args.line.now c.in-Ok.text.now c.in-Ok.ensures.cases))
    c.read_fields.ensures.good

pub returns-clause-row : goal.returns-clause-row
returns-clause-row c = subst (λ l. IfOk c.read_fields.result (λ row. row ≡ row_of l)) c.in-Ok.ensures.cases.0 c.read_fields.ensures.row

pub returns-clause-refused : goal.returns-clause-refused
returns-clause-refused c =
    subst (λ o. IfErr c.read_fields.result (λ error. IsReason error o))
    (sym (line_reason-text never (Some c.args.width) c.args.line.now c.in-Ok.text.now c.in-Ok.ensures.cases))
    c.read_fields.ensures.refused
