use Rattle.std.proofs.Common.{◌≡◌, sym, subst, None, IfOk, IfErr}
use Rattle.std.specs.Option.{is_some}
use Rattle.std.specs.FinMap as map
use Rattle.relation_files.specs.Reader.{IsReason}
use Rattle.relation_files.proofs.Fields.{line_reason-no_text, header-one, header-more}
use Rattle.relation_files.proofs.header.read_header.Goals as goal

pub returns-in_default-clause-refused : goal.returns-in_default-clause-refused
returns-in_default-clause-refused c =
    line_reason-no_text (λ name. is_some (map.get c.args.taken.now name)) None c.args.line.now c.in_default.ensures.cases.0

pub returns-in_default-behind-clause-refused : goal.returns-in_default-behind-clause-refused
returns-in_default-behind-clause-refused c =
    header-one (λ name. is_some (map.get c.args.taken.now name)) c.args.line.now c.in-Ok.text.now c.first_field.result.0.now
    c.first_field.result.1
    c.in-Ok.ensures.cases c.first_field.ensures c.in_default-behind.is

pub returns-clause-good : goal.returns-clause-good
returns-clause-good c =
    let reason = header-more (λ name. is_some (map.get c.args.taken.now name)) c.args.line.now c.in-Ok.text.now c.first_field.result.0.now
    c.first_field-2.result.0.now c.first_field.result.1 c.first_field-2.result.1 c.in-Some.others c.in-Ok.ensures.cases
    c.first_field.ensures c.in-Some.is
    c.first_field-2.ensures in
    subst (λ o. IfOk c.read_fields.result (λ _. o ≡ None)) (sym reason) c.read_fields.ensures.good

pub returns-clause-refused : goal.returns-clause-refused
returns-clause-refused c =
    let reason = header-more (λ name. is_some (map.get c.args.taken.now name)) c.args.line.now c.in-Ok.text.now c.first_field.result.0.now
    c.first_field-2.result.0.now c.first_field.result.1 c.first_field-2.result.1 c.in-Some.others c.in-Ok.ensures.cases
    c.first_field.ensures c.in-Some.is
    c.first_field-2.ensures in
    subst (λ o. IfErr c.read_fields.result (λ error. IsReason error o)) (sym reason) c.read_fields.ensures.refused
