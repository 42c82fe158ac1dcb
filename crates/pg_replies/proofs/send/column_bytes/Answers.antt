use Rattle.std.proofs.Common.{FitsSigned, w16, w32, rules, ap, ◌∙◌}
use Rattle.std.proofs.lemmas.Int.{to_z-of_z}
use Rattle.pg_messages.specs.Fields.{int16, int32}
use Rattle.pg_replies.proofs.Pieces.{column_told}
use Rattle.pg_replies.proofs.send.column_bytes.Goals as goal

pub returns : goal.returns
returns c =
    let table : FitsSigned w32 c.args.table = search rules in
    let column : FitsSigned w16 c.args.column = search rules in
    let size : FitsSigned w16 c.args.size = search rules in
    let modifier : FitsSigned w32 c.args.modifier = search rules in
    let format : FitsSigned w16 c.args.format = search rules in
    column_told c.args.table c.args.column c.args.size c.args.modifier c.args.format c.args.type_id c.to_be_bytes.result
    c.to_be_bytes-2.result c.to_be_bytes-3.result c.to_be_bytes-4.result c.to_be_bytes-5.result c.to_be_bytes-6.result
    (c.to_be_bytes.ensures ∙ ap int32 (to_z-of_z w32 c.args.table table))
    (c.to_be_bytes-2.ensures ∙ ap int16 (to_z-of_z w16 c.args.column column))
    c.to_be_bytes-3.ensures
    (c.to_be_bytes-4.ensures ∙ ap int16 (to_z-of_z w16 c.args.size size))
    (c.to_be_bytes-5.ensures ∙ ap int32 (to_z-of_z w32 c.args.modifier modifier))
    (c.to_be_bytes-6.ensures ∙ ap int16 (to_z-of_z w16 c.args.format format))
