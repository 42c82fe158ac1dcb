use Rattle.std.proofs.Common.{◌+◌, length, ap, arith}
use Rattle.pg_replies.proofs.Pieces.{column_counted, columns_fit}
use Rattle.pg_replies.proofs.send.body_len.Goals as goal

pub overflow_add-len-in-loop-field : goal.overflow_add-len-in-loop-field
overflow_add-len-in-loop-field c =
    let more = column_counted c.args.fields.now c.loop-field.field-index c.field-item.result c.loop-field.len (omega arith) c.field-item.is
    c.loop-field.invariant in
    let fit = columns_fit c.args.fields.now (c.loop-field.field-index + 1) c.requires in
    omega (arith, more, fit, ap length c.name.ensures)
