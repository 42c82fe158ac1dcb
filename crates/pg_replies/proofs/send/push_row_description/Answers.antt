use Rattle.std.proofs.Common.{refl, arith}
use Rattle.pg_replies.proofs.Pieces.{few_columns, column_behind, columns_appended, kept_before_column}
use Rattle.pg_replies.proofs.Sent.{kept_in_front}
use Rattle.pg_replies.proofs.send.push_row_description.Goals as goal

pub description_head-requires-clause-count : goal.description_head-requires-clause-count
description_head-requires-clause-count c = omega (arith, few_columns c.args.fields.now c.requires)

pub loop-field-preserved : goal.loop-field-preserved
loop-field-preserved c =
    column_behind c.args.fields.now c.loop-field.field-index c.field-item.result _ _ _ (omega arith) c.field-item.is
    c.loop-field.invariant c.in_ok-push_column.ensures.ok

pub returns-in_err-push_column-clause-kept : goal.returns-in_err-push_column-clause-kept
returns-in_err-push_column-clause-kept c =
    kept_before_column _ _ _ _ _ _ c.in_ok-push_bytes.ensures.ok c.loop-field.invariant c.in_err-push_column.ensures.err

pub returns-clause-ok : goal.returns-clause-ok
returns-clause-ok c =
    columns_appended c.args.fields.now c.loop-field.field-index _ _ _ _ _ _ (omega arith) c.body_len.ensures refl
    c.description_head.ensures c.in_ok-push_bytes.ensures.ok c.loop-field.invariant

pub returns-clause-kept : goal.returns-clause-kept
returns-clause-kept c =
    kept_in_front _ _ _ (columns_appended c.args.fields.now c.loop-field.field-index _ _ _ _ _ _ (omega arith) c.body_len.ensures refl
    c.description_head.ensures c.in_ok-push_bytes.ensures.ok c.loop-field.invariant)
