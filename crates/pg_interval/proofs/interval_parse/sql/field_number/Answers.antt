use Rattle.std.proofs.Common.{arith, ◌∙◌, ap, Ok}
use Rattle.pg_interval.specs.Texts.{is_digit}
use Rattle.pg_interval.proofs.ReadNumbers.{all_run}
use Rattle.pg_interval.proofs.ReadFields.{empty_field, wrong_field, good_field}
use Rattle.pg_interval.proofs.ReadTokens.{len_zero, len_some}
use Rattle.pg_interval.proofs.interval_parse.sql.field_number.Goals as goal

pub returns-then-is_empty : goal.returns-then-is_empty
returns-then-is_empty c = empty_field c.args.minus c.args.field.now
    (len_zero c.args.field.now c.is_empty.result c.is_empty.ensures c.if-is_empty.true)

pub returns-then-run_len-field : goal.returns-then-run_len-field
returns-then-run_len-field c = wrong_field c.args.minus c.args.field.now c.run_len.result c.run_len.ensures.run c.if-run_len-field.true

pub returns : goal.returns
returns c = ap Ok c.number_of.ensures ∙ good_field c.args.minus c.args.field.now c.run_len.result c.run_len.ensures.run
    c.run_len.ensures.within c.if-run_len-field.false (len_some c.args.field.now c.is_empty.result c.is_empty.ensures c.if-is_empty.false)

pub number_of-requires-clause-whole : goal.number_of-requires-clause-whole
number_of-requires-clause-whole c = all_run is_digit c.args.field.now (omega arith)
