use Rattle.std.proofs.Common.{arith}
use Rattle.pg_interval.proofs.ReadTokens.{len_zero}
use Rattle.pg_interval.proofs.FrontFields.{seconds_whole, seconds_point}
use Rattle.pg_interval.proofs.interval_parse.sql_front.seconds.Goals as goal

pub returns-then-is_empty : goal.returns-then-is_empty
returns-then-is_empty c = seconds_whole c.args.text.now c.in-Some.behind.now c.in-Some.seconds c.in-Some.ensures
    (len_zero c.in-Some.behind.now c.is_empty.result c.is_empty.ensures c.if-is_empty.true)

pub returns : goal.returns
returns c = seconds_point c.args.text.now c.in-Some.behind.now c.in-Some-after_byte.behind.now c.in-Some-number_front.rest.now
    c.in-Some.seconds c.in-Some-number_front.fraction c.in-Some.ensures c.in-Some-after_byte.ensures (omega arith)
    c.in-Some-number_front.ensures
    (len_zero c.in-Some-number_front.rest.now c.is_empty-2.result c.is_empty-2.ensures c.if-not-is_empty.false)
