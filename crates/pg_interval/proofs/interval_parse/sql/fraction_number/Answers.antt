use Rattle.std.proofs.Common.{arith, ◌∙◌, ap, Ok}
use Rattle.pg_interval.specs.Texts.{is_digit}
use Rattle.pg_interval.proofs.ReadNumbers.{all_run}
use Rattle.pg_interval.proofs.ReadFields.{wrong_fraction, good_fraction}
use Rattle.pg_interval.proofs.interval_parse.sql.fraction_number.Goals as goal

pub returns-then-run_len-fraction : goal.returns-then-run_len-fraction
returns-then-run_len-fraction c = wrong_fraction c.args.minus c.args.fraction.now c.run_len.result c.run_len.ensures.run
    c.if-run_len-fraction.true

pub returns : goal.returns
returns c = ap Ok c.number_of.ensures ∙ good_fraction c.args.minus c.args.fraction.now c.run_len.result c.run_len.ensures.run
    c.run_len.ensures.within c.if-run_len-fraction.false

pub number_of-requires-clause-fraction : goal.number_of-requires-clause-fraction
number_of-requires-clause-fraction c = all_run is_digit c.args.fraction.now (omega arith)
