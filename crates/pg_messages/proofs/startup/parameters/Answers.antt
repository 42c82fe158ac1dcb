use Rattle.std.proofs.Common.{length}
use Rattle.std.proofs.lemmas.Result.{err_from_is_err_and}
use Rattle.pg_messages.specs.Reading.{all_parameters_at}
use Rattle.pg_messages.proofs.Loops.{pairs-go_on, pairs-fail, pairs-end, pairs-lack}
use Rattle.pg_messages.proofs.startup.parameters.Goals as goal

pub returns-in-Some : goal.returns-in-Some
returns-in-Some c = pairs-end c.loop.parameters (length c.args.bytes.now) c.loop.counter c.loop.rest.now c.in-Some.after.now
    (all_parameters_at c.args.bytes.now) c.loop-test.true c.in-Some.ensures c.loop.invariant

pub returns-in_err-parameter : goal.returns-in_err-parameter
returns-in_err-parameter c =
    let p = err_from_is_err_and c.from_residual.result c.from_residual.ensures.1 in
    rw (p.1, p.2) (pairs-fail c.in_err-parameter.field-0.0 c.loop.parameters (length c.args.bytes.now) c.loop.counter c.loop.rest.now
    (all_parameters_at c.args.bytes.now) c.loop-test.true c.in_default.ensures c.in_err-parameter.ensures c.loop.invariant)

pub loop-preserved : goal.loop-preserved
loop-preserved c =
    rw c.in_ok-push.ensures.ok (pairs-go_on c.loop.parameters (length c.args.bytes.now) c.loop.counter c.loop.rest.now
    c.in_ok-parameter.parameter c.in_ok-parameter.after.now (all_parameters_at c.args.bytes.now) c.loop-test.true c.in_default.ensures
    c.in_ok-parameter.ensures c.loop.invariant)

pub returns : goal.returns
returns c = pairs-lack c.loop.parameters (length c.args.bytes.now) c.loop.counter c.loop.rest.now (all_parameters_at c.args.bytes.now)
    c.loop-test.false c.loop.invariant
