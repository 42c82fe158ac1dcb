use Rattle.std.proofs.lemmas.Result.{err_from_is_err_and}
use Rattle.pg_messages.specs.Reading.{items_at}
use Rattle.pg_messages.proofs.Loops.{begins, goes_on, ends, is_done}
use Rattle.pg_messages.proofs.fields.items.Goals as goal

pub loop-init : goal.loop-init
loop-init g c = begins g.T.Field.field_at c.new-items.result c.args.count c.args.bytes.now c.new-items.ensures

pub returns-in_err-item : goal.returns-in_err-item
returns-in_err-item g c =
    let p = err_from_is_err_and c.from_residual.result c.from_residual.ensures.1 in
    rw (p.1, p.2) (ends g.T.Field.field_at c.in_err-item.field-0.0 c.loop.items c.args.count c.loop.counter c.loop.rest.now
    (items_at g.T.Field.field_at c.args.count c.args.bytes.now) c.loop-test.true c.in_err-item.ensures c.loop.invariant)

pub returns-in_err-push : goal.returns-in_err-push
returns-in_err-push g c =
    let p = err_from_is_err_and c.from_residual-in_err-push.result c.from_residual-in_err-push.ensures.1 in rw (p.1, p.2) tt

pub loop-preserved : goal.loop-preserved
loop-preserved g c =
    rw c.in_ok-push.ensures.ok (goes_on g.T.Field.field_at c.loop.items c.args.count c.loop.counter c.loop.rest.now c.in_ok-item.item
    c.in_ok-item.after.now (items_at g.T.Field.field_at c.args.count c.args.bytes.now) c.loop-test.true c.in_ok-item.ensures
    c.loop.invariant)

pub returns : goal.returns
returns g c = is_done g.T.Field.field_at c.loop.items c.args.count c.loop.counter c.loop.rest.now
    (items_at g.T.Field.field_at c.args.count c.args.bytes.now) c.loop-test.false c.loop.invariant
