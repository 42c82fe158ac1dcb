use Rattle.std.proofs.Common.{ap, length, arith}
use Rattle.std.proofs.lemmas.List.Folds.{length-flat_map-take}
use Rattle.pg_messages.proofs.put.put_all.Goals as goal

pub put-requires : goal.put-requires
put-requires g c =
    let f = g.T.Put.bytes_of in
    let there = length-flat_map-take f c.args.values.now c.loop-value.value-index c.value-item.result c.loop-value-test.true in
    let same = ap (λ x. length (f x)) c.value-item.is in
    omega (arith, there, same, c.loop-value.invariant.spare, c.requires)
