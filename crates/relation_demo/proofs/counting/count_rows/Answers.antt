use Rattle.std.proofs.Common.{◌+◌, arith}
use Rattle.relation_demo.proofs.CountLemmas.{one_less, one_more_row, no_more_row, all_counted}
use Rattle.relation_demo.proofs.counting.count_rows.Goals as goal

pub loop-kind-preserved-then-kind-eq-DATA_ROW : goal.loop-kind-preserved-then-kind-eq-DATA_ROW
loop-kind-preserved-then-kind-eq-DATA_ROW c = record {
  left = λ messages e told. one_less c.loop-kind.rest.now c.in-Some.kind c.in-Some.behind.now c.loop-kind.rows (c.loop-kind.rows + 1)
      messages
      c.in-Some.ensures.first (λ none. absurd (cc (c.in-Some.ensures.end none)))
      (one_more_row c.in-Some.kind c.loop-kind.rows c.if-kind-eq-DATA_ROW.true)
      (c.loop-kind.invariant.left messages e told);
  few = omega (arith, c.in-Some.ensures.shorter, c.loop-kind.invariant.few);
}

pub loop-kind-preserved : goal.loop-kind-preserved
loop-kind-preserved c = record {
  left = λ messages e told. one_less c.loop-kind.rest.now c.in-Some.kind c.in-Some.behind.now c.loop-kind.rows c.loop-kind.rows messages
      c.in-Some.ensures.first (λ none. absurd (cc (c.in-Some.ensures.end none)))
      (no_more_row c.in-Some.kind c.loop-kind.rows c.if-kind-eq-DATA_ROW.false)
      (c.loop-kind.invariant.left messages e told);
  few = omega (arith, c.in-Some.ensures.shorter, c.loop-kind.invariant.few);
}

pub returns : goal.returns
returns c = λ messages e told. all_counted c.loop-kind.rest.now c.loop-kind.rows messages c.in_default.ensures.first
    (c.loop-kind.invariant.left messages e told)
