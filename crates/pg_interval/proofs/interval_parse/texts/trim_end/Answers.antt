use Rattle.std.proofs.Common.{◌≡◌, ◌∙◌, sym, ap, take, arith}
use Rattle.pg_interval.specs.PostgresText.{trimmed_end}
use Rattle.pg_interval.proofs.ReadTokens.{trim_step, trim_stop}
use Rattle.pg_interval.proofs.interval_parse.texts.trim_end.Goals as goal
use Rattle.pg_interval.proofs.interval_parse.texts.trim_end.Goals.{then-loop-end-test+else-is_whitespace, else-loop-end-test}

pub loop-end-preserved : goal.loop-end-preserved
loop-end-preserved c = record {
  within = omega arith;
  same = trim_step c.args.text.now c.loop-end.end (omega arith) (omega arith) (sym c.is_whitespace.ensures ∙ c.if-is_whitespace.true)
      ∙ c.loop-end.invariant.same;
}

pub returns-clause-rest : goal.returns-clause-rest
returns-clause-rest c =
    let text = c.args.text.now in
    elim c.loop-end-test.branch [
      | then-loop-end-test+else-is_whitespace w ↦ c.split_at.ensures.front
          ∙ trim_stop text c.loop-end.end (omega arith) (omega arith) (sym w.is_whitespace.ensures ∙ w.if-is_whitespace.false)
          ∙ c.loop-end.invariant.same
      | else-loop-end-test w ↦ (let none : c.loop-end.end ≡ 0 = omega arith in c.split_at.ensures.front ∙ ap (λ n. take n text) none
          ∙ sym (ap (λ n. trimmed_end (take n text)) none) ∙ c.loop-end.invariant.same)
    ]
