use Rattle.std.proofs.Common.{◌∙◌}
use Rattle.relation_demo.proofs.LoadLemmas.{first_before, next_before, none_yet, next_relation}
use Rattle.relation_demo.proofs.relations.relations.Goals as goal

pub loop-number-init : goal.loop-number-init
loop-number-init c = record {
  relations = c.new-relations.ensures ∙ none_yet c.args.seed;
  before = c.new-draws.ensures ∙ first_before c.args.seed;
}

pub loop-number-preserved : goal.loop-number-preserved
loop-number-preserved c =
    let seed = c.args.seed in
    let n = c.loop-number.number in
    record {
      relations = next_relation seed n c.loop-number.draws c.loop-number.relations c.push.new.self c.in_ok-relation.field-0
          c.loop-number.invariant.relations c.in_ok-push.ensures.ok c.loop-number.invariant.before c.in_ok-relation.ensures.relation;
      before = next_before seed n c.loop-number.draws c.relation.new.draws c.loop-number.invariant.before c.in_ok-relation.ensures.after;
    }
