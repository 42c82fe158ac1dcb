use Rattle.std.proofs.Common.{◌≡◌, ◌%◌, ◌-ℤ◌, pos, FitsSigned, rules, arith, ◌∙◌, ap}
use Rattle.std.specs.Int.{w32}
use Rattle.std.proofs.lemmas.Int.{ints, to_z-of_z}
use Rattle.relation_demo.specs.Draws.{after, draw}
use Rattle.relation_demo.proofs.DrawLemmas.{after-more, next_draw}
use Rattle.relation_demo.proofs.LoadLemmas.{cell_from}
use Rattle.relation_demo.proofs.relations.cell.Goals as goal

pub returns-clause-cell : goal.returns-clause-cell
returns-clause-cell c =
    let x = c.args.draws.now in
    let second : draw c.span-months.new.draws 0 ≡ draw x 1 =
    next_draw x 1 1 c.span-months.new.draws c.span-months.ensures.after (omega arith) in
    let two : c.span-days.new.draws ≡ after x 2 =
    after-more x 1 1 2 c.span-months.new.draws c.span-days.new.draws c.span-months.ensures.after c.span-days.ensures.after (omega arith) in
    let third : draw c.span-days.new.draws 0 ≡ draw x 2 = next_draw x 2 2 c.span-days.new.draws two (omega arith) in
    let months : FitsSigned w32 c.span-months.result = search rules in
    let days : FitsSigned w32 c.span-days.result = search rules in
    cell_from x c.new.result (c.new.ensures.months ∙ to_z-of_z w32 c.span-months.result months ∙ c.span-months.ensures.span)
    (c.new.ensures.days ∙ to_z-of_z w32 c.span-days.result days ∙ c.span-days.ensures.span ∙ ap (λ n. pos (n % 2001) -ℤ pos 1000) second)
    (omega (arith, ints, third))

pub returns-clause-after : goal.returns-clause-after
returns-clause-after c =
    let x = c.args.draws.now in
    let two : c.span-days.new.draws ≡ after x 2 =
    after-more x 1 1 2 c.span-months.new.draws c.span-days.new.draws c.span-months.ensures.after c.span-days.ensures.after (omega arith) in
    after-more x 2 1 3 c.span-days.new.draws c.draw.new.self two c.draw.ensures.after (omega arith)
