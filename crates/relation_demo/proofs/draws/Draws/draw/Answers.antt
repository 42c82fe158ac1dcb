use Rattle.std.proofs.Common.{◌/◌, ◌^◌, ap, ◌∙◌}
use Rattle.relation_demo.specs.Draws.{after, draw}
use Rattle.relation_demo.proofs.draws.Draws.draw.Goals as goal

pub returns-clause-draw : goal.returns-clause-draw
unfolding draw
returns-clause-draw c = ap (λ x. x / 2 ^ 33) (c.stepped-self-inside.ensures ∙ ap (λ x. after x 1) c.self.view_is)
