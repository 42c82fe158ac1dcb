use Rattle.rota_moments.specs.Rotas.{SumsFit}
use Rattle.rota_moments.proofs.RotaLemmas.{AreSums}
use Rattle.rota_moments.proofs.rotas.total.Given as goal

abbrev pub invariant-loop-place : goal.invariant-loop-place
invariant-loop-place l = AreSums l.sum l.steps l.place × SumsFit l.steps l.place
