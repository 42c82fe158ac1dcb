use Rattle.std.proofs.Common.{◌≡◌, List, [], ◌∷◌, ◌++◌, length, drop, All}
use Rattle.rota_moments.specs.declared.moment.Moment.{Moment}
use Rattle.rota_moments.specs.Moments.{IsMoment}
use Rattle.rota_moments.specs.Rotas.{moments_of}
use Rattle.rota_moments.proofs.RotaLemmas.{after_front}
use Rattle.rota_moments.proofs.rotas.rota.Given as goal

abbrev pub invariant-loop-place : goal.invariant-loop-place
invariant-loop-place l =
    (front : List Moment) × (l.moments ≡ front ++ l.last ∷ []) × (length front ≡ l.place)
    × (moments_of l.steps l.fn.start ≡ after_front front (moments_of (drop l.place l.steps) l.last))
    × All IsMoment l.moments
