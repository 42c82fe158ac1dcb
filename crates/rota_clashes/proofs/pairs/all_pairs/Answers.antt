-- The pairs come from one of the two passes.
use Rattle.std.proofs.Common.{◌⊎◌, inl, inr}
use Rattle.rota_clashes.proofs.GainLemmas.{nothing_in}
use Rattle.rota_clashes.proofs.pairs.all_pairs.Goals as goal

pub returns-clause-only : goal.returns-clause-only
returns-clause-only c p h =
    elim (c.in_ok-push_running.ensures.only p h) [
      | inr running ↦ inr running
      | inl before ↦ elim (c.in_ok-push_begun.ensures.only p before) [
        | inr begun ↦ inl begun
        | inl none ↦ absurd (nothing_in p (rw c.new-pairs.ensures.items at none))
      ]
    ]
