use Rattle.std.proofs.Common.{◌≡◌, map, take}
use Rattle.built_in_relations.proofs.built_in.rows_of.Given as goal

abbrev pub invariant-loop-slice : goal.invariant-loop-slice
invariant-loop-slice l = l.rows ≡ map (λ slice. slice.now) (take l.slice-index l.slices)
