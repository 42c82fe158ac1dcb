use Rattle.std.proofs.Common.{◌≡◌, map, take}
use Rattle.built_in_relations.proofs.built_in.names.Given as goal

abbrev pub invariant-loop-text : goal.invariant-loop-text
invariant-loop-text l = l.names ≡ map (λ text. text.now) (take l.text-index l.texts)
