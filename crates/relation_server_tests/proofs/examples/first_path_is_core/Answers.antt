use Rattle.std.proofs.Common.{◌≡◌, ℤ, pos, List, [], ◌∷◌, refl}
use Rattle.relation_server_tests.proofs.examples.first_path_is_core.Goals as goal

not_empty : (code : ℤ) → ◌≡◌ {A = List ℤ} (code ∷ []) [] → ⊥
not_empty code e = cc

pub returns : goal.returns
returns c = λ served. (tt, ((not_empty (pos 1), (refl, tt)), (tt, (tt, (tt, tt)))))
