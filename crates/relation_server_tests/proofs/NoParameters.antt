-- A client without parameters.
use Rattle.std.proofs.Common.{arith, ◌≡◌, ℕ, List, [], ◌∷◌, length, refl, sym, subst, ◌∙◌}
use Rattle.std.specs.List.{AllByRecursion}
use Rattle.std.specs.Cmp.Lexicographic.{slice_cmp}
use Rattle.std.specs.Ordering.{nat_cmp}
use Rattle.std.specs.FinMap as fin
use Rattle.pg_results.specs.Clients.{HasShortMetadata}
use Rattle.pg_results.specs.Texts.{IsShortText}
use Rattle.pg_results.specs.declared.client.ClientInfo.{ClientInfo}

nil_of : {A : Type 0} (xs : List A) → length xs ≡ 0 → xs ≡ []
nil_of [] e = refl
nil_of (x ∷ xs) e = absurd (omega arith)

no_entries : {X : Type 0} → (let m : fin.FinMap (slice_cmp nat_cmp) X = fin.empty in fin.entries m) ≡ []
no_entries {X} = let m : fin.FinMap (slice_cmp nat_cmp) X = fin.empty in nil_of (fin.entries m) (sym (fin.len-entries m)
    ∙ fin.len-empty (slice_cmp nat_cmp) X)

pub short_without_parameters : (client : ClientInfo) → client.metadata ≡ fin.empty → HasShortMetadata client
short_without_parameters client none =
    rw none (subst (AllByRecursion (λ e. IsShortText e.0 × IsShortText e.1)) (sym no_entries) tt)
