-- A registry that answers from an empty list answers no.
use Rattle.std.proofs.Common.{◌≡◌, ℕ, zero, suc, Bool, false, List, [], ◌∷◌, length, refl, sym, ap, subst, ◌∙◌}
use Rattle.std.specs.List.{AllByRecursion}
use Rattle.pg_client.specs.declared.desk.DeskCall.{DeskCall}
use Rattle.pg_client.specs.Answer.{answers_of}
use Rattle.pg_client.specs.Script.{IsScripted, origin_of, scripted}

-- past the end of a list all is no
all_no : (n : ℕ) → AllByRecursion (λ yes. yes ≡ false) (scripted [] n)
all_no zero = tt
all_no (suc n) = (refl, all_no n)

-- no list but the empty one has its numbers
no_script : (script : List Bool) → origin_of script ≡ [] → script ≡ []
no_script [] e = refl
no_script (answer ∷ script) e = cc

-- the registry's calls since it was made
pub answered_no : (script left : List Bool) (calls made : List DeskCall) → origin_of script ≡ [] → IsScripted script left calls
    → calls ≡ made
    → AllByRecursion (λ yes. yes ≡ false) (answers_of made)
answered_no script left calls made origin is same =
    let empty = no_script script origin in
    let told : answers_of calls ≡ scripted [] (length (answers_of calls)) =
    is.answered ∙ ap (λ s. scripted s (length (answers_of calls))) empty in
    subst (λ k. AllByRecursion (λ yes. yes ≡ false) (answers_of k)) same
    (subst (λ l. AllByRecursion (λ yes. yes ≡ false) l) (sym told) (all_no (length (answers_of calls))))
