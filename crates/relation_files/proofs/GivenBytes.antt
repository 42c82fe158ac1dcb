-- The bytes that a file gave, read by read.
use Rattle.std.proofs.Common.{◌≡◌, ℕ, List, [], ◌++◌, Option, Some, None, IfSome, take, drop, refl, sym, ap, subst, ◌∙◌, append_assoc}
use Rattle.std.proofs.lemmas.List.{take-append-drop, append-nil}
use Rattle.conversation_runs.specs.Streams.{GivesFront}
use Rattle.relation_files.specs.Files.{Gave, GaveAll}

pub gave_none : (left : Option (List ℕ)) → Gave left left []
gave_none None = tt
gave_none (Some told) = (told, refl, refl)

-- one more read
pub gave_more : (left mid new_left : Option (List ℕ)) (taken : List ℕ) (n : ℕ) (into : List ℕ) → Gave left mid taken
    → IfSome mid (λ bytes. GivesFront n into bytes new_left) → Gave left new_left (taken ++ take n into)
gave_more None mid new_left taken n into t g = tt
gave_more (Some told) mid new_left taken n into t g =
    let given : GivesFront n into t.0 new_left = subst (λ o. IfSome o (λ bytes. GivesFront n into bytes new_left)) t.2 g in (
      drop n t.0,
      t.1 ∙ ap (λ l. taken ++ l) (sym (take-append-drop n t.0)) ∙ sym (append_assoc taken (take n t.0) (drop n t.0))
          ∙ ap (λ l. (taken ++ l) ++ drop n t.0) (sym given.given),
      given.rest,
    )

-- a read that gave nothing
pub gave_all : (left mid new_left : Option (List ℕ)) (taken : List ℕ) (n : ℕ) (into : List ℕ) → Gave left mid taken
    → IfSome mid (λ bytes. GivesFront n into bytes new_left) → n ≡ 0 → GaveAll left new_left taken
gave_all None mid new_left taken n into t g none = tt
gave_all (Some told) mid new_left taken n into t g none =
    let given : GivesFront n into t.0 new_left = subst (λ o. IfSome o (λ bytes. GivesFront n into bytes new_left)) t.2 g in
    let end : t.0 ≡ [] = given.at_end none in (
      t.1 ∙ ap (λ l. taken ++ l) end ∙ append-nil taken,
      given.rest ∙ ap Some (ap (λ k. drop k t.0) none ∙ end),
    )
