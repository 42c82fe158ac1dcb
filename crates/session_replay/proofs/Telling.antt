-- What calls tell, one call more.
use Rattle.std.proofs.Common.{◌≡◌, ◌<◌, ◌+◌, ◌++◌, ◌⊎◌, inl, inr, ℕ, ℤ, suc, Bool, List, [], ◌∷◌, refl, sym, ap, ◌∙◌, arith, get_or, length, take}
use Rattle.std.proofs.Math.Seq.{take-suc}
use Rattle.pg_client.specs.declared.desk.DeskCall.{DeskCall}
use Rattle.pg_client.specs.declared.desk.DeskCall.TheVariants as desk
use Rattle.pg_client.specs.Answer.{answers_of}
use Rattle.conversation_table.specs.Questions.{questions}
use Rattle.pg_client.proofs.Scripts.{answers_of-append}
use Rattle.conversation_runs.proofs.Spending.{questions-append}

module _ (calls : List DeskCall) (n : ℕ) (call : DeskCall) (inside : n < length calls) (is : call ≡ get_or calls n call) where
  one_more : take (n + 1) calls ≡ take n calls ++ call ∷ []
  one_more =
      let next : n + 1 ≡ suc n = omega arith in
      ap (λ k. take k calls) next ∙ take-suc calls n call inside ∙ ap (λ x. take n calls ++ x ∷ []) (sym is)

  pub questions_further : questions (take (n + 1) calls) ≡ questions (take n calls) + questions (call ∷ [])
  questions_further = ap questions one_more ∙ questions-append (take n calls) (call ∷ [])

  pub answers_further : answers_of (take (n + 1) calls) ≡ answers_of (take n calls) ++ answers_of (call ∷ [])
  answers_further = ap answers_of one_more ∙ answers_of-append (take n calls) (call ∷ [])

-- no other call is a question
pub asks_nothing : (call : DeskCall) → ((told : Bool) → call ≡ desk.Ask told → ⊥) → questions (call ∷ []) ≡ 0
asks_nothing (desk.Ask told) none = absurd (none told refl)
asks_nothing desk.Start none = refl
asks_nothing (desk.Cancel pid key told) none = refl
asks_nothing desk.Narrow none = refl

-- a call without an answer
pub tells_none : (call : DeskCall) → (call ≡ desk.Start) ⊎ (call ≡ desk.Narrow) → answers_of (call ∷ []) ≡ []
tells_none call (inl e) = ap (λ k. answers_of (k ∷ [])) e
tells_none call (inr e) = ap (λ k. answers_of (k ∷ [])) e

-- a call with an answer
pub tells_one : (call : DeskCall) (told : Bool)
    → (call ≡ desk.Ask told) ⊎ ((pid : ℤ) × (key : List ℕ) × (call ≡ desk.Cancel pid key told)) → answers_of (call ∷ []) ≡ told ∷ []
tells_one call told (inl e) = ap (λ k. answers_of (k ∷ [])) e
tells_one call told (inr e) = ap (λ k. answers_of (k ∷ [])) e.2
