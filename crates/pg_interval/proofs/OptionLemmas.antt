-- `SomeIff` of a step that fails, and of the last step.
use Rattle.std.proofs.Common.{◌≡◌, ◌∙◌, Option, None, Some, sym, subst}
use Rattle.std.specs.Option.{SomeIff}
use Rattle.pg_interval.specs.declared.pg_interval.Interval.{Interval}
use Rattle.pg_interval.specs.Cell.{IsInterval}

-- a `None` that comes where the fact doesn't hold
pub SomeIff-none : {T : Type 0} (r : Option T) (P : Type 0) (v : T) → r ≡ None → ¬ P → SomeIff r P v
SomeIff-none {T} r P v none fails = let Iff : Option T → Type 0 = λ o. SomeIff o P v in subst Iff (sym none) fails

-- the same of a fact that goes both ways
pub SomeIff-along : {T : Type 0} (r : Option T) (P Q : Type 0) (v w : T) → SomeIff r P v → (P → Q) → (Q → P) → v ≡ w → SomeIff r Q w
SomeIff-along None P Q v w iff to from same = λ q. iff (from q)
SomeIff-along (Some x) P Q v w iff to from same = (to iff.0, iff.1 ∙ same)

-- the same at an interval that exists where it lies in its types
pub SomeIff-interval : (r : Option Interval) (Q : Type 0) (v w : Interval) → SomeIff r (IsInterval v) v → v ≡ w → (IsInterval w → Q)
    → (Q → IsInterval w) → SomeIff r Q w
SomeIff-interval r Q v w iff same to from =
    SomeIff-along r _ Q v w iff (λ fits. to (subst IsInterval same fits)) (λ q. subst IsInterval (sym same) (from q)) same
