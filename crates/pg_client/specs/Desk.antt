-- A desk of the cancel registry, as contracts see it, and what calls leave as it was.
use Rattle.std.specs.Prelude.{ℕ, ℤ, List, [], ◌∷◌, ◌++◌, ◌≡◌, take}
use Rattle.pg_client.specs.declared.desk.DeskCall.{DeskCall}
use Rattle.pg_client.specs.declared.desk.DeskCall.TheVariants as desk

-- The pid and the key of the registration; the calls so far, with their answers; and the desk's origin: numbers that
-- identify what it was made over, so that the lender can check that it is still the same.
pub record DeskTold : Type 0 where
  pub registration : ℤ × List ℕ
  pub calls : List DeskCall
  pub origin : List ℕ

-- The registration after calls: Narrow leaves the first four bytes of its key, and no other call changes it.
abbrev pub narrowed : ℤ × List ℕ → List DeskCall → ℤ × List ℕ
narrowed registration [] = registration
narrowed registration (desk.Start ∷ calls) = narrowed registration calls
narrowed registration (desk.Ask told ∷ calls) = narrowed registration calls
narrowed registration (desk.Cancel pid key told ∷ calls) = narrowed registration calls
narrowed registration (desk.Narrow ∷ calls) = narrowed (registration.0, take 4 registration.1) calls

-- These calls were made, and nothing else has changed.
abbrev pub after_calls : DeskTold → List DeskCall → DeskTold
after_calls d made = record { registration = narrowed d.registration made; calls = d.calls ++ made; origin = d.origin }

-- Calls were made, and nothing else has changed: the registration is the old one, narrowed where one of the calls is Narrow.
pub record GoesOn (old new : DeskTold) : Type 0 where
  pub made : List DeskCall
  pub grown : new ≡ after_calls old made

-- The registration is the same, and so is what the desk was made over.
pub record KeepsDesk (old new : DeskTold) : Type 0 where
  pub same : new.registration ≡ old.registration
  pub origin : new.origin ≡ old.origin
