-- What a list gains. No public contract cites it.
use Rattle.std.specs.Prelude.{◌⊎◌, List}
use Rattle.std.specs.List.{Contains}

-- the new list has what the old one had, and all that P holds of
pub record Gains {X : Type 0} (old new : List X) (P : X → Type 0) : Type 0 where
  pub kept : (x : X) → Contains old x → Contains new x
  pub found : (x : X) → P x → Contains new x
  pub only : (x : X) → Contains new x → Contains old x ⊎ P x
