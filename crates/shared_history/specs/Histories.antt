-- Beginnings of one history.
use Rattle.std.specs.Prelude.{◌⊎◌, List}
use mathlib.Core.List.{IsPrefix}

-- both are beginnings of one history: one of them begins the other
abbrev pub IsOneHistory : {C : Type 0} → List C → List C → Type 0
IsOneHistory xs ys = IsPrefix xs ys ⊎ IsPrefix ys xs
