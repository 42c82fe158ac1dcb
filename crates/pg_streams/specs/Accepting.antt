-- What is told of the connections that are to come, and of the jobs that were taken.
use Rattle.std.specs.Prelude.{List, ◌∷◌, ◌++◌, Option, Some, ◌≡◌, IfSome}

-- what is to come, where it is told, began with this and is now the rest
abbrev pub LosesFirst : {T : Type 0} → Option (List T) → Option (List T) → T → Type 0
LosesFirst {T} old new first = IfSome old (λ all. (rest : List T) × (all ≡ first ∷ rest) × (new ≡ Some rest))

-- what was taken, where it is told, has grown by these
abbrev pub Gains : {T : Type 0} → Option (List T) → Option (List T) → List T → Type 0
Gains old new more = IfSome old (λ before. new ≡ Some (before ++ more))
