-- Items that are made when they are asked for.
use Rattle.std.specs.Prelude.{ℕ, ◌+◌, Option, Some, None, Result, Ok, Err}
use Rattle.std.specs.declared.alloc.AllocError.{AllocError}

-- the position after a call: one further where an item was given, and the same at the end and after an AllocError
abbrev pub position_after : {A : Type 0} → ℕ → Result (Option A) AllocError → ℕ
position_after position (Ok (Some item)) = position + 1
position_after position (Ok None) = position
position_after position (Err e) = position
