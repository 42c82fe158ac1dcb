-- The words of the program.
use Rattle.std.specs.Prelude.{ℕ, ℤ, List, [], ◌∷◌, codes, Option, Some, None, is_some, slice_get, if◌then◌else◌}
use Rattle.std.specs.Str.{bytes_eq}
use Rattle.relation_words.specs.Commands.{pid_of}
use Rattle.relation_words.specs.Keys.{key_of}
use Rattle.pg_replay.specs.declared.words.Order.{Order}
use Rattle.pg_replay.specs.declared.words.Order.TheVariants as order

-- What words order: to record a session under a pid and a key, or to verify a recording.
pub data Ordered : Type 0 where
  Recording : ℤ → List ℕ → Ordered
  Verifying : Ordered

-- what the program's type holds
abbrev pub told_order : Order → Ordered
told_order (order.Record pid key) = Recording pid key
told_order order.Verify = Verifying

-- to record, where the pid and the key are good
abbrev pub recorded_under : Option ℤ → Option (List ℕ) → Option Ordered
recorded_under (Some pid) (Some key) = Some (Recording pid key)
recorded_under _ _ = None

-- `record FILE PID KEY` or `verify FILE`: FILE is any word, PID is 1 to 2147483647, and KEY an even number of hexadecimal digits of either
-- case, 8 to 512 of them. None for any other words.
abbrev pub order_of : List (List ℕ) → Option Ordered
order_of (command ∷ file ∷ []) = if bytes_eq command (codes "verify") then Some Verifying else None
order_of (command ∷ file ∷ pid ∷ key ∷ []) =
    if bytes_eq command (codes "record") then recorded_under (pid_of pid) (key_of key) else None
order_of _ = None

-- FILE of good words; None for any others.
abbrev pub file_of : List (List ℕ) → Option (List ℕ)
file_of words = if is_some (order_of words) then slice_get words 1 else None
