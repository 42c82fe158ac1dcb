-- A desk over a script, which fails the calls that it is told to fail.
use Rattle.std.specs.Prelude.{ℕ, Bool, List, ◌≡◌, ◌==◌, Result, IsErr, IsTrue}
use Rattle.std.specs.List.{list_any}
use Rattle.pg_client.specs.Script.{Script}
use Rattle.pg_streams.specs.Counts.{raised}

-- What such a desk has: the script, the numbers of the calls that fail, and how many calls there were, those that failed among them.
pub record Flaky : Type 0 where
  pub script : Script
  pub fails : List ℕ
  pub made : ℕ

-- Whether the next call fails. Calls are numbered from 0.
abbrev pub is_next_refused : Flaky → Bool
is_next_refused d = list_any (λ call. call == d.made) d.fails

-- a call was counted, and the calls that fail are as before
pub record IsNextCall (old new : Flaky) : Type 0 where
  pub fails : new.fails ≡ old.fails
  pub made : new.made ≡ raised old.made

-- A call was counted. One that is told to fail does fail, and changes neither the calls that were answered nor the
-- answers to come.
pub record IsFlakyCall {T E : Type 0} (old new : Flaky) (result : Result T E) : Type 0 where
  pub next : IsNextCall old new
  pub refused : IsTrue (is_next_refused old) → IsErr result
  pub unchanged : IsTrue (is_next_refused old) → new.script ≡ old.script
